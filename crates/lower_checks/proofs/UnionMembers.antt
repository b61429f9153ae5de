-- The members of unions: the first of a name has the number and the shape that the rules give it, and a tag keeps the members of its first union.
use Rattle.std.proofs.Common.{◌≡◌, ◌∙◌, ℕ, suc, ◌+◌, refl, sym, ap, subst, List, [], ◌∷◌, Bool, true, false, Option, Some, None, if◌then◌else◌, arith}
use Rattle.std.specs.Prelude.{bytes_eq, is_some, option_map, IfSome}
use Rattle.source_meaning.specs.Shapes.{Part, Shape, part_position, part_shape}
use Rattle.lower_checks.specs.UnionMembers.{AreMet, HasMembers, NumberedShape, chosen_tree, member_from}
use Rattle.lower_checks.specs.Views.{shape_tree}
use Rattle.lower_checks.specs.declared.first.Firsts.{Firsts}
use Rattle.lower_checks.specs.declared.union_members.Chosen.{Chosen}

-- ---- the first member of a name

number_if : (own : Bool) (k : ℕ) (s : Shape) (rest : Option NumberedShape) (found : Option ℕ)
    → option_map (λ m. m.number) rest ≡ option_map (λ n. suc k + n) found
    → option_map (λ m. m.number) (if own then Some (record { number = k; shape = s }) else rest)
    ≡ option_map (λ n. k + n) (if own then Some 0 else option_map (λ n. n + 1) found)
number_if true k s rest found h = ap Some (omega arith)
number_if false k s rest None h = h
number_if false k s rest (Some n) h = h ∙ ap Some (omega arith)

-- its number is its position
numbered : (ps : List Part) (k : ℕ) (name : List ℕ) → option_map (λ m. m.number) (member_from ps k name) ≡ option_map (λ n. k + n) (part_position ps name)
numbered [] k name = refl
numbered (p ∷ ps) k name = number_if (bytes_eq p.name name) k p.shape (member_from ps (suc k) name) (part_position ps name) (numbered ps (suc k) name)

shape_if : (own : Bool) (k : ℕ) (s : Shape) (rest : Option NumberedShape) (t : Shape) → IfSome rest (λ m. m.shape ≡ t)
    → IfSome (if own then Some (record { number = k; shape = s }) else rest) (λ m. m.shape ≡ (if own then s else t))
shape_if true k s rest t h = refl
shape_if false k s rest t h = h

shaped : (ps : List Part) (k : ℕ) (name : List ℕ) → IfSome (member_from ps k name) (λ m. m.shape ≡ part_shape ps name)
shaped [] k name = tt
shaped (p ∷ ps) k name = shape_if (bytes_eq p.name name) k p.shape (member_from ps (suc k) name) (part_shape ps name) (shaped ps (suc k) name)

-- ---- so it is in code

number_in : (found : Option Chosen) → option_map (λ m. m.number) found ≡ option_map (λ m. m.number) (option_map chosen_tree found)
number_in (Some m) = refl
number_in None = refl

from_zero : (found : Option ℕ) → option_map (λ n. 0 + n) found ≡ found
from_zero (Some n) = ap Some (omega arith)
from_zero None = refl

pub chosen_number : (ps : List Part) (name : List ℕ) (found : Option Chosen) → option_map chosen_tree found ≡ member_from ps 0 name
    → option_map (λ m. m.number) found ≡ part_position ps name
chosen_number ps name found is =
    number_in found ∙ ap (option_map (λ (m : NumberedShape). m.number)) is ∙ numbered ps 0 name ∙ from_zero (part_position ps name)

pub chosen_shape : (ps : List Part) (name : List ℕ) (found : Option Chosen) → option_map chosen_tree found ≡ member_from ps 0 name
    → IfSome found (λ m. shape_tree m.shape ≡ part_shape ps name)
chosen_shape ps name None is = tt
chosen_shape ps name (Some m) is = subst (λ o. IfSome o (λ x. x.shape ≡ part_shape ps name)) (sym is) (shaped ps 0 name)

-- ---- one union more

-- of a tag that has a table
pub met_again : (found : Option (Firsts Chosen)) (own : Bool) (ps rest all : List Part) → (own ≡ true → is_some found ≡ true)
    → AreMet found (if own then ps else rest) all → AreMet found rest all
met_again (Some table) own ps rest all has h = h
met_again None true ps rest all has h = absurd cc (has refl)
met_again None false ps rest all has h = h

-- of a tag that has none
pub met_first : (found next : Option (Firsts Chosen)) (own : Bool) (table : Firsts Chosen) (ps rest all : List Part) → (own ≡ true → found ≡ None)
    → HasMembers table ps → next ≡ (if own then Some table else found) → AreMet found (if own then ps else rest) all → AreMet next rest all
met_first found next true table ps rest all absent has is h =
    let same : ps ≡ all = subst (λ o. AreMet o ps all) (absent refl) h in
    subst (λ o. AreMet o rest all) (sym is) (subst (HasMembers table) same has)
met_first found next false table ps rest all absent has is h = subst (λ o. AreMet o rest all) (sym is) h
