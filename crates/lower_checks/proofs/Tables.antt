-- Tables of names: what is first stays first.
use Rattle.std.proofs.Common.{◌≡◌, ◌∙◌, ℕ, suc, ◌+◌, refl, ap, List, [], ◌∷◌, Bool, true, false, Option, Some, None, if◌then◌else◌, arith}
use Rattle.std.specs.Prelude.{bytes_eq, option_map, IfSome}
use Rattle.cyc_tree.specs.Tree as tree
use Rattle.source_meaning.specs.Steps.{Entity}
use Rattle.source_meaning.specs.Places.{or_else}
use Rattle.source_meaning.specs.Calls.{function_of}
use Rattle.source_meaning.specs.Programs.{functions_of, routine_of}
use Rattle.source_lowering.specs.Lowered.{number_of}
use Rattle.cyc_tree.specs.View.{function_tree}
use Rattle.lower_checks.specs.Tables.{Numbered, callee_tree, first_function}
use Rattle.lower_checks.specs.Views.{found_entity}
use Rattle.lower_checks.specs.declared.table.Callee.{Callee}
use Rattle.lower_checks.specs.declared.table.Found.{Found}

-- one more of a name, in front of the rest
pub first_kept : {V W : Type 0} (f : V → W) (old : Option V) (own : Bool) (value : V) (rest : Option W)
    → or_else (option_map f (or_else old (if own then Some value else None))) rest ≡ or_else (option_map f old) (if own then Some (f value) else rest)
first_kept f (Some v) own value rest = refl
first_kept f None true value rest = refl
first_kept f None false value rest = refl

-- so of a global
pub global_kept : (old new : Option Found) (own : Bool) (value : Found) (e : Entity) (rest : Option Entity)
    → new ≡ or_else old (if own then Some value else None) → found_entity value ≡ e
    → or_else (option_map found_entity new) rest ≡ or_else (option_map found_entity old) (if own then Some e else rest)
global_kept old new own value e rest is value_is =
    ap (λ n. or_else (option_map found_entity n) rest) is
    ∙ first_kept found_entity old own value rest
    ∙ ap (λ x. or_else (option_map found_entity old) (if own then Some x else rest)) value_is

mapped_if : {A B : Type 0} (f : A → B) (own : Bool) (a b : Option A) → option_map f (if own then a else b) ≡ (if own then option_map f a else option_map f b)
mapped_if f true a b = refl
mapped_if f false a b = refl

-- it is the function of that name
pub first_is : (items : List tree.Item) (k : ℕ) (name : List ℕ)
    → option_map (λ n. routine_of n.function) (first_function items k name) ≡ function_of (functions_of items) name
first_is [] k name = refl
first_is (tree.FunctionItem f ∷ items) k name =
    mapped_if (λ n. routine_of n.function) (bytes_eq f.name.text name) (Some (record { function = f; number = k })) (first_function items (suc k) name)
    ∙ ap (λ o. if bytes_eq f.name.text name then Some (routine_of f) else o) (first_is items (suc k) name)
first_is (tree.GlobalItem g ∷ items) k name = first_is items k name
first_is (tree.StructItem s ∷ items) k name = first_is items k name
first_is (tree.UnionItem u ∷ items) k name = first_is items k name

numbered_if : (own : Bool) (f : tree.Function) (k n : ℕ) (rest : Option Numbered) → IfSome rest (λ m. m.number ≡ suc k + n)
    → IfSome (if own then Some (record { function = f; number = k }) else rest) (λ m. m.number ≡ k + (if own then 0 else suc n))
numbered_if true f k n rest h = omega arith
numbered_if false f k n (Some m) h = omega (arith, h)
numbered_if false f k n None h = tt

-- numbers from 0 on
pub from_zero : (n : ℕ) (found : Option Numbered) → IfSome found (λ m. m.number ≡ 0 + n) → IfSome found (λ m. m.number ≡ n)
from_zero n (Some m) h = omega (arith, h)
from_zero n None h = tt

-- it has that name's number
pub first_number : (items : List tree.Item) (k : ℕ) (name : List ℕ)
    → IfSome (first_function items k name) (λ n. n.number ≡ k + number_of (functions_of items) name)
first_number [] k name = tt
first_number (tree.FunctionItem f ∷ items) k name =
    numbered_if (bytes_eq f.name.text name) f k (number_of (functions_of items) name) (first_function items (suc k) name) (first_number items (suc k) name)
first_number (tree.GlobalItem g ∷ items) k name = first_number items k name
first_number (tree.StructItem s ∷ items) k name = first_number items k name
first_number (tree.UnionItem u ∷ items) k name = first_number items k name

-- ---- what the code has is seen as that

pub callee_routine : (found : Option Callee)
    → option_map (λ c. routine_of (function_tree c.function.now)) found ≡ option_map (λ n. routine_of n.function) (option_map callee_tree found)
callee_routine (Some c) = refl
callee_routine None = refl

pub if_callee : (P : Numbered → Type 0) (found : Option Callee) → IfSome (option_map callee_tree found) P → IfSome found (λ c. P (callee_tree c))
if_callee P (Some c) h = h
if_callee P None h = tt
