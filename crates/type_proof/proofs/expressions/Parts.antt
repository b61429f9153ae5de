-- A member's cells among those of a struct.
use Rattle.std.proofs.Common.{◌≡◌, ℕ, suc, ◌+◌, Bool, true, false, Some, List, [], ◌∷◌, ◌++◌, refl, sym, ◌∙◌, ap, arith}
use Rattle.std.specs.Prelude.{bytes_eq, map, length, if◌then◌else◌}
use Rattle.source_meaning.specs.Shapes as shapes
use Rattle.source_meaning.specs.Shapes.{Shape}
use Rattle.source_meaning.specs.Memory.{Region}
use Rattle.source_meaning.specs.Steps.{World}
use Rattle.source_meaning.specs.Conversions.{cells_of}
use Rattle.source_meaning.specs.Sizes.{cells_before}
use Rattle.source_typing.specs.Tables as typing
use Rattle.source_typing.specs.Tables.{part_in}
use Rattle.source_typing.specs.Types.{StaticType, shape_of, renamed}
use Rattle.type_proof.specs.Flat.{Tables, flat, flat_all}
use Rattle.type_proof.specs.Structs.{AreMembers}
use Rattle.type_proof.proofs.invariant.Invariant.{RunType, heap}
use Rattle.type_proof.proofs.invariant.Arguments.{Agrees}
use Rattle.type_proof.proofs.invariant.Names.{NameOf}
use Rattle.type_proof.proofs.invariant.Sound.{shape_renamed}

same_type : (p q : typing.Part) (t u : StaticType) → Some p ≡ Some q → p.type ≡ Some t → q.type ≡ Some u → t ≡ u
same_type p q t u e a c = let z : p ≡ q = cc in let y : p.type ≡ q.type = ap (λ (r : typing.Part). r.type) z in cc

through : {A : Type 0} (xs ys zs : List A) → (xs ++ ys) ++ zs ≡ xs ++ (ys ++ zs)
through [] ys zs = refl
through (x ∷ xs) ys zs = ap (λ l. x ∷ l) (through xs ys zs)

count_both : {A : Type 0} (xs ys : List A) → length (xs ++ ys) ≡ length xs + length ys
count_both [] ys = omega arith
count_both (x ∷ xs) ys = ap suc (count_both xs ys) ∙ omega arith

mapped : {A B : Type 0} (h : A → B) (xs : List A) → length (map h xs) ≡ length xs
mapped h [] = refl
mapped h (x ∷ xs) = ap suc (mapped h xs)

pub record Part (d : Tables) (f : NameOf → Region) (all : List RunType) (before : ℕ) (u : StaticType) : Type 0 where
  pub first : List RunType
  pub others : List RunType
  pub cells : all ≡ first ++ (flat heap d (renamed f u) ++ others)
  pub count : before ≡ length first

pub member_cells : (d : Tables) (world : World) (f : NameOf → Region) → Agrees world d → (ps : List typing.Part) (qs : List shapes.Part)
    (ts : List StaticType) (x : List ℕ) (part : typing.Part) (u : StaticType) → AreMembers ps qs ts → part_in ps x ≡ Some part → part.type ≡ Some u
    → Part d f (flat_all (flat heap d) (map (renamed f) ts)) (cells_before (cells_of world) qs x) u
member_cells d world f same [] [] [] x part u h e z = absurd cc
member_cells d world f same (p ∷ ps) (q ∷ qs) (t ∷ ts) x part u h e z =
    by (bytes_eq p.name x) (bytes_eq q.name x) (ap (λ (y : List ℕ). bytes_eq y x) h.0) e
    (λ v. member_cells d world f same ps qs ts x part u h.3 v z)
  where
    first : List RunType
    first = flat heap d (renamed f t)

    others : List RunType
    others = flat_all (flat heap d) (map (renamed f) ts)

    count : length (cells_of world q.shape) ≡ length first
    count = ap (λ (y : Shape). length (cells_of world y)) (h.2 ∙ sym (shape_renamed f t)) ∙ ap length (same (renamed f t)) ∙ mapped shape_of first

    by : (b c : Bool) → b ≡ c → (if b then Some p else part_in ps x) ≡ Some part
        → (part_in ps x ≡ Some part → Part d f others (cells_before (cells_of world) qs x) u)
        → Part d f (first ++ others) (if c then 0 else length (cells_of world q.shape) + cells_before (cells_of world) qs x) u
    by true true v e more = record {
      first = [];
      others = others;
      cells = ap (λ (y : StaticType). flat heap d (renamed f y) ++ others) (same_type p part t u e h.1 z);
      count = refl;
    }
    by false false v e more =
        let r : Part d f others (cells_before (cells_of world) qs x) u = more e in
        record {
          first = first ++ r.first;
          others = r.others;
          cells = ap (λ (y : List RunType). first ++ y) r.cells ∙ sym (through first r.first (flat heap d (renamed f u) ++ r.others));
          count = (let a : length (cells_of world q.shape) ≡ length first = count in let c : cells_before (cells_of world) qs x ≡ length r.first = r.count in
              ap (λ (n : ℕ). n + cells_before (cells_of world) qs x) a ∙ ap (λ (n : ℕ). length first + n) c ∙ sym (count_both first r.first));
        }
    by true false v e more = absurd cc
    by false true v e more = absurd cc
member_cells d world f same [] [] (t ∷ ts) x part u h e z = absurd h
member_cells d world f same [] (q ∷ qs) ts x part u h e z = absurd h
member_cells d world f same (p ∷ ps) [] ts x part u h e z = absurd h
member_cells d world f same (p ∷ ps) (q ∷ qs) [] x part u h e z = absurd h
