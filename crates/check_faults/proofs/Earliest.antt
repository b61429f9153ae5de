-- The fault that is answered of two lists of faults is one of those that are answered of each.
use Rattle.std.specs.Prelude.{nat_le, unwrap_or, ◌++◌, if◌then◌else◌}
use Rattle.std.proofs.Common.{◌≡◌, ℕ, Bool, true, false, Option, Some, None, List, [], ◌∷◌, refl, sym, ◌∙◌, ap, arith}
use Rattle.std.proofs.lemmas.Bool.Decides.{nat_tests}
use Rattle.source_typing.specs.Faults.{Fault, earliest, is_before, is_of_flow, rank_of, sooner_of}
use Rattle.check_faults.specs.Faults.{fault_of, faults_of, first_found, first_of, sooner_found}
use Rattle.check_faults.specs.declared.fault.Fault as code

-- ---- of three faults, each two are compared

abbrev pub before_by : Bool → Bool → Bool → Bool
before_by false true ranked = true
before_by true false ranked = false
before_by a b ranked = ranked

pub is_by : (f g : Fault) → is_before f g ≡ before_by (is_of_flow f.kind) (is_of_flow g.kind) (nat_le (rank_of f) (rank_of g))
is_by f g = by (is_of_flow f.kind) (is_of_flow g.kind) refl refl
  where
    by : (a b : Bool) → is_of_flow f.kind ≡ a → is_of_flow g.kind ≡ b → is_before f g ≡ before_by a b (nat_le (rank_of f) (rank_of g))
    by true true p q = grind (arith, p, q)
    by true false p q = grind (arith, p, q)
    by false true p q = grind (arith, p, q)
    by false false p q = grind (arith, p, q)

module _ (f g h : Fault) where
  abbrev compared : Bool → Fault → Fault → Type 0
  compared t a b = (is_before a b ≡ t)

  -- by the phases of all three
  through : (t a b c : Bool) (m n k : ℕ) → before_by a b (nat_le m n) ≡ t → before_by b c (nat_le n k) ≡ t → before_by a c (nat_le m k) ≡ t
  through true true true true m n k p q = grind (arith, nat_tests, p, q)
  through true true true false m n k p q = q
  through true true false true m n k p q = absurd cc
  through true true false false m n k p q = absurd cc
  through true false true true m n k p q = refl
  through true false true false m n k p q = absurd cc
  through true false false true m n k p q = refl
  through true false false false m n k p q = grind (arith, nat_tests, p, q)
  through false true true true m n k p q = grind (arith, nat_tests, p, q)
  through false true true false m n k p q = refl
  through false true false true m n k p q = absurd cc
  through false true false false m n k p q = refl
  through false false true true m n k p q = absurd cc
  through false false true false m n k p q = absurd cc
  through false false false true m n k p q = absurd cc
  through false false false false m n k p q = grind (arith, nat_tests, p, q)

  -- what holds from one to the next holds from the first to the last
  through_all : (t : Bool) → compared t f g → compared t g h → compared t f h
  through_all t p q =
      is_by f h
      ∙ through t (is_of_flow f.kind) (is_of_flow g.kind) (is_of_flow h.kind) (rank_of f) (rank_of g) (rank_of h) (sym (is_by f g) ∙ p) (sym (is_by g h) ∙ q)

  abbrev sooner : Fault → Fault → Fault
  sooner a b = (if is_before a b then a else b)

  sooner_joined : sooner f (sooner g h) ≡ sooner (sooner f g) h
  sooner_joined = by (is_before f g) (is_before g h) refl refl
    where
      by : (t u : Bool) → is_before f g ≡ t → is_before g h ≡ u → sooner f (if u then g else h) ≡ sooner (if t then f else g) h
      by true true p q = ap (λ (b : Bool). if b then f else g) p ∙ sym (ap (λ (b : Bool). if b then f else h) (through_all true p q))
      by true false p q = refl
      by false true p q = ap (λ (b : Bool). if b then f else g) p ∙ sym (ap (λ (b : Bool). if b then g else h) q)
      by false false p q = ap (λ (b : Bool). if b then f else h) (through_all false p q) ∙ sym (ap (λ (b : Bool). if b then g else h) q)

pub sooner_first : (f : Fault) (a b : Option Fault) → sooner_of f (first_of a b) ≡ first_of (sooner_of f a) b
sooner_first f None b = refl
sooner_first f (Some g) None = refl
sooner_first f (Some g) (Some h) = ap Some (sooner_joined f g h)

pub first_joined : (a b c : Option Fault) → first_of (first_of a b) c ≡ first_of a (first_of b c)
first_joined None b c = refl
first_joined (Some f) b c = sym (sooner_first f b c)

pub first_none : (a : Option Fault) → first_of a None ≡ a
first_none None = refl
first_none (Some f) = refl

-- the sooner of a fault and another is some fault
pub sooner_some : (f : Fault) (o : Option Fault) → Some (unwrap_or (sooner_of f o) f) ≡ sooner_of f o
sooner_some f None = refl
sooner_some f (Some g) = refl

pub sooner_none : (f : Fault) (o : Option Fault) → None ≡ sooner_of f o → ⊥
sooner_none f None e = absurd cc
sooner_none f (Some g) e = absurd cc

-- the fault that is answered of two lists
pub earliest_of_both : (fs gs : List Fault) → earliest (fs ++ gs) ≡ first_of (earliest fs) (earliest gs)
earliest_of_both [] gs = refl
earliest_of_both (f ∷ fs) gs = ap (λ o. sooner_of f o) (earliest_of_both fs gs) ∙ sooner_first f (earliest fs) (earliest gs)

-- ---- in code

found_first : (f g : code.Fault) → fault_of (first_found f g) ≡ (if is_before (fault_of f) (fault_of g) then fault_of f else fault_of g)
found_first f g = by (is_before (fault_of f) (fault_of g))
  where
    by : (b : Bool) → fault_of (if b then f else g) ≡ (if b then fault_of f else fault_of g)
    by true = refl
    by false = refl

pub found_sooner : (a b : Option code.Fault) → faults_of (sooner_found a b) ≡ first_of (faults_of a) (faults_of b)
found_sooner None b = refl
found_sooner (Some f) None = refl
found_sooner (Some f) (Some g) = ap Some (found_first f g)
