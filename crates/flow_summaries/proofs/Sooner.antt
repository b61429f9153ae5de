-- The sooner of faults in code, in whatever order they are looked at.
use Rattle.std.specs.Prelude.{nat_eq, nat_le, if◌then◌else◌}
use Rattle.std.proofs.Common.{◌≡◌, ◌<◌, ℕ, Bool, true, false, Option, Some, None, refl, sym, ◌∙◌, ap, arith}
use Rattle.std.proofs.lemmas.Bool.Decides.{nat_tests}
use Rattle.source_typing.specs.Faults.{is_before, is_of_flow, rank_of}
use Rattle.check_faults.specs.Faults.{fault_of, faults_of, first_found, first_of, number_of, sooner_found}
use Rattle.check_faults.specs.declared.fault.Fault.{Fault}
use Rattle.check_faults.specs.declared.fault.FaultKind.{FaultKind}
use Rattle.check_faults.specs.declared.fault.FaultKind.TheVariants as kind
use Rattle.check_faults.proofs.Earliest.{before_by, first_joined, found_sooner, is_by}
use Rattle.source_typing.specs.Faults as rules

-- ---- a fault in code is known by its number and place

abbrev kind_numbered : ℕ → FaultKind
kind_numbered n =
    (if nat_eq n 4 then kind.Name else if nat_eq n 5 then kind.Typing else if nat_eq n 6 then kind.Region else if nat_eq n 7 then kind.Outlives
    else if nat_eq n 8 then kind.Effect else if nat_eq n 9 then kind.Consumed else if nat_eq n 10 then kind.Lent else if nat_eq n 11 then kind.Copy
    else kind.Size)

kind_known : (k : FaultKind) → kind_numbered (number_of k) ≡ k
kind_known kind.Name = refl
kind_known kind.Typing = refl
kind_known kind.Region = refl
kind_known kind.Outlives = refl
kind_known kind.Effect = refl
kind_known kind.Consumed = refl
kind_known kind.Lent = refl
kind_known kind.Copy = refl
kind_known kind.Size = refl

number_within : (k : FaultKind) → number_of k < 16
number_within kind.Name = omega arith
number_within kind.Typing = omega arith
number_within kind.Region = omega arith
number_within kind.Outlives = omega arith
number_within kind.Effect = omega arith
number_within kind.Consumed = omega arith
number_within kind.Lent = omega arith
number_within kind.Copy = omega arith
number_within kind.Size = omega arith

same_fault : (f g : Fault) → number_of f.kind ≡ number_of g.kind → f.at ≡ g.at → f ≡ g
same_fault f g n e =
    let k : f.kind ≡ g.kind = sym (kind_known f.kind) ∙ ap kind_numbered n ∙ kind_known g.kind in
    λ i. record { kind = k i; at = e i }

abbrev coded : rules.Fault → Fault
coded f = record { kind = kind_numbered f.kind; at = f.at }

abbrev all_coded : Option rules.Fault → Option Fault
all_coded None = None
all_coded (Some f) = Some (coded f)

faults_known : (o : Option Fault) → all_coded (faults_of o) ≡ o
faults_known None = refl
faults_known (Some f) = ap Some (same_fault (coded (fault_of f)) f (ap number_of (kind_known f.kind)) refl)

same_faults : (a b : Option Fault) → faults_of a ≡ faults_of b → a ≡ b
same_faults a b e = sym (faults_known a) ∙ ap all_coded e ∙ faults_known b

-- ---- of two

both_before : (a b : Bool) (m n : ℕ) → before_by a b (nat_le m n) ≡ true → before_by b a (nat_le n m) ≡ true → m ≡ n
both_before true true m n p q = grind (arith, nat_tests, p, q)
both_before true false m n p q = absurd cc
both_before false true m n p q = absurd cc
both_before false false m n p q = grind (arith, nat_tests, p, q)

none_before : (a b : Bool) (m n : ℕ) → before_by a b (nat_le m n) ≡ false → before_by b a (nat_le n m) ≡ false → m ≡ n
none_before true true m n p q = grind (arith, nat_tests, p, q)
none_before true false m n p q = absurd cc
none_before false true m n p q = absurd cc
none_before false false m n p q = grind (arith, nat_tests, p, q)

same_rank : (f g : Fault) → rank_of (fault_of f) ≡ rank_of (fault_of g) → f ≡ g
same_rank f g e =
    let within : number_of f.kind < 16 = number_within f.kind in
    let below : number_of g.kind < 16 = number_within g.kind in
    same_fault f g (omega (arith, e, within, below)) (omega (arith, e, within, below))

found_turned : (f g : Fault) → first_found f g ≡ first_found g f
found_turned f g = by (is_before (fault_of f) (fault_of g)) (is_before (fault_of g) (fault_of f)) refl refl
  where
    by : (t u : Bool) → is_before (fault_of f) (fault_of g) ≡ t → is_before (fault_of g) (fault_of f) ≡ u
        → (if t then f else g) ≡ (if u then g else f)
    by true false p q = refl
    by false true p q = refl
    by true true p q =
        same_rank f g (both_before (is_of_flow (number_of f.kind)) (is_of_flow (number_of g.kind)) (rank_of (fault_of f)) (rank_of (fault_of g))
        (sym (is_by (fault_of f) (fault_of g)) ∙ p) (sym (is_by (fault_of g) (fault_of f)) ∙ q))
    by false false p q =
        sym (same_rank f g (none_before (is_of_flow (number_of f.kind)) (is_of_flow (number_of g.kind)) (rank_of (fault_of f)) (rank_of (fault_of g))
        (sym (is_by (fault_of f) (fault_of g)) ∙ p) (sym (is_by (fault_of g) (fault_of f)) ∙ q)))

-- ---- of any

pub sooner_turned : (a b : Option Fault) → sooner_found a b ≡ sooner_found b a
sooner_turned None None = refl
sooner_turned None (Some g) = refl
sooner_turned (Some f) None = refl
sooner_turned (Some f) (Some g) = ap Some (found_turned f g)

pub none_later : (a : Option Fault) → sooner_found a None ≡ a
none_later None = refl
none_later (Some f) = refl

pub sooner_joined : (a b c : Option Fault) → sooner_found (sooner_found a b) c ≡ sooner_found a (sooner_found b c)
sooner_joined a b c =
    same_faults (sooner_found (sooner_found a b) c) (sooner_found a (sooner_found b c))
    (found_sooner (sooner_found a b) c
    ∙ ap (λ o. first_of o (faults_of c)) (found_sooner a b)
    ∙ first_joined (faults_of a) (faults_of b) (faults_of c)
    ∙ ap (λ o. first_of (faults_of a) o) (sym (found_sooner b c))
    ∙ sym (found_sooner a (sooner_found b c)))

-- the sooner of four, two and two
pub sooner_crossed : (a b c d : Option Fault) → sooner_found (sooner_found a b) (sooner_found c d) ≡ sooner_found (sooner_found a c) (sooner_found b d)
sooner_crossed a b c d =
    sooner_joined a b (sooner_found c d)
    ∙ ap (λ o. sooner_found a o) (sym (sooner_joined b c d) ∙ ap (λ o. sooner_found o d) (sooner_turned b c) ∙ sooner_joined c b d)
    ∙ sym (sooner_joined a c (sooner_found b d))
