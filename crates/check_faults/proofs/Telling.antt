-- A fault is told by its rule's number and its place.
use Rattle.std.proofs.Common.{◌≡◌, ℕ, Option, Some, None, refl, sym, ap, ◌∙◌, nat_eq, if◌then◌else◌}
use Rattle.check_faults.specs.Faults.{fault_of, number_of}
use Rattle.check_faults.specs.declared.fault.Fault.{Fault}
use Rattle.check_faults.specs.declared.fault.FaultKind.{FaultKind}
use Rattle.check_faults.specs.declared.fault.FaultKind.TheVariants as kind
use Rattle.source_typing.specs.Faults as rules

abbrev kind_of : ℕ → FaultKind
kind_of n =
    (if nat_eq n 4 then kind.Name else
    (if nat_eq n 5 then kind.Typing else
    (if nat_eq n 6 then kind.Region else
    (if nat_eq n 7 then kind.Outlives else
    (if nat_eq n 8 then kind.Effect else
    (if nat_eq n 9 then kind.Consumed else (if nat_eq n 10 then kind.Lent else (if nat_eq n 11 then kind.Copy else kind.Size))))))))

of_number : (k : FaultKind) → kind_of (number_of k) ≡ k
of_number kind.Name = refl
of_number kind.Typing = refl
of_number kind.Region = refl
of_number kind.Outlives = refl
of_number kind.Effect = refl
of_number kind.Consumed = refl
of_number kind.Lent = refl
of_number kind.Copy = refl
of_number kind.Size = refl

-- two rules of one number are one
pub same_kind : (k l : FaultKind) → number_of k ≡ number_of l → k ≡ l
same_kind k l same = sym (of_number k) ∙ ap kind_of same ∙ of_number l

abbrev kind_or : Option rules.Fault → ℕ → ℕ
kind_or None other = other
kind_or (Some f) other = f.kind

abbrev place_or : Option rules.Fault → ℕ → ℕ
place_or None other = other
place_or (Some f) other = f.at

-- faults that are one by the rules are of one rule, at one place
pub same_rule : (k l : FaultKind) (at other : ℕ) → Some (rules.fault (number_of k) at) ≡ Some (rules.fault (number_of l) other) → k ≡ l
same_rule k l at other same = same_kind k l (ap (λ (o : Option rules.Fault). kind_or o 0) same)

pub same_at : (k l : FaultKind) (at other : ℕ) → Some (rules.fault (number_of k) at) ≡ Some (rules.fault (number_of l) other) → at ≡ other
same_at k l at other same = ap (λ (o : Option rules.Fault). place_or o 0) same

pub one_fault : (f g : Fault) → Some (fault_of f) ≡ Some (fault_of g) → f ≡ g
one_fault f g same =
    let parts : FaultKind → ℕ → Fault = λ k at. record { kind = k; at = at } in
    ap (λ (k : FaultKind). parts k f.at) (same_rule f.kind g.kind f.at g.at same) ∙ ap (parts g.kind) (same_at f.kind g.kind f.at g.at same)
