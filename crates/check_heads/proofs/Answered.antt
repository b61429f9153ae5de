-- What is answered of a phrase that is judged.
use Rattle.std.proofs.Common.{◌≡◌, refl, ◌∙◌, ap, sym}
use Rattle.source_typing.specs.Faults.{earliest}
use Rattle.source_typing.specs.Verdicts.{Faulty, Of, Unjudged, Verdict}
use Rattle.source_typing.specs.Verdicts as rules
use Rattle.check_faults.specs.Faults.{faults_of}
use Rattle.check_faults.specs.Verdicts.{Is, NotJudged, Short, Wrong, fault_found, fault_in, short_of, shortened}
use Rattle.check_faults.specs.declared.verdict.Verdict as code
use Rattle.check_faults.proofs.Earliest.{sooner_some}
use Rattle.check_faults.proofs.Shortened.{fault_same}

-- ---- faults

-- the fault of a phrase
pub earliest_in : {A : Type 0} (v : Verdict A) → fault_in (shortened v) ≡ earliest (rules.faults_of v)
earliest_in (Faulty f fs) = sooner_some f (earliest fs)
earliest_in Unjudged = refl
earliest_in (Of a) = refl

-- the fault that is answered of a phrase is the earliest of its faults
pub fault_is : {T A : Type 0} (as_is : T → A) (v : code.Verdict T) (w : Verdict A) → short_of as_is v ≡ shortened w
    → faults_of (fault_found v) ≡ earliest (rules.faults_of w)
fault_is as_is v w e = fault_same as_is v ∙ ap fault_in e ∙ earliest_in w

-- ---- verdicts by what is answered

pub of_short : {A : Type 0} (v : Verdict A) (a : A) → Is a ≡ shortened v → v ≡ Of a
of_short (Of b) a e = ap (λ s. of_is b s) (sym e)
  where
    of_is : {A : Type 0} → A → Short A → Verdict A
    of_is other (Is b) = Of b
    of_is other (Wrong f) = Of other
    of_is other NotJudged = Of other
of_short Unjudged a e = absurd cc
of_short (Faulty f fs) a e = absurd cc
