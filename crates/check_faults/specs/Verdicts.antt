-- View of code: what is answered of a phrase: the fault that is answered, that it isn't checked, or what it is.
use Rattle.std.specs.Prelude.{None, Option, Some, unwrap_or, ◌∷◌}
use Rattle.source_typing.specs.Faults.{earliest}
use Rattle.check_faults.specs.Faults.{fault_of, first_of, sooner_found}
use Rattle.check_faults.specs.declared.fault.Fault.{Fault}
use Rattle.check_faults.specs.declared.verdict.Verdict as code
use Rattle.check_faults.specs.declared.verdict.Verdict.TheVariants as variant
use Rattle.source_typing.specs.Faults as rules
use Rattle.source_typing.specs.Verdicts as verdict

pub data Short (A : Type 0) : Type 0 where
  Wrong : rules.Fault → Short A
  NotJudged : Short A
  Is : A → Short A

-- by the rules
abbrev pub shortened : {A : Type 0} → verdict.Verdict A → Short A
shortened (verdict.Faulty f fs) = Wrong (unwrap_or (earliest (f ∷ fs)) f)
shortened verdict.Unjudged = NotJudged
shortened (verdict.Of a) = Is a

-- in code, by what a part in code is
abbrev pub short_of : {T A : Type 0} → (T → A) → code.Verdict T → Short A
short_of as_is (variant.Wrong f) = Wrong (fault_of f)
short_of as_is variant.NotJudged = NotJudged
short_of as_is (variant.Of v) = Is (as_is v)

-- the fault that is answered
abbrev pub fault_in : {A : Type 0} → Short A → Option rules.Fault
fault_in (Wrong f) = Some f
fault_in NotJudged = None
fault_in (Is a) = None

-- ---- phrases of parts

-- the fault in code
abbrev pub fault_found : {T : Type 0} → code.Verdict T → Option Fault
fault_found (variant.Wrong f) = Some f
fault_found variant.NotJudged = None
fault_found (variant.Of v) = None

abbrev pub wrong_if : {T : Type 0} → Option Fault → code.Verdict T
wrong_if None = variant.NotJudged
wrong_if (Some f) = variant.Wrong f

-- two parts in code
abbrev pub paired : {T U : Type 0} → code.Verdict T → code.Verdict U → code.Verdict (T × U)
paired (variant.Of v) (variant.Of w) = variant.Of (v, w)
paired v w = wrong_if (sooner_found (fault_found v) (fault_found w))

abbrev pub short_after : {A B : Type 0} → Short A → (A → Short B) → Short B
short_after (Wrong f) rule = Wrong f
short_after NotJudged rule = NotJudged
short_after (Is a) rule = rule a

abbrev pub short_wrong : {A : Type 0} → Option rules.Fault → Short A
short_wrong None = NotJudged
short_wrong (Some f) = Wrong f

abbrev pub short_both : {A B C : Type 0} → Short A → Short B → (A → B → Short C) → Short C
short_both (Is a) (Is b) rule = rule a b
short_both v w rule = short_wrong (first_of (fault_in v) (fault_in w))
