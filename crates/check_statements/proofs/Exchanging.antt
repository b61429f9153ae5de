-- Exchanges, by what was judged of both sides.
use Rattle.std.proofs.Common.{◌≡◌, List, Option, Some, refl, sym, ap, ◌∙◌, ◌++◌, [], ◌∷◌}
use Rattle.cyc_tree.specs.Tree.{Expression}
use Rattle.cyc_tree.specs.View.{OneSuffix, suffixes_of}
use Rattle.check_operators.specs.Values.{value_of}
use Rattle.check_operators.specs.declared.value.Value.{Value}
use Rattle.source_typing.specs.Exchanges.{acts, exchanged, suffix_acts}
use Rattle.source_typing.specs.Expressions.{judge}
use Rattle.source_typing.specs.Faults.{Fault, earliest}
use Rattle.source_typing.specs.Scope.{Env}
use Rattle.source_typing.specs.Scope as judged
use Rattle.source_typing.specs.Verdicts.{Verdict, both}
use Rattle.source_typing.specs.Verdicts as verdict
use Rattle.check_faults.proofs.Shortened.{both_of, both_wrong_is}
use Rattle.check_faults.specs.Faults.{fault_of, faults_of, sooner_found}
use Rattle.check_faults.specs.Verdicts.{fault_in, paired, short_of, shortened}
use Rattle.check_faults.specs.declared.fault.Fault as found
use Rattle.check_faults.specs.declared.verdict.Verdict as code
use Rattle.check_faults.specs.declared.verdict.Verdict.TheVariants as variant
use Rattle.check_heads.proofs.Answered.{earliest_in}
use Rattle.check_declarations.proofs.Blocks.{two_found}

-- what is in a suffix, and in those after it
abbrev pub of_suffix : OneSuffix → List Fault
of_suffix (OneSuffix.Index e) = acts e
of_suffix (OneSuffix.Dot f) = []
of_suffix (OneSuffix.Arrow f) = []

pub suffix_more : (s : OneSuffix) (rest : List OneSuffix) → suffix_acts (suffixes_of (s ∷ rest)) ≡ of_suffix s ++ suffix_acts (suffixes_of rest)
suffix_more (OneSuffix.Index e) rest = refl
suffix_more (OneSuffix.Dot f) rest = refl
suffix_more (OneSuffix.Arrow f) rest = refl

module _ (g : Env) (l r : Expression) (v w : code.Verdict Value) (e : short_of value_of v ≡ shortened (judge g l))
    (h : short_of value_of w ≡ shortened (judge g r)) where
  abbrev left : Verdict judged.Value
  left = judge g l

  abbrev right : Verdict judged.Value
  right = judge g r

  abbrev rule : judged.Value → judged.Value → Verdict judged.Value
  rule = exchanged (acts l ++ acts r)

  pub exchange_is : (p q : Value) (x y inside result : Option found.Fault) → paired v w ≡ variant.Of (p, q) → inside ≡ sooner_found x y
      → faults_of x ≡ earliest (acts l) → faults_of y ≡ earliest (acts r)
      → ((fs : List Fault) → faults_of inside ≡ earliest fs → faults_of result ≡ earliest (verdict.faults_of (exchanged fs (value_of p) (value_of q))))
      → faults_of result ≡ earliest (verdict.faults_of (both left right rule))
  exchange_is p q x y inside result is sooner first second own =
      own (acts l ++ acts r) (two_found x y inside (acts l) (acts r) sooner first second)
      ∙ sym (earliest_in (rule (value_of p) (value_of q))) ∙ sym (ap fault_in (both_of value_of value_of v w left right rule e h p q is))
      ∙ earliest_in (both left right rule)

  pub exchange_wrong : (f : found.Fault) → paired v w ≡ variant.Wrong f → Some (fault_of f) ≡ earliest (verdict.faults_of (both left right rule))
  exchange_wrong f is = sym (ap fault_in (both_wrong_is value_of value_of v w left right rule e h f is)) ∙ earliest_in (both left right rule)
