-- The first fault of a program in which the rules before flow find none.
use Rattle.std.proofs.Common.{◌≡◌, false, Option, Some, None, List, ◌++◌, refl, sym, subst, ap, ap₂, ◌∙◌}
use Rattle.std.specs.Prelude.{nat_le, if◌then◌else◌}
use Rattle.cyc_tree.specs.Tree.{Program}
use Rattle.source_typing.proofs.Inversion.{none_is}
use Rattle.source_typing.specs.Answers.{effect_fault, first_fault}
use Rattle.source_typing.specs.Faults.{Fault, earliest, is_of_flow, rank_of}
use Rattle.source_typing.specs.Left.{flow_faults}
use Rattle.source_typing.specs.Programs.{typing_faults}
use Rattle.check_faults.proofs.Earliest.{before_by, earliest_of_both, found_sooner, is_by}
use Rattle.check_faults.specs.Faults.{fault_of, faults_of, first_of, sooner_found}
use Rattle.check_faults.specs.declared.fault.Fault as code
use Rattle.unique_flow.specs.Faults.{IsAs, IsFirstFault, IsOfFlowIfSome}
use Rattle.unique_flow.specs.declared.fault.FlowFault.{FlowFault}
use Rattle.unique_flow.specs.declared.fault.FlowFault.TheVariants as flow
use Rattle.unique_flow.proofs.FlowStatements.{earliest_flow, program_flow}

-- it is the earliest one of flow
pub first_is_of_flow : (p : Program) → effect_fault p ≡ None → earliest (flow_faults p) ≡ first_fault p
first_is_of_flow p none =
    sym (ap (λ (fs : List Fault). earliest (fs ++ flow_faults p)) (none_is (typing_faults false p) none))

-- and so is what is found, if there is one
pub found_flow : (found : Option code.Fault) (p : Program) → faults_of found ≡ earliest (flow_faults p)
    → IsOfFlowIfSome (faults_of found)
found_flow found p e =
    subst IsOfFlowIfSome (sym e) (earliest_flow (flow_faults p) (program_flow p))

-- a fault as it is answered
pub first_as : (w : FlowFault) (f : Fault) (p : Program) → IsAs w f → first_fault p ≡ Some f → IsFirstFault w p
first_as (flow.Consumed at) f p same e = e ∙ ap (λ (g : Fault). Some g) same
first_as (flow.Lent at) f p same e = e ∙ ap (λ (g : Fault). Some g) same
first_as (flow.Copy at) f p same e = e ∙ ap (λ (g : Fault). Some g) same
first_as flow.Memory f p same e = absurd same

-- ---- of a program with a fault of an earlier phase

-- its first fault is that one or the earliest of flow, whichever is answered of the two
first_of_both : (p : Program) → first_fault p ≡ first_of (effect_fault p) (earliest (flow_faults p))
first_of_both p = earliest_of_both (typing_faults false p) (flow_faults p)

-- and so it is of those that are found
pub first_is_sooner : (p : Program) (broken : code.Fault) (found : Option code.Fault) → effect_fault p ≡ Some (fault_of broken)
    → faults_of found ≡ earliest (flow_faults p) → first_fault p ≡ faults_of (sooner_found (Some broken) found)
first_is_sooner p broken found e f =
    first_of_both p ∙ sym (found_sooner (Some broken) found ∙ ap₂ (λ (a b : Option Fault). first_of a b) (sym e) f)

-- one that is none of flow is before each that is
stays : (f : Fault) (g : Option Fault) → is_of_flow f.kind ≡ false → IsOfFlowIfSome g → first_of (Some f) g ≡ Some f
stays f None early late = refl
stays f (Some g) early late =
    ap (λ b. Some (if b then f else g)) (is_by f g ∙ ap₂ (λ a b. before_by a b (nat_le (rank_of f) (rank_of g))) early late)

-- and so it is the first of all, whatever flow finds
pub first_stays : (p : Program) (f : Fault) → effect_fault p ≡ Some f → is_of_flow f.kind ≡ false → first_fault p ≡ Some f
first_stays p f e early =
    first_of_both p ∙ ap (λ o. first_of o (earliest (flow_faults p))) e
    ∙ stays f (earliest (flow_faults p)) early (earliest_flow (flow_faults p) (program_flow p))

-- of two one is answered
pub sooner_is_some : (broken : code.Fault) (found : Option code.Fault) → sooner_found (Some broken) found ≡ None → ⊥
sooner_is_some broken None e = absurd cc
sooner_is_some broken (Some f) e = absurd cc
