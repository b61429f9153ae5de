-- A program's first fault as that of its text.
use Rattle.std.proofs.Common.{◌≡◌, ◌≢◌, ℕ, List, None, Some, refl, sym, subst, ◌∙◌}
use Rattle.std.specs.Prelude.{Result, Err}
use Rattle.cyc_tree.specs.Tree.{Program}
use Rattle.check_faults.specs.Faults.{fault_of}
use Rattle.source_typing.specs.Answers.{effect_fault, first_fault}
use Rattle.check_faults.specs.declared.fault.Fault.{Fault}
use Rattle.check_faults.specs.declared.fault.FaultKind.{FaultKind}
use Rattle.check_faults.specs.declared.fault.FaultKind.TheVariants as kind
use Rattle.effect_check.specs.declared.fault.CheckFault.{CheckFault}
use Rattle.effect_check.specs.declared.fault.CheckFault.TheVariants as check
use Rattle.unique_flow.specs.Faults.{IsFirstFault}
use Rattle.unique_flow.specs.declared.fault.FlowFault.{FlowFault}
use Rattle.unique_flow.specs.declared.fault.FlowFault.TheVariants as flow
use Rattle.cycc_driver.specs.declared.fault.Place.{Place}
use Rattle.cycc_driver.specs.declared.fault.CompileFault.{CompileFault}
use Rattle.cycc_driver.specs.Texts.{IsTextOf}
use Rattle.cycc_driver.specs.Refusals.{IsBroken, IsRefusedFor}
use Rattle.cycc_driver.specs.Refused.{form_of, IsOfChecking, IsOfFlow}

by_kind : (text : List ℕ) (k : FaultKind) (place : Place) → IsBroken text k place → IsRefusedFor (form_of k place) text
by_kind text kind.Name place broken = broken
by_kind text kind.Typing place broken = broken
by_kind text kind.Region place broken = broken
by_kind text kind.Outlives place broken = broken
by_kind text kind.Effect place broken = broken
by_kind text kind.Consumed place broken = broken
by_kind text kind.Lent place broken = broken
by_kind text kind.Copy place broken = broken
by_kind text kind.Size place broken = broken

pub broken_text : (text : List ℕ) (program : Program) (why : CheckFault) (f : CompileFault)
    → ((b : Fault) → why ≡ check.Broken b → first_fault program ≡ Some (fault_of b))
    → IsOfChecking text why f → IsTextOf text program → IsRefusedFor f text
broken_text text program (check.Broken b) f first (place, is, there) spelled =
    subst (λ (x : CompileFault). IsRefusedFor x text) (sym is)
    (by_kind text b.kind place (record { program = program; spelled = spelled; at = b.at; first = first b refl; there = there }))
broken_text text program check.Memory f first is spelled = subst (λ (x : CompileFault). IsRefusedFor x text) (sym is) tt

-- no fault is answered where the rules find none and no memory is asked for
pub none_broken : {A : Type 0} → (program : Program) (why : CheckFault) → ◌≢◌ {A = Result A CheckFault} (Err why) (Err check.Memory)
    → ((b : Fault) → ◌≡◌ {A = Result A CheckFault} (Err why) (Err (check.Broken b)) → effect_fault program ≡ Some (fault_of b))
    → effect_fault program ≡ None → ⊥
none_broken program (check.Broken b) never broken none = absurd (cc (sym (broken b refl) ∙ none))
none_broken program check.Memory never broken none = never refl

-- and where it is one of flow
pub flow_text : (text : List ℕ) (program : Program) (why : FlowFault) (f : CompileFault) → IsFirstFault why program → IsOfFlow text why f
    → IsTextOf text program → IsRefusedFor f text
flow_text text program (flow.Consumed at) f first (place, is, there) spelled =
    subst (λ (x : CompileFault). IsRefusedFor x text) (sym is)
    (record { program = program; spelled = spelled; at = at; first = first; there = there })
flow_text text program (flow.Lent at) f first (place, is, there) spelled =
    subst (λ (x : CompileFault). IsRefusedFor x text) (sym is)
    (record { program = program; spelled = spelled; at = at; first = first; there = there })
flow_text text program (flow.Copy at) f first (place, is, there) spelled =
    subst (λ (x : CompileFault). IsRefusedFor x text) (sym is)
    (record { program = program; spelled = spelled; at = at; first = first; there = there })
flow_text text program flow.Memory f first is spelled = subst (λ (x : CompileFault). IsRefusedFor x text) (sym is) tt
