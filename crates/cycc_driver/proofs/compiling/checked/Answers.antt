use Rattle.std.proofs.Common.{ap, sym, subst, ◌∙◌}
use Rattle.cyc_tree.specs.Tree.{Program}
use Rattle.check_faults.specs.Faults.{faults_of}
use Rattle.unique_flow.specs.Faults.{IsFirstFault}
use Rattle.cycc_driver.proofs.Breaking.{flow_text, none_broken}
use Rattle.cycc_driver.proofs.compiling.checked.Goals as goal

pub unreachable-requires : goal.unreachable-requires
unreachable-requires c =
    none_broken c.in_ok-typed.typed c.in-Err.field-0 c.in-Err.ensures.never c.in-Err.ensures.broken
    (sym c.effect_fault.ensures ∙ ap faults_of c.in_default.is)

pub returns-in-Err-flow-clause-refused : goal.returns-in-Err-flow-clause-refused
returns-in-Err-flow-clause-refused c =
    flow_text c.args.text.now c.args.program c.in-Err-flow.fault c.of_flow.result
    (subst (λ (p : Program). IsFirstFault c.in-Err-flow.fault p) (c.in-Ok.ensures.ok.0 ∙ c.in_ok-typed.ensures) c.in-Err-flow.ensures.broken)
    c.of_flow.ensures
