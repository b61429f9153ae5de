use Rattle.std.specs.Prelude.{IfOk}
use Rattle.std.proofs.Common.{subst, sym, ◌≡◌}
use Rattle.cyc_tree.specs.View.{program_item_tree}
use Rattle.flow_summaries.specs.Statements.{fault_of_item}
use Rattle.flow_check.proofs.program.item_flow.Goals as goal

pub returns-in-Function : goal.returns-in-Function
returns-in-Function c g known =
    subst (λ z. IfOk c.function_flow.result (λ f. f ≡ fault_of_item g c.args.index (program_item_tree z))) (sym c.in-Function.is)
    (c.function_flow.ensures g known)
