use Rattle.std.proofs.Common.{arith, ap, drop, suc, sym, ◌+◌, ◌∙◌, ◌≡◌}
use Rattle.cyc_tree.specs.View.{program_item_tree, program_tree}
use Rattle.flow_summaries.specs.Statements.{fault_from, fault_of_item}
use Rattle.check_faults.specs.Faults.{sooner_found}
use Rattle.flow_check.proofs.Programs.{flow_goes_on}
use Rattle.flow_check.proofs.program.items_flow.Goals as goal

pub each-preserved : goal.each-preserved
each-preserved c g known =
    let n = c.each.item-index in
    let i = c.each.index in
    let items = c.args.items.now in
    let item = c.item-item.result in
    let found = c.sooner-found.result in
    let one : suc i ≡ i + 1 = omega arith in
    let now : found ≡ sooner_found c.each.found (fault_of_item g i (program_item_tree item)) =
    c.sooner-found.ensures ∙ ap (sooner_found c.each.found) (c.in_ok-item_flow.ensures g known) in
    ap (λ m. sooner_found found (fault_from g m (program_tree (drop (n + 1) items)))) (c.in_ok-index.ensures ∙ sym one)
    ∙ flow_goes_on g i items n item c.each.found found c.each-test.true c.item-item.is now
    ∙ c.each.invariant g known
