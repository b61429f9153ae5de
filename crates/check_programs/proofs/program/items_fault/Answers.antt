use Rattle.std.proofs.Common.{◌≡◌, ◌+◌, ◌++◌, List, ap, arith, drop, suc, ◌∙◌}
use Rattle.cyc_tree.specs.View.{program_item_tree, program_tree}
use Rattle.cyc_tree.specs.declared.item.Item as code_item
use Rattle.source_typing.specs.Faults.{earliest}
use Rattle.source_typing.specs.Programs.{item_faults, items_from}
use Rattle.check_faults.specs.Faults.{faults_of, first_of}
use Rattle.check_programs.proofs.Items.{next_found}
use Rattle.check_programs.proofs.program.items_fault.Goals as goal

pub each-preserved : goal.each-preserved
each-preserved c g known =
    let k = c.each.item-index in
    let i = c.each.index in
    let items = c.args.items.now in
    let lenient = c.args.lenient in
    let fault = c.in_ok-item_fault.field-0 in
    let one : suc i ≡ i + 1 = omega arith in
    let before = λ (l : List code_item.Item). items_from lenient g i (program_tree l) in
    let after = λ (l : List code_item.Item). items_from lenient g (i + 1) (program_tree l) in
    let this = program_item_tree c.item-item.result in
    ap (λ n. first_of (faults_of c.sooner-found.result) (earliest (items_from lenient g n (program_tree (drop (k + 1) items)))))
    c.in_ok-index.ensures
    ∙ ap (λ o. first_of (faults_of o) (earliest (after (drop (k + 1) items)))) c.sooner-found.ensures
    ∙ next_found before after (item_faults lenient g i this) items k c.item-item.result c.each.found fault c.each-test.true c.item-item.is
    (c.in_ok-item_fault.ensures g known)
    (ap (λ n. item_faults lenient g i this ++ items_from lenient g n (program_tree (drop (k + 1) items))) one)
    ∙ c.each.invariant g known
