use Rattle.std.proofs.Common.{◌≡◌, ℕ, false, map, rules}
use Rattle.cyc_core.specs.Trees.{operation_tree}
use Rattle.core_lines.specs.Homes.{takes}
use Rattle.rv32_select.proofs.Marking.{marked_none}
use Rattle.rv32_select.proofs.marks.mark_operation.Goals as goal

pub returns-in_default : goal.returns-in_default
returns-in_default c =
    let none : (o n : ℕ) → takes o n (operation_tree c.args.operation) ≡ false = λ o n. search rules in
    marked_none (λ o n. takes o n (operation_tree c.args.operation)) (map (λ marks. marks.items) c.args.around.now.items) none
