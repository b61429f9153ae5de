use Rattle.std.proofs.Common.{◌≡◌, ap, length, map, rules, ◌∙◌}
use Rattle.rv32_select.proofs.Marking.{left_none, left_first}
use Rattle.rv32_select.proofs.marks.innermost.Goals as goal

pub returns-then-is_empty : goal.returns-then-is_empty
returns-then-is_empty c b bs e =
    let vs = c.args.around.now.items in
    let none : length vs ≡ 0 = search rules in
    left_none (λ marks. marks.items) vs _ b bs none e

pub returns-else-is_empty : goal.returns-else-is_empty
returns-else-is_empty c b bs e =
    let left = left_first (λ marks. marks.items) c.args.around.now.items c.remove.result b bs c.remove.ensures.value e in
    (left.0, ap (map (λ marks. marks.items)) c.remove.ensures.items ∙ left.1)
