use Rattle.std.proofs.Common.{map, ap, arith, ◌∙◌}
use Rattle.core_lines.specs.Homes.{fills}
use Rattle.cyc_core.specs.Trees.{cell_parts}
use Rattle.rv32_select.proofs.Marking.{one_cell}
use Rattle.rv32_select.proofs.marks.is_filled.Goals as goal

pub returns-in-len1 : goal.returns-in-len1
returns-in-len1 c =
    let cells = c.deref-cells.result.now in
    let bytes = c.args.layout.now.bytes in
    c.is_filled_by.ensures ∙ one_cell cells _ bytes (omega arith) ∙ ap (λ cs. fills bytes (map cell_parts cs)) c.deref-cells.ensures.value
