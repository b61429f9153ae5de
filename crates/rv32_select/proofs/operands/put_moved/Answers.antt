use Rattle.std.proofs.Common.{◌≡◌, ◌++◌, Option, OnOk, option_map, sym, ap, subst, ◌∙◌}
use Rattle.core_lines.specs.Held.{Source, result_register}
use Rattle.core_lines.specs.Operands.{move_kept}
use Rattle.rv32_select.specs.Known.{source_tree}
use Rattle.rv32_select.proofs.operands.put_moved.Goals as goal

pub returns-in-Some : goal.returns-in-Some
returns-in-Some c =
    let own = result_register c.args.to.0 in
    subst (λ (s : Option Source). OnOk c.put_source_kept.result
    (c.put_source_kept.new.lines.items ≡ c.args.lines.now.items ++ move_kept c.args.keeps c.args.place.now.passed own c.args.to.0 c.args.from.0 s))
    (sym (ap (option_map source_tree) c.in-Some.is) ∙ c.source.ensures)
    (c.put_source_kept.ensures own c.args.from.0)
