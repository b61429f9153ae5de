use Rattle.std.proofs.Common.{◌≡◌, ◌++◌, Option, OnOk, option_map, sym, ap, subst, ◌∙◌}
use Rattle.core_lines.specs.Held.{Source, null_source, result_register}
use Rattle.core_lines.specs.Selected.{null_kept}
use Rattle.rv32_select.specs.Known.{source_tree}
use Rattle.rv32_select.specs.Places.{surroundings}
use Rattle.rv32_select.proofs.nulls.put_is_null.Goals as goal

pub returns-in-Some : goal.returns-in-Some
returns-in-Some c =
    let u = surroundings c.args.place.now in
    subst (λ (s : Option Source). OnOk c.put_source_kept.result
    (c.put_source_kept.new.lines.items ≡ c.args.lines.now.items ++ null_kept c.args.keeps u c.args.to.0 c.args.pointer.0 s))
    (sym (ap (option_map source_tree) c.in-Some.is) ∙ c.null_source.ensures ∙ ap null_source c.source.ensures)
    (c.put_source_kept.ensures (result_register c.args.to.0) c.args.pointer.0)
