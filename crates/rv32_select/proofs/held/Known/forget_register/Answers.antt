use Rattle.std.specs.Prelude.{not}
use Rattle.std.proofs.Common.{ap, map, rules, ◌∙◌}
use Rattle.std.proofs.lemmas.Fn.{filter_same}
use Rattle.core_lines.specs.Held.{is_in, without_register}
use Rattle.rv32_select.specs.Known.{source_tree, holding_tree}
use Rattle.rv32_select.proofs.Knowing.{without_there}
use Rattle.rv32_select.proofs.held.Known.forget_register.Goals as goal

pub returns : goal.returns
returns c =
    let r = c.args.register in
    let kept = filter_same _ (λ h. not (is_in r (source_tree h.source))) _ (λ x b f' k. search rules) _ _ c.retain.ensures.filtered in
    ap (map holding_tree) kept ∙ without_there r _ ∙ ap (without_register r) c.self.view_is
