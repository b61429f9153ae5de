use Rattle.std.specs.Prelude.{not, nat_eq}
use Rattle.std.proofs.Common.{ap, map, rules, ◌∙◌}
use Rattle.std.proofs.lemmas.Fn.{filter_same}
use Rattle.core_lines.specs.Held.{without_temporary}
use Rattle.rv32_select.specs.Known.{holding_tree}
use Rattle.rv32_select.proofs.Knowing.{without_it}
use Rattle.rv32_select.proofs.held.Known.forget_temporary.Goals as goal

pub returns : goal.returns
returns c =
    let t = c.args.temporary.0 in
    let kept = filter_same _ (λ h. not (nat_eq h.temporary.0 t)) _ (λ x b f' k. search rules) _ _ c.retain.ensures.filtered in
    ap (map holding_tree) kept ∙ without_it t _ ∙ ap (without_temporary t) c.self.view_is
