use Rattle.std.proofs.Common.{◌∷◌, ap, map, sym, take, ◌∙◌}
use Rattle.std.proofs.lemmas.List.{take-map}
use Rattle.core_lines.specs.Held as lines
use Rattle.rv32_select.specs.Known.{source_tree, holding_tree}
use Rattle.rv32_select.proofs.held.Known.hold.Goals as goal

pub returns : goal.returns
returns c =
    let first : lines.Holding = record { temporary = c.args.temporary.0; source = source_tree c.args.source } in
    ap (map holding_tree) c.in_ok-insert.ensures.items ∙ ap (λ hs. first ∷ map holding_tree hs) c.truncate.ensures.items
    ∙ ap (λ hs. first ∷ hs) (sym (take-map holding_tree 31 _) ∙ ap (take 31) (c.self.view_is ∙ c.forget_temporary.ensures))
