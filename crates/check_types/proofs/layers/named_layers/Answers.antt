use Rattle.std.proofs.Common.{◌≡◌, ◌+◌, ◌∷◌, List, ap, drop, sym, ◌∙◌}
use Rattle.std.specs.Prelude.{Option, option_map}
use Rattle.std.proofs.lemmas.List.{drop_more}
use Rattle.source_typing.specs.Written.{all_found, pointers_to}
use Rattle.check_types.specs.Reading.{led_by, pointer_spots, pointer_trees}
use Rattle.check_types.specs.declared.layer.WrittenLayer.{WrittenLayer}
use Rattle.check_types.proofs.Pointers.{next_named}
use Rattle.check_types.proofs.layers.named_layers.Goals as goal

pub each-preserved : goal.each-preserved
each-preserved c =
    let names = c.args.names.now in
    let ps = c.args.pointers.now in
    let i = c.each.pointer-index in
    let x = c.pointer-item.result in
    let e : drop i ps ≡ x ∷ drop (i + 1) ps = drop_more ps i x c.each-test.true ∙ ap (λ y. y ∷ drop (i + 1) ps) (sym c.pointer-item.is) in
    let o : Option (List WrittenLayer) = option_map (λ ls. ls.items) c.each.layers in
    λ b. ap (λ o. pointers_to (pointer_trees (drop (i + 1) ps)) (all_found names (pointer_spots (drop (i + 1) ps))).0 (led_by o b)) c.in_ok-layers.ensures
    ∙ next_named names ps i x e b o c.layer_in.result c.layer_in.ensures
    ∙ c.each.invariant b
