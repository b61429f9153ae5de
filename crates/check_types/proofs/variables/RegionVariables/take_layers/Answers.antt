use Rattle.std.proofs.Common.{◌≡◌, ◌+◌, ◌∷◌, List, ap, drop, sym, ◌∙◌}
use Rattle.std.specs.Prelude.{Option, option_map}
use Rattle.std.proofs.lemmas.List.{drop_more}
use Rattle.source_typing.specs.Functions.{take_spots}
use Rattle.source_typing.specs.Written.{pointers_to}
use Rattle.check_types.specs.Reading.{led_by, pointer_spots, pointer_trees}
use Rattle.check_types.specs.declared.layer.WrittenLayer.{WrittenLayer}
use Rattle.check_types.proofs.Parameters.{next_after, next_spotted}
use Rattle.check_types.proofs.variables.RegionVariables.take_layers.Goals as goal

pub each-preserved : goal.each-preserved
each-preserved c =
    let ps = c.args.pointers.now in
    let i = c.each.pointer-index in
    let x = c.pointer-item.result in
    let old = c.each.self in
    let new = c.take_layer.new.self in
    let e : drop i ps ≡ x ∷ drop (i + 1) ps = drop_more ps i x c.each-test.true ∙ ap (λ y. y ∷ drop (i + 1) ps) (sym c.pointer-item.is) in
    let o : Option (List WrittenLayer) = option_map (λ ls. ls.items) c.each.layers in
    record {
      built = λ b. ap (λ o. pointers_to (pointer_trees (drop (i + 1) ps)) (take_spots new (pointer_spots (drop (i + 1) ps))).found (led_by o b))
          c.in_ok-layers.ensures
          ∙ next_spotted ps i x e old new c.in_ok-layer.ensures.after b o c.in_ok-layer.layer c.in_ok-layer.ensures.found
          ∙ c.each.invariant.built b;
      after = next_after ps i x e old new c.in_ok-layer.ensures.after ∙ c.each.invariant.after;
    }
