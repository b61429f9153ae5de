use Rattle.std.proofs.Common.{◌≡◌, ◌+◌, refl, subst, [], ◌∷◌, ◌++◌, length}
use Rattle.core_meaning.specs.Core.{Copy, Do}
use Rattle.cyc_tree.specs.View.{expression_tree}
use Rattle.source_lowering.specs.Layouts.{layout_of}
use Rattle.source_lowering.specs.Lowered.{expression_values, place_code, static_shape}
use Rattle.source_lowering.specs.Whole.{whole_code, whole_values}
use Rattle.lower_checks.specs.Scoped.{names_in, world_in}
use Rattle.lower_checks.specs.Writing.{IsEmitted, IsWritten, next_of}
use Rattle.lower_checks.proofs.Writing.{next_is, write_emit, write_write}
use Rattle.lower_checks.proofs.assigned.lower_assigned.Goals as goal

-- the temporary objects of the place come behind those of the value
pub returns : goal.returns
returns c = record {
  writes = λ sound.
      let w = world_in c.args.scope.now in
      let names = names_in c.args.scope.now in
      let d = c.args.to.0 in
      let a = c.args.body.now in
      let b = c.lower_whole.new.body in
      let p = c.lower_place-shape.new.body in
      let z = c.lower_copy.new.body in
      let own = next_of a in
      let at = c.behind-at.result.0 in
      let place = expression_tree c.args.place.now in
      let value = expression_tree c.args.value.now in
      let s = static_shape w names place in
      let three = c.lower_copy.ensures sound in
      let two = c.lower_place-shape.ensures.writes three.sound in
      let one = c.lower_whole.ensures.writes two.sound in
      let first = whole_code w names value d own in
      let values = whole_values w names value in
      let more = expression_values w names place in
      let at_is : at ≡ d + 1 = c.behind-at.ensures in
      let number = next_is a b first values one in
      let begun = subst (λ n. IsWritten b p (place_code w names place n (next_of b)) more) at_is two in
      let placed = subst (λ n. IsWritten b p (place_code w names place (d + 1) n) more) number begun in
      let copy = Do (Copy (d + 1) d (layout_of w s)) ∷ [] in
      let copied =
      subst (λ n. IsEmitted p z (Do (Copy n d (layout_of w s)) ∷ [])) at_is
      (subst (λ x. IsEmitted p z (Do (Copy at d (layout_of w x)) ∷ [])) (c.lower_place-shape.ensures.shape three.sound) three) in
      let second = place_code w names place (d + 1) (own + length values) in
      write_write a b z first (second ++ copy) (first ++ (second ++ copy)) values more (values ++ more) one
      (write_emit b p z second copy (second ++ copy) more placed copied refl) refl refl;
}
