-- What stands at a place: to read it, to give it a value, and to come to it.
use Rattle.std.proofs.Common.{◌≡◌, ◌∙◌, ◌+◌, ℕ, IfOk, refl, ap, subst, List, ◌++◌, map}
use Rattle.cyc_tree.proofs.Forms.{assign_tree, suffixed_tree}
use Rattle.cyc_tree.specs.View.{expression_tree, suffix_tree, suffixes_of}
use Rattle.core_meaning.specs.Core.{Statement}
use Rattle.source_meaning.specs.Shapes.{pointee}
use Rattle.source_lowering.specs.Members.{words_in}
use Rattle.source_lowering.specs.Lowered.{
  conversion_code,
  expression_code,
  expression_values,
  loads_code,
  offset_code,
  place_code,
  put_code,
  reach_code,
  static_shape,
  stores_code,
}
use Rattle.lower_checks.specs.Reaching.{IsLeftAt, Place, place_at_once, reached_place, suffixed_left}
use Rattle.lower_checks.specs.Scoped.{names_in, world_in}
use Rattle.lower_checks.specs.Views.{shape_tree}
use Rattle.lower_checks.specs.Writing.{IsEmitted, IsWritten, next_of}
use Rattle.lower_checks.proofs.Parts.{assign_code, assign_values, suffixed_place, suffixed_put, suffixed_value}
use Rattle.lower_checks.proofs.Suffixes.{pointed_left, read_left, stored_left}
use Rattle.lower_checks.proofs.Writing.{moved, next_is, same_next, write_emit, write_write}
use Rattle.lower_checks.proofs.+expression.Goals as goal

pub expression::lower_expression-returns-in-Assign-clause-writes : goal.expression::lower_expression-returns-in-Assign-clause-writes
expression::lower_expression-returns-in-Assign-clause-writes t c sound =
    let w = world_in c.args.scope.now in
    let names = names_in c.args.scope.now in
    let d = c.args.to.0 in
    let a = c.args.body.now in
    let own = next_of a in
    let e = expression_tree c.args.expression.now in
    let b = c.lower_expression-from.new.body in
    let value = expression_tree c.deref-in-Assign.result.now in
    let place = expression_tree c.deref-in-Assign-2.result.now in
    let from = shape_tree c.lower_expression-from.result in
    let two = c.lower_assign.ensures.writes sound in
    let one = c.lower_expression-from.ensures.writes two.sound in
    let value_code = expression_code w names value d own in
    let values = expression_values w names value in
    let e_is = ap expression_tree c.in-Assign.is ∙ assign_tree c.in-Assign.place c.in-Assign.value in
    let value_is = ap expression_tree c.deref-in-Assign.ensures in
    let place_is = ap expression_tree c.deref-in-Assign-2.ensures in
    write_write a b c.lower_assign.new.body value_code
    (conversion_code w (static_shape w names place) from d ++ put_code w names place d (next_of b)) (expression_code w names e d own) values
    (expression_values w names place) (expression_values w names e) one two
    (assign_code w names d own e (expression_tree c.in-Assign.place.value) place (expression_tree c.in-Assign.value.value) value from (next_of b) e_is place_is
    value_is (c.lower_expression-from.ensures.shape two.sound) (next_is a b value_code values one))
    (assign_values w names e (expression_tree c.in-Assign.place.value) place (expression_tree c.in-Assign.value.value) value e_is place_is value_is)

pub expression::lower_expression-returns-in-Suffixed-clause-writes : goal.expression::lower_expression-returns-in-Suffixed-clause-writes
expression::lower_expression-returns-in-Suffixed-clause-writes t c sound =
    let w = world_in c.args.scope.now in
    let names = names_in c.args.scope.now in
    let d = c.args.to.0 in
    let a = c.args.body.now in
    let own = next_of a in
    let e = expression_tree c.args.expression.now in
    let b = c.lower_suffixed-reached.new.body in
    let p = reached_place c.lower_suffixed-reached.result in
    let left = suffixed_left w names e own in
    let two = c.lower_loads.ensures sound in
    let one = c.lower_suffixed-reached.ensures.writes two.sound in
    let code =
    suffixed_value w names d own e (expression_tree c.in-Suffixed.field-0.value) (suffixes_of (map suffix_tree c.in-Suffixed.field-1.items))
    (ap expression_tree c.in-Suffixed.is ∙ suffixed_tree c.in-Suffixed.field-0 c.in-Suffixed.field-1) in
    write_emit a b c.lower_loads.new.body (left.pointer d) (loads_code p.shape d p.cells p.bytes) (expression_code w names e d own)
    (expression_values w names e) one two (code ∙ read_left left p d (c.lower_suffixed-reached.ensures.place two.sound))

-- places with suffixes
pub place::lower_place-returns-in-Suffixed-clause-writes : goal.place::lower_place-returns-in-Suffixed-clause-writes
place::lower_place-returns-in-Suffixed-clause-writes t c sound =
    let w = world_in c.args.scope.now in
    let names = names_in c.args.scope.now in
    let d = c.args.to.0 in
    let a = c.args.body.now in
    let own = next_of a in
    let e = expression_tree c.args.place.now in
    let b = c.lower_suffixed-reached.new.body in
    let p = reached_place c.lower_suffixed-reached.result in
    let left = suffixed_left w names e own in
    let two = c.lower_pointed.ensures sound in
    let one = c.lower_suffixed-reached.ensures.writes two.sound in
    let code =
    suffixed_place w names d own e (expression_tree c.in-Suffixed.field-0.value) (suffixes_of (map suffix_tree c.in-Suffixed.field-1.items))
    (ap expression_tree c.in-Suffixed.is ∙ suffixed_tree c.in-Suffixed.field-0 c.in-Suffixed.field-1) in
    write_emit a b c.lower_pointed.new.body (left.pointer d) (offset_code d p.cells p.bytes) (place_code w names e d own)
    (expression_values w names e) one two (code ∙ pointed_left left p d (c.lower_suffixed-reached.ensures.place two.sound))

pub place::lower_put-returns-in-Suffixed : goal.place::lower_put-returns-in-Suffixed
place::lower_put-returns-in-Suffixed t c = record {
  writes = λ sound.
      let w = world_in c.args.scope.now in
      let names = names_in c.args.scope.now in
      let d = c.args.from.0 in
      let a = c.args.body.now in
      let own = next_of a in
      let e = expression_tree c.args.place.now in
      let k = c.known-shape.new.self in
      let b = c.lower_suffixed-reached.new.body in
      let p = reached_place c.lower_suffixed-reached.result in
      let at = c.behind-at.result.0 in
      let s = shape_tree c.known-shape.result in
      let left = suffixed_left w names e own in
      let values = expression_values w names e in
      let four = c.lower_stores.ensures sound in
      let three = c.lower_suffixed-reached.ensures.writes four.sound in
      let one = c.known-shape.ensures.stays three.sound in
      let written = moved a k b (λ n. (suffixed_left w names e n).pointer at) values one three in
      let place =
      subst (λ n. IsLeftAt (suffixed_left w names e n) p at) (same_next a k one) (c.lower_suffixed-reached.ensures.place four.sound) in
      let shape_is =
      subst (λ r. IfOk r (λ x. shape_tree x ≡ static_shape w names e)) (c.known-shape.ensures.known three.sound) c.shape_of.ensures.shape in
      let at_is : at ≡ d + words_in s = c.behind-at.ensures ∙ ap (λ x. d + x) c.words.ensures in
      let code =
      suffixed_put w names d own e (expression_tree c.in-Suffixed.field-0.value) (suffixes_of (map suffix_tree c.in-Suffixed.field-1.items)) s at
      (ap expression_tree c.in-Suffixed.is ∙ suffixed_tree c.in-Suffixed.field-0 c.in-Suffixed.field-1) shape_is at_is in
      write_emit a b c.lower_stores.new.body (left.pointer at) (stores_code p.shape at d p.cells p.bytes) (put_code w names e d own) values written four
      (code ∙ stored_left left p at d place);
}

-- what is written through a pointer
pub place::lower_through-returns : goal.place::lower_through-returns
place::lower_through-returns t c = record {
  writes = λ sound.
      let w = world_in c.args.scope.now in
      let names = names_in c.args.scope.now in
      let d = c.args.from.0 in
      let a = c.args.body.now in
      let own = next_of a in
      let e = expression_tree c.args.pointer.now in
      let s = static_shape w names e in
      let k = c.known.new.self in
      let b = c.lower_pointer-shape.new.body in
      let z = c.lower_stores.new.body in
      let at = c.behind-at.result.0 in
      let to = pointee s in
      let up = d + words_in to in
      let values = expression_values w names e in
      let four = c.lower_stores.ensures sound in
      let three = c.lower_pointer-shape.ensures.writes four.sound in
      let one = c.known.ensures.stays three.sound in
      let known_is = subst (λ r. IfOk r (λ x. shape_tree x ≡ s)) (c.known.ensures.known three.sound) c.shape_of.ensures.shape in
      let of_is : shape_tree c.pointee-of.result ≡ to = c.pointee-of.ensures ∙ ap pointee known_is in
      let at_is : at ≡ up = c.behind-at.ensures ∙ ap (λ n. d + n) (c.words.ensures ∙ ap words_in of_is) in
      let reaching : ℕ → ℕ → List Statement = λ t n. expression_code w names e t n ++ reach_code w s t in
      let written = subst (λ t. IsWritten a b (reaching t own) values) at_is (moved a k b (reaching at) values one three) in
      let reached : reached_place c.at_once.result ≡ place_at_once to =
      c.at_once.ensures.place ∙ ap place_at_once (c.lower_pointer-shape.ensures.shape four.sound) in
      let stored =
      subst (λ t. IsEmitted b z (stores_code to t d 0 0)) at_is
      (subst (λ (p : Place). IsEmitted b z (stores_code p.shape at d p.cells p.bytes)) reached four) in
      write_emit a b z (reaching up own) (stores_code to up d 0 0) (reaching up own ++ stores_code to up d 0 0) values written stored refl;
}
