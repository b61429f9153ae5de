-- What `new` and `rnew` make: one value, or an array.
use Rattle.std.proofs.Common.{rules, false, ◌≡◌, ◌∙◌, ◌+◌, ℕ, IfOk, refl, sym, ap, subst, List, [], ◌∷◌, ◌++◌, length, map}
use Rattle.cyc_tree.proofs.Forms.{new_in_tree, new_tree}
use Rattle.cyc_tree.specs.View.{expression_tree, made_tree, name_tree}
use Rattle.core_meaning.specs.Core.{Apply, Block, Constant, Do, HeapHandle, LessUnsigned, Put, RegionAlloc, Statement, While}
use Rattle.cyc_core.specs.Trees.{statement_tree}
use Rattle.cyc_tree.specs.declared.expression.Expression.TheFolds.{the_lemmas}
use Rattle.source_meaning.specs.Expressions.{is_unique_region}
use Rattle.source_meaning.specs.Memory.{is_alone}
use Rattle.source_meaning.specs.Shapes.{Shape, FatShape, UnsignedShape}
use Rattle.source_lowering.specs.Layouts.{layout_of, local_of}
use Rattle.source_lowering.specs.Lowered.{
  all_of,
  array_code,
  element_by,
  element_names,
  elements_code,
  expression_code,
  expression_values,
  indexed_code,
  new_code,
  new_shape,
  new_values,
  next_number,
  owner_in,
  static_shape,
  values_by,
  whole_code,
  whole_values,
  width_of,
}
use Rattle.lower_checks.specs.Numbers.{names_within, numbers_in}
use Rattle.lower_checks.specs.Scoped.{names_in, world_in}
use Rattle.lower_checks.specs.Views.{owner_tree, shape_tree}
use Rattle.lower_checks.specs.Visible.{names_of}
use Rattle.lower_checks.specs.Writing.{IsEmitted, IsSound, IsWritten, next_of}
use Rattle.lower_checks.proofs.Parts.{new_heap_code, new_in_code, new_in_values}
use Rattle.lower_checks.proofs.Making.{IsWholeOne, whole_made}
use Rattle.lower_checks.proofs.Writing.{
  apart_emit,
  emit_write,
  emitted_next,
  moved,
  next_is,
  part_apart,
  part_is,
  part_written,
  same_next,
  same_same,
  same_write,
  write_write,
}
use Rattle.lower_checks.proofs.Arrays.{TakesElement, array_is, array_tree, array_written, made_code, made_shapes}
use Rattle.lower_checks.proofs.+expression.Goals as goal

pub expression::lower_expression-returns-in-NewIn-clause-writes : goal.expression::lower_expression-returns-in-NewIn-clause-writes
expression::lower_expression-returns-in-NewIn-clause-writes t c sound =
    let w = world_in c.args.scope.now in
    let names = names_in c.args.scope.now in
    let d = c.args.to.0 in
    let a = c.args.body.now in
    let own = next_of a in
    let e = expression_tree c.args.expression.now in
    let b = c.lower_expression-in-NewIn.new.body in
    let handle = expression_tree c.deref-in-NewIn.result.now in
    let made = made_tree c.in-NewIn.made in
    let two = c.lower_new-in-NewIn.ensures.writes sound in
    let one = c.lower_expression-in-NewIn.ensures.writes two.sound in
    let handle_code = expression_code w names handle d own in
    let values = expression_values w names handle in
    let e_is = ap expression_tree c.in-NewIn.is ∙ new_in_tree c.in-NewIn.field-0 c.in-NewIn.handle c.in-NewIn.made in
    let handle_is = ap expression_tree c.deref-in-NewIn.ensures in
    let owner = owner_tree c.owner_for.result in
    let owner_is = c.owner_for.ensures ∙ ap (λ x. owner_in (is_unique_region x)) (ap expression_tree c.deref-in-NewIn-2.ensures ∙ sym handle_is) in
    write_write a b c.lower_new-in-NewIn.new.body handle_code (new_code w names (is_alone owner) made d (next_of b)) (expression_code w names e d own) values
    (new_values w names made) (expression_values w names e) one two
    (new_in_code w names d own e c.in-NewIn.field-0 (expression_tree c.in-NewIn.handle.value) handle made owner (next_of b) e_is handle_is owner_is
    (next_is a b handle_code values one))
    (new_in_values w names e c.in-NewIn.field-0 (expression_tree c.in-NewIn.handle.value) handle made e_is handle_is)

pub expression::lower_expression-returns-in-New-clause-writes : goal.expression::lower_expression-returns-in-New-clause-writes
expression::lower_expression-returns-in-New-clause-writes t c sound =
    let w = world_in c.args.scope.now in
    let names = names_in c.args.scope.now in
    let d = c.args.to.0 in
    let a = c.args.body.now in
    let own = next_of a in
    let e = expression_tree c.args.expression.now in
    let b = c.operation.new.self in
    let made = made_tree c.in-New.made in
    let two = c.lower_new.ensures.writes sound in
    let one = c.operation.ensures two.sound in
    let e_is = ap expression_tree c.in-New.is ∙ new_tree c.in-New.field-0 c.in-New.made in
    let number = ap (λ own. length own.items) one.own in
    let done =
    emit_write a b c.lower_new.new.body (Do (HeapHandle d) ∷ []) (new_code w names false made d (next_of b)) (expression_code w names e d own)
    (new_values w names made) one two
    (new_heap_code w names d own e c.in-New.field-0 made e_is ∙ ap (λ k. (Do (HeapHandle d) ∷ []) ++ new_code w names false made d k) (sym number)) in
    subst (λ p. IsWritten a c.lower_new.new.body (expression_code w names e d own) p) (sym (ap (expression_values w names) e_is)) done

-- an object is made of its value, which comes first
pub made::lower_one-returns-in-Struct-clause-writes : goal.made::lower_one-returns-in-Struct-clause-writes
made::lower_one-returns-in-Struct-clause-writes t c sound =
    let w = world_in c.args.scope.now in
    let names = names_in c.args.scope.now in
    let d = c.args.to.0 in
    let a = c.args.body.now in
    let own = next_of a in
    let e = expression_tree c.args.value.now in
    let s = static_shape w names e in
    let k = c.known-shape.new.self in
    let m = c.known-address.new.self in
    let b = c.lower_whole.new.body in
    let z = c.lower_object-in-Struct.new.body in
    let next = c.behind-next.result.0 in
    let shape = shape_tree c.known-shape.result in
    let five = c.lower_object-in-Struct.ensures sound in
    let four = c.lower_whole.ensures.writes five.sound in
    let three = c.known-address.ensures.stays four.sound in
    let two = c.known-shape.ensures.stays three.sound in
    let shape_is = subst (λ r. IfOk r (λ x. shape_tree x ≡ s)) (c.known-shape.ensures.known three.sound) c.shape_of.ensures.shape in
    let next_is : next ≡ d + 1 = c.behind-next.ensures in
    let values = whole_values w names e in
    let written =
    subst (λ n. IsWritten a b (whole_code w names e n own) values) next_is
    (moved a m b (λ n. whole_code w names e next n) values (same_same a k m two three) four) in
    let one_whole : IsWholeOne shape = search rules in
    whole_made w names (is_alone (owner_tree c.args.owner)) e a b z d shape one_whole (sym shape_is) written five

-- an array is made: its count comes first, in the temporary behind the handle
pub made::lower_new-returns-in-Array-clause-writes : goal.made::lower_new-returns-in-Array-clause-writes
made::lower_new-returns-in-Array-clause-writes t c sound =
    let w = world_in c.args.scope.now in
    let names = names_in c.args.scope.now in
    let a = c.args.body.now in
    let b = c.lower_expression.new.body in
    let count = expression_tree c.deref-in-Array.result.now in
    let values = expression_values w names count in
    let three = c.lower_array.ensures.writes sound in
    let two = c.lower_expression.ensures.writes three.sound in
    let counted = subst (λ n. IsWritten a b (expression_code w names count n (next_of a)) values) c.behind-many.ensures two in
    array_written w names (made_tree c.args.made.now) (name_tree c.in-Array.index) (expression_tree c.in-Array.count.value) count
    (expression_tree c.in-Array.element.value) (expression_tree c.deref-in-Array-2.result.now) (is_alone (owner_tree c.args.owner)) a b
    c.lower_array.new.body c.args.to.0
    (ap made_tree c.in-Array.is ∙ array_tree c.in-Array.index c.in-Array.count c.in-Array.element) (ap expression_tree c.deref-in-Array.ensures)
    (ap expression_tree c.deref-in-Array-2.ensures) counted three

pub made::lower_new-returns-in-Array-clause-shape : goal.made::lower_new-returns-in-Array-clause-shape
made::lower_new-returns-in-Array-clause-shape t c sound =
    let w = world_in c.args.scope.now in
    let names = names_in c.args.scope.now in
    let index = name_tree c.in-Array.index in
    let element = expression_tree c.deref-in-Array-2.result.now in
    let made_is = array_is w names (made_tree c.args.made.now) index (expression_tree c.in-Array.count.value) (expression_tree c.deref-in-Array.result.now)
    (expression_tree c.in-Array.element.value) element (ap made_tree c.in-Array.is ∙ array_tree c.in-Array.index c.in-Array.count c.in-Array.element)
    (ap expression_tree c.deref-in-Array.ensures) (ap expression_tree c.deref-in-Array-2.ensures) in
    c.lower_array.ensures.shape sound ∙ ap (new_shape w names (owner_tree c.args.owner)) (sym made_is)

-- the number of the element is a further name
pub array::lower_array-lower_elements-requires : goal.array::lower_array-lower_elements-requires
array::lower_array-lower_elements-requires t c =
    let w = world_in c.args.scope.now in
    let names = names_in c.args.scope.now in
    let e = expression_tree c.args.element.now in
    let locals = names_of c.args.scope.now.locals.now in
    let inside = ap (λ ns. names_within (numbers_in ns) locals) c.deref-in-Ok.ensures.value
    ∙ ap (λ (is : List (List ℕ)). names_within is locals) c.in-Ok.ensures.numbers ∙ ap (λ (n : List ℕ). element_names n names) c.deref.ensures.value in
    let taken : IsSound c.args.body.now → TakesElement w (names_within (numbers_in c.deref-in-Ok.result.now) locals) e = λ sound.
    subst (λ ns. TakesElement w ns e) (sym inside) (c.requires.taken sound) in
    search (rules, the_lemmas, taken)

pub array::lower_array-returns-in-Ok-clause-writes : goal.array::lower_array-returns-in-Ok-clause-writes
array::lower_array-returns-in-Ok-clause-writes t c sound =
    let w = world_in c.args.scope.now in
    let names = names_in c.args.scope.now in
    let d = c.args.to.0 in
    let a = c.args.body.now in
    let z = c.lower_elements.new.body in
    let e = expression_tree c.args.element.now in
    let locals = names_of c.args.scope.now.locals.now in
    let two = c.lower_elements.ensures.writes sound in
    let inside = ap (λ ns. names_within (numbers_in ns) locals) c.deref-in-Ok.ensures.value
    ∙ ap (λ (is : List (List ℕ)). names_within is locals) c.in-Ok.ensures.numbers ∙ ap (λ (n : List ℕ). element_names n names) c.deref.ensures.value in
    subst (λ ns. IsWritten a z (made_code w ns e d (next_of a)) (made_shapes w ns e)) inside two

pub array::lower_array-returns-in-Ok-clause-shape : goal.array::lower_array-returns-in-Ok-clause-shape
array::lower_array-returns-in-Ok-clause-shape t c sound =
    let w = world_in c.args.scope.now in
    let names = names_in c.args.scope.now in
    let e = expression_tree c.args.element.now in
    let locals = names_of c.args.scope.now.locals.now in
    let inside = ap (λ ns. names_within (numbers_in ns) locals) c.deref-in-Ok.ensures.value
    ∙ ap (λ (is : List (List ℕ)). names_within is locals) c.in-Ok.ensures.numbers ∙ ap (λ (n : List ℕ). element_names n names) c.deref.ensures.value in
    c.lower_elements.ensures.shape sound ∙ ap (λ ns. FatShape (static_shape w ns e)) inside

-- the index gets the element's number, and then the element is made
pub array::lower_loop-returns : goal.array::lower_loop-returns
array::lower_loop-returns t c = record {
  writes = λ sound.
      let w = world_in c.args.scope.now in
      let names = names_in c.args.scope.now in
      let d = c.args.to.0 in
      let a = c.args.body.now in
      let own = next_of a in
      let e = expression_tree c.args.element.now in
      let s = static_shape w names e in
      let b = c.begin-outer.new.self in
      let p = c.lower_index.new.body in
      let x = c.lower_each.new.body in
      let v = c.lower_next.new.body in
      let f = c.end-turn.new.self in
      let z = c.lower_turns.new.body in
      let six = c.lower_turns.ensures sound in
      let ended = c.end-turn.ensures.ended in
      let five = c.lower_next.ensures (sym ended.failed ∙ six.sound) in
      let four = c.lower_each.ensures.writes five.sound in
      let three = c.lower_index.ensures four.sound in
      let begun = c.begin-outer.ensures.begun in
      let index = Do (Put 0 0 (width_of UnsignedShape) (d + 2)) ∷ [] in
      let number : next_of p ≡ own = emitted_next b p index three ∙ ap (λ own. length own.items) begun.own in
      let each : ℕ → List Statement = λ n. element_by w s d (whole_code w names e (d + 3) n) (expression_code w names e (d + 3) n) in
      let values = values_by s (whole_values w names e) (expression_values w names e) in
      let element = subst (λ n. IsWritten p x (each n) values) number four in
      let turn = emit_write b p x index (each own) (index ++ each own) values three element refl in
      let test = Do (Apply LessUnsigned (d + 3) (d + 2) (d + 1)) ∷ [] in
      let whole : List Statement → List Statement = λ (ss : List Statement). While (all_of test) (d + 3) (all_of ss) ∷ [] in
      part_written a b x v f z (map statement_tree c.begin-outer.result.items) (map statement_tree c.end-turn.result.items) (index ++ each own)
      (next_number d) values whole begun c.begin-outer.ensures.aside turn five ended c.end-turn.ensures.part six;
}

-- the loop is in the index's block, and begins with 0
pub array::lower_indexed-returns : goal.array::lower_indexed-returns
array::lower_indexed-returns t c = record {
  writes = λ sound.
      let w = world_in c.args.scope.now in
      let names = names_in c.args.scope.now in
      let d = c.args.to.0 in
      let a = c.args.body.now in
      let own = next_of a in
      let e = expression_tree c.args.element.now in
      let s = static_shape w names e in
      let b = c.begin-outer.new.self in
      let p = c.lower_first.new.body in
      let x = c.lower_loop.new.body in
      let f = c.end-inside.new.self in
      let z = c.lower_within.new.body in
      let part = map statement_tree c.end-inside.result.items in
      let outer = map statement_tree c.begin-outer.result.items in
      let five = c.lower_within.ensures sound in
      let ended = c.end-inside.ensures.ended in
      let four = c.lower_loop.ensures.writes (sym ended.failed ∙ five.sound) in
      let three = c.lower_first.ensures four.sound in
      let begun = c.begin-outer.ensures.begun in
      let first = Do (Constant (d + 2) 0) ∷ Do (Put 0 0 (width_of UnsignedShape) (d + 2)) ∷ [] in
      let number : next_of p ≡ own = emitted_next b p first three ∙ ap (λ own. length own.items) begun.own in
      let turns : ℕ → List Statement = λ n.
      elements_code d (element_by w s d (whole_code w names e (d + 3) n) (expression_code w names e (d + 3) n)) in
      let values = values_by s (whole_values w names e) (expression_values w names e) in
      let loop = subst (λ n. IsWritten p x (turns n) values) number four in
      let inside = emit_write b p x first (turns own) (first ++ turns own) values three loop refl in
      let whole : List Statement → List Statement = λ (ss : List Statement).
      Block (local_of w UnsignedShape ∷ []) (all_of ss) ∷ Do (Constant (d + 2) 0) ∷ [] in
      let apart = part_apart a b x f outer (first ++ turns own) values begun c.begin-outer.ensures.aside inside ended in
      let part_same = part_is a b x part (λ n. first ++ turns own) values begun inside c.end-inside.ensures.part in
      subst (λ ss. IsWritten a z (whole ss) values) part_same (apart_emit a f z (whole part) values apart five);
}

-- the elements are made in their turns, behind the request
pub array::lower_elements-returns-clause-writes : goal.array::lower_elements-returns-clause-writes
array::lower_elements-returns-clause-writes t c sound =
    let w = world_in c.args.scope.now in
    let names = names_in c.args.scope.now in
    let d = c.args.to.0 in
    let a = c.args.body.now in
    let own = next_of a in
    let e = expression_tree c.args.element.now in
    let s = static_shape w names e in
    let h = c.known-shape.new.self in
    let k = c.known-elements.new.self in
    let l = c.lower_request.new.body in
    let z = c.lower_indexed.new.body in
    let four = c.lower_indexed.ensures.writes sound in
    let three = c.lower_request.ensures four.sound in
    let two = c.known-elements.ensures.stays three.sound in
    let one = c.known-shape.ensures.stays two.sound in
    let both = same_same a h k one two in
    let shape_is = subst (λ r. IfOk r (λ x. shape_tree x ≡ s)) (c.known-shape.ensures.known two.sound) c.shape_of.ensures.shape in
    let asked : Shape → List Statement = λ y. Do (RegionAlloc d d (d + 1) (layout_of w y)) ∷ [] in
    let request = subst (λ y. IsEmitted k l (asked y)) shape_is three in
    let number : next_of l ≡ own = emitted_next k l (asked s) request ∙ same_next a k both in
    let each : ℕ → List Statement = λ n. element_by w s d (whole_code w names e (d + 3) n) (expression_code w names e (d + 3) n) in
    let inside : ℕ → List Statement = λ n. indexed_code w d (each n) ++ (Do (Constant (d + 2) 0) ∷ []) in
    let values = values_by s (whole_values w names e) (expression_values w names e) in
    let elements = subst (λ n. IsWritten l z (inside n) values) number four in
    same_write a k z (array_code w s d (each own)) values both
    (emit_write k l z (asked s) (inside own) (array_code w s d (each own)) values request elements refl)
