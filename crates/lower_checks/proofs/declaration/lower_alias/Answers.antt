use Rattle.std.proofs.Common.{◌≡◌, ◌∙◌, sym, refl, ap, subst, ◌++◌, append-nil, map}
use Rattle.cyc_tree.specs.Tree.{Expression}
use Rattle.cyc_tree.specs.View.{name_tree, type_tree}
use Rattle.source_meaning.specs.Shapes.{Shape, settled_by, written}
use Rattle.source_lowering.specs.Lowered.{conversion_code, expression_code, get_code, named_shape, put_local, static_shape, valued}
use Rattle.lower_checks.specs.Scoped.{names_in, world_in}
use Rattle.lower_checks.specs.Views.{shape_tree}
use Rattle.lower_checks.specs.Writing.{IsEmitted, next_of, values_of}
use Rattle.lower_checks.proofs.Initials.{word_code}
use Rattle.lower_checks.proofs.Writing.{emit_emit, same_emit}
use Rattle.lower_checks.proofs.declaration.lower_alias.Goals as goal

-- a word, as a local begins that is initialized with the pointer's name
pub returns : goal.returns
returns c = record {
  writes = λ sound.
      let w = world_in c.args.scope.now in
      let names = names_in c.args.scope.now in
      let e = Expression.Variable (name_tree c.args.pointer.now) in
      let from = static_shape w names e in
      let s = settled_by (written (type_tree c.args.of.now)) from in
      let to = c.args.to.0 in
      let index = c.args.index in
      let a = c.args.body.now in
      let b = c.alias_shape-shape.new.body in
      let x = c.lower_get-from.new.body in
      let y = c.lower_conversion.new.body in
      let z = c.lower_put_local.new.body in
      let four = c.lower_put_local.ensures sound in
      let three = c.lower_conversion.ensures four.sound in
      let two = c.lower_get-from.ensures.code three.sound in
      let one = c.alias_shape-shape.ensures.stays two.sound in
      let shape_is : shape_tree c.alias_shape-shape.result ≡ s = c.alias_shape-shape.ensures.shape two.sound in
      let from_is : shape_tree c.lower_get-from.result ≡ from =
      c.lower_get-from.ensures.shape ∙ ap (λ name. valued (named_shape w names name)) c.deref.ensures.value in
      let read = expression_code w names e to (next_of a) in
      let converted = conversion_code w s from to in
      let put = put_local s to 0 index in
      let first : IsEmitted b x read = subst (λ name. IsEmitted b x (get_code w names name to)) c.deref.ensures.value two in
      let second =
      subst (λ (t : Shape). IsEmitted x y (conversion_code w s t to)) from_is
      (subst (λ (t : Shape). IsEmitted x y (conversion_code w t (shape_tree c.lower_get-from.result) to)) shape_is three) in
      let third = subst (λ (t : Shape). IsEmitted y z (put_local t to 0 index)) shape_is four in
      let all =
      emit_emit a x z read (converted ++ put) (read ++ (converted ++ put)) (same_emit a b x read one first)
      (emit_emit x y z converted put (converted ++ put) second third refl) refl in
      let placed = subst (λ ss. IsEmitted a z ss) (sym (word_code w names s e to index (next_of a) (c.requires.taken one.sound))) all in
      record {
        sound = all.sound;
        code = placed.code;
        values = ap (λ own. map shape_tree own.items) all.own ∙ sym (append-nil (values_of a));
      };
}
