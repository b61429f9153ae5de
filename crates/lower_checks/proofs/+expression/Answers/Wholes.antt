-- Whole structs and unions, from the values of their members.
use Rattle.std.proofs.Common.{rules, ◌≡◌, ◌∙◌, ◌+◌, ◌-◌, ℕ, suc, IfOk, arith, refl, sym, ap, subst, List, [], ◌∷◌, ◌++◌, length, map, drop, take}
use Rattle.std.proofs.lemmas.List.{at_drop_all}
use Rattle.cyc_tree.specs.View.{expression_tree, expressions_of, member_tree}
use Rattle.core_meaning.specs.Core.{Do, OwnAddress, Statement}
use Rattle.cyc_tree.specs.Tree.{MoreExpressions, NoExpressions}
use Rattle.cyc_tree.specs.declared.expression.Expression as code_expression
use Rattle.cyc_tree.specs.declared.expression.Expression.TheFolds.{the_lemmas}
use Rattle.source_meaning.specs.Conversions.{cells_of}
use Rattle.source_meaning.specs.Shapes.{Part, Shape, StructShape, UnionShape, part_of, part_shape, parts_of}
use Rattle.source_meaning.specs.Sizes.{Extent, rounded_up}
use Rattle.source_lowering.specs.Layouts.{extent_of}
use Rattle.source_lowering.specs.Lowerable.{IsMember, IsWholeShape, TakesMade}
use Rattle.source_lowering.specs.Lowered.{
  copied_code,
  expression_code,
  expression_values,
  made_values,
  member_code,
  member_number,
  members_code,
  place_code,
  static_shape,
  union_code,
  values_by,
  whole_code,
  whole_values,
}
use Rattle.cyc_tree.specs.Room.{argument_room}
use Rattle.lower_checks.specs.Room as rooms
use Rattle.lower_checks.specs.Scoped.{names_in, world_in}
use Rattle.lower_checks.specs.Structs.{HaveRoom, room_tree}
use Rattle.lower_checks.specs.Views.{shape_tree}
use Rattle.lower_checks.specs.Within.{AreWithin}
use Rattle.lower_checks.specs.Writing.{IsEmitted, IsLeft, IsWritten, next_of}
use Rattle.lower_checks.proofs.Making.{IsWholeOne, room_whole}
use Rattle.lower_checks.proofs.Writing.{
  emitted_next,
  left_more,
  next_is,
  none_left,
  same_next,
  same_write,
  write_emit,
  write_write,
}
use Rattle.lower_checks.proofs.Arguments.{no_members, no_values}
use Rattle.lower_checks.proofs.Room.{room_least}
use Rattle.lower_checks.proofs.Remaining.{first_part, left_operands}
use Rattle.lower_checks.proofs.Within.{members_within, next_within}
use Rattle.lower_checks.proofs.+expression.Goals as goal

-- the next member lies where it is taken for
pub whole::lower_members-rounded-requires : goal.whole::lower_members-rounded-requires
whole::lower_members-rounded-requires t c =
    let w = world_in c.args.scope.now in
    let parts_are = first_part c.each.left.now c.member-item.result c.in-len1-up.len_at_least c.member-item.is in
    let left = subst (AreWithin w c.each.slot.bytes c.each.slot.cells) parts_are c.each.invariant.within in
    record { small = (next_within w c.each.slot.bytes c.each.slot.cells (part_of (member_tree c.member-item.result)) _ left).before }

-- it ends where its number fits
pub whole::lower_members-overflow_add-slot-in-each : goal.whole::lower_members-overflow_add-slot-in-each
whole::lower_members-overflow_add-slot-in-each t c =
    let w = world_in c.args.scope.now in
    let bytes = c.each.slot.bytes in
    let part = part_of (member_tree c.member-item.result) in
    let parts_are = first_part c.each.left.now c.member-item.result c.in-len1-up.len_at_least c.member-item.is in
    let next = next_within w bytes c.each.slot.cells part _ (subst (AreWithin w bytes c.each.slot.cells) parts_are c.each.invariant.within) in
    let extent_is : room_tree c.extent-room.result ≡ extent_of w part.shape = c.extent-room.ensures ∙ ap (extent_of w) c.of-shape.ensures in
    let ends = ap (λ n. n + c.extent-room.result.size) c.rounded.ensures.rounded ∙ ap (λ (x : Extent). rounded_up bytes x.align + x.size) extent_is in
    omega (arith, next.behind, ends)

-- one more member of a struct that is made
pub whole::lower_members-each-preserved : goal.whole::lower_members-each-preserved
whole::lower_members-each-preserved t c =
    let w = world_in c.args.scope.now in
    let names = names_in c.args.scope.now in
    let d = c.args.to.0 in
    let k = c.each.argument-index in
    let a = c.args.body.now in
    let b = c.each.body in
    let z = c.lower_member.new.body in
    let own = next_of b in
    let cells = c.each.slot.cells in
    let bytes = c.each.slot.bytes in
    let e = expression_tree c.argument-item.result in
    let s = static_shape w names e in
    let others = expressions_of (map expression_tree (drop (k + 1) c.args.arguments.now)) in
    let here = left_operands c.args.arguments.now k c.argument-item.result c.each-test.true c.argument-item.is in
    let parts = map part_of (map member_tree c.each.left.now) in
    let part = part_of (member_tree c.member-item.result) in
    let more_parts = map part_of (map member_tree (take (length c.each.left.now - 1) (drop 1 c.each.left.now))) in
    let parts_are : parts ≡ part ∷ more_parts = first_part c.each.left.now c.member-item.result c.in-len1-up.len_at_least c.member-item.is in
    let room : rooms.HasRoom d (16 + argument_room (MoreExpressions e others)) =
    subst (λ es. rooms.HasRoom d (16 + argument_room es)) here c.each.invariant.room in
    let shape_is : shape_tree c.of-shape.result ≡ part.shape = c.of-shape.ensures in
    let extent = extent_of w part.shape in
    let extent_is : room_tree c.extent-room.result ≡ extent = c.extent-room.ensures ∙ ap (extent_of w) shape_is in
    let at = rounded_up bytes extent.align in
    let at_is : c.rounded.result ≡ at = c.rounded.ensures.rounded ∙ ap (λ (x : Extent). rounded_up bytes x.align) extent_is in
    let more_cells = cells + length (cells_of w part.shape) in
    let cells_are : cells + c.count.result ≡ more_cells = ap (λ x. cells + x) (c.count.ensures ∙ ap (λ x. length (cells_of w x)) shape_is) in
    let bytes_are : c.rounded.result + c.extent-room.result.size ≡ at + extent.size =
    ap (λ x. x + c.extent-room.result.size) at_is ∙ ap (λ (x : Extent). at + x.size) extent_is in
    let next = next_within w bytes cells part more_parts (subst (AreWithin w bytes cells) parts_are c.each.invariant.within) in
    record {
      to = c.each.invariant.to;
      written = λ sound.
          let two = c.lower_member.ensures.writes sound in
          let invariant = c.each.invariant.written two.sound in
          let values_at : Shape → List Shape = λ x. values_by x (whole_values w names e) (expression_values w names e) in
          let code_at : Shape → ℕ → ℕ → List Statement = λ x to from.
          member_code w x s to cells from (whole_code w names e (to + 1) own) (expression_code w names e (to + 1) own) in
          let here_code = code_at part.shape d at in
          let values = values_at part.shape in
          let shaped = subst (λ x. IsWritten b z (code_at x c.each.slot.to.0 c.rounded.result) (values_at x)) shape_is two in
          let placed = subst (λ x. IsWritten b z (code_at part.shape x c.rounded.result) values) c.each.invariant.to shaped in
          let written = subst (λ x. IsWritten b z (code_at part.shape d x) values) at_is placed in
          let all_parts = map part_of (map member_tree c.args.members.now) in
          let all = expressions_of (map expression_tree c.args.arguments.now) in
          let code = members_code w names all_parts all d 0 0 (next_of a) in
          let every = made_values w names all_parts all in
          let those = made_values w names more_parts others in
          let rest = members_code w names more_parts others d more_cells (at + extent.size) (own + length values) in
          let left = subst (λ es. IsLeft a b code (members_code w names parts es d cells bytes own) every (made_values w names parts es)) here invariant.left in
          let one_left =
          subst (λ ps. IsLeft a b code (members_code w names ps (MoreExpressions e others) d cells bytes own) every
          (made_values w names ps (MoreExpressions e others))) parts_are left in
          let more = left_more a b z code here_code rest every values those one_left written in
          let counted =
          subst (λ x. IsLeft a z code (members_code w names more_parts others d more_cells (at + extent.size) x) every those)
          (sym (next_is b z here_code values written)) more in
          record {
            left =
                subst (λ x. IsLeft a z code (members_code w names more_parts others d x (c.rounded.result + c.extent-room.result.size) (next_of z)) every those)
                (sym cells_are)
                (subst (λ x. IsLeft a z code (members_code w names more_parts others d more_cells x (next_of z)) every those) (sym bytes_are) counted);
            room = (subst (HaveRoom w.unions w.structs) parts_are invariant.room).1;
            taken = (subst (λ x. TakesMade w names x (MoreExpressions e others)) parts_are (subst (TakesMade w names parts) here invariant.taken)).1;
          };
      room = omega (arith, room);
      within = subst (λ x. AreWithin w x (cells + c.count.result) more_parts) (sym bytes_are)
          (subst (λ x. AreWithin w (at + extent.size) x more_parts) (sym cells_are) next.others);
    }

-- no argument is left
pub whole::lower_members-returns : goal.whole::lower_members-returns
whole::lower_members-returns t c = record {
  writes = λ sound.
      let w = world_in c.args.scope.now in
      let names = names_in c.args.scope.now in
      let d = c.args.to.0 in
      let a = c.args.body.now in
      let b = c.each.body in
      let own = next_of b in
      let cells = c.each.slot.cells in
      let bytes = c.each.slot.bytes in
      let all_parts = map part_of (map member_tree c.args.members.now) in
      let all = expressions_of (map expression_tree c.args.arguments.now) in
      let parts = map part_of (map member_tree c.each.left.now) in
      let none = at_drop_all (λ (es : List code_expression.Expression). expressions_of (map expression_tree es)) c.args.arguments.now c.each.argument-index
      (omega (arith, c.each-test.false)) in
      let code = members_code w names all_parts all d 0 0 (next_of a) in
      let every = made_values w names all_parts all in
      let left =
      subst (λ es. IsLeft a b code (members_code w names parts es d cells bytes own) every (made_values w names parts es)) none
      (c.each.invariant.written sound).left in
      none_left a b code (members_code w names parts NoExpressions d cells bytes own) every (made_values w names parts NoExpressions)
      (no_members w names parts d cells bytes own) (no_values w names parts) left;
}

-- the members of a struct end within 4,096 bytes and cells
pub whole::lower_made-lower_members-requires : goal.whole::lower_made-lower_members-requires
whole::lower_made-lower_members-requires t c =
    let within = members_within (world_in c.args.scope.now) c.args.tag.now c.in-Some.known.now c.struct_of.ensures.small c.in-Some.ensures.found in
    search (rules, the_lemmas, within)

-- a struct that is made: its members behind its address
pub whole::lower_made-returns-in-Some : goal.whole::lower_made-returns-in-Some
whole::lower_made-returns-in-Some t c = record {
  writes = λ sound.
      let w = world_in c.args.scope.now in
      let names = names_in c.args.scope.now in
      let d = c.args.to.0 in
      let a = c.args.body.now in
      let own = next_of a in
      let tag = c.args.tag.now in
      let es = expressions_of (map expression_tree c.args.arguments.now) in
      let v = c.value-value.new.self in
      let o = c.operation.new.self in
      let z = c.lower_members.new.body in
      let parts = map part_of (map member_tree c.in-Some.known.now.members.now) in
      let parts_are : parts_of w.structs tag ≡ parts = c.in-Some.ensures.found.parts in
      let three = c.lower_members.ensures.writes sound in
      let two = c.operation.ensures three.sound in
      let one = c.value-value.ensures.writes two.sound in
      let here = Do (OwnAddress d own) ∷ [] in
      let address = subst (λ n. IsEmitted v o (Do (OwnAddress d n) ∷ [])) (c.value-value.ensures.number two.sound) two in
      let number : next_of o ≡ suc own = omega (arith, emitted_next v o here address, next_is a v [] (StructShape tag ∷ []) one) in
      let members = subst (λ n. IsWritten o z (members_code w names parts es d 0 0 n) (made_values w names parts es)) number three in
      let first = write_emit a v o [] here here (StructShape tag ∷ []) one address refl in
      subst (λ ps. IsWritten a z (here ++ members_code w names ps es d 0 0 (suc own)) (StructShape tag ∷ made_values w names ps es)) (sym parts_are)
      (write_write a o z here (members_code w names parts es d 0 0 (suc own)) (here ++ members_code w names parts es d 0 0 (suc own)) (StructShape tag ∷ [])
      (made_values w names parts es) (StructShape tag ∷ made_values w names parts es) first members refl refl);
}

-- the value of a union's member comes behind the union's address
pub whole::lower_union-lower_held-requires : goal.whole::lower_union-lower_held-requires
whole::lower_union-lower_held-requires t c = record {
  room = omega (arith, c.requires.room);
  taken = λ sound.
      let three = c.lower_expression-from.ensures.writes sound in
      let one = c.operation.ensures three.sound in
      let a = (c.value-own.ensures.writes one.sound).sound in
      (c.requires.taken a).1.0;
}

-- a member that is a struct or a union, and has room, is one of the program's
pub whole::lower_member-lower_struct_member-requires : goal.whole::lower_member-lower_struct_member-requires
whole::lower_member-lower_struct_member-requires t c = record {
  room = omega (arith, c.requires.room);
  taken = λ sound.
      let w = world_in c.args.scope.now in
      let s = shape_tree c.args.shape.now in
      let one : IsWholeOne s = search rules in
      let a = (c.lower_whole.ensures.writes sound).sound in
      room_whole w.unions w.structs s one (c.requires.taken a).0;
}

pub whole::lower_union-returns : goal.whole::lower_union-returns
whole::lower_union-returns t c = record {
  writes = λ sound.
      let w = world_in c.args.scope.now in
      let names = names_in c.args.scope.now in
      let d = c.args.to.0 in
      let a = c.args.body.now in
      let own = next_of a in
      let tag = c.args.tag.now in
      let member = c.args.member.now in
      let e = expression_tree c.args.value.now in
      let s = static_shape w names e in
      let v = c.value-own.new.self in
      let o = c.operation.new.self in
      let x = c.lower_expression-from.new.body in
      let z = c.lower_held.new.body in
      let next = c.behind-next.result.0 in
      let parts = parts_of w.unions tag in
      let five = c.lower_held.ensures sound in
      let four = c.lower_expression-from.ensures.writes five.sound in
      let two = c.operation.ensures four.sound in
      let one = c.value-own.ensures.writes two.sound in
      let here = Do (OwnAddress d own) ∷ [] in
      let address = subst (λ n. IsEmitted v o (Do (OwnAddress d n) ∷ [])) (c.value-own.ensures.number two.sound) two in
      let number : next_of o ≡ suc own = omega (arith, emitted_next v o here address, next_is a v [] (UnionShape tag ∷ []) one) in
      let at_is : next ≡ d + 1 = c.behind-next.ensures in
      let values = expression_values w names e in
      let begun = subst (λ n. IsWritten o x (expression_code w names e n (next_of o)) values) at_is four in
      let value = expression_code w names e (d + 1) (suc own) in
      let valued = subst (λ n. IsWritten o x (expression_code w names e (d + 1) n) values) number begun in
      let holding : Shape → List Statement = λ from. union_code w (part_shape parts member) from (member_number parts member) d in
      let held = subst (λ r. IsEmitted x z (holding r)) (c.lower_expression-from.ensures.shape five.sound) five in
      let first = write_emit a v o [] here here (UnionShape tag ∷ []) one address refl in
      let second = write_emit o x z value (holding s) (value ++ holding s) values valued held refl in
      write_write a o z here (value ++ holding s) (here ++ (value ++ holding s)) (UnionShape tag ∷ []) values (UnionShape tag ∷ values) first second refl refl;
}

-- what is copied from a place has room for the temporary behind it
pub whole::lower_read-lower_copied-requires : goal.whole::lower_read-lower_copied-requires
whole::lower_read-lower_copied-requires t c = record {
  room = omega (arith, c.requires.room, room_least (expression_tree c.args.place.now));
  taken = λ sound.
      let w = world_in c.args.scope.now in
      let s = static_shape w (names_in c.args.scope.now) (expression_tree c.args.place.now) in
      let three = c.lower_place.ensures.writes sound in
      let two = c.value-value.ensures.writes three.sound in
      let one = c.known-shape.ensures.stays two.sound in
      let shape_is = subst (λ r. IfOk r (λ x. shape_tree x ≡ s)) (c.known-shape.ensures.known two.sound) c.shape_of.ensures.shape in
      subst (IsWholeShape w.unions w.structs) (sym shape_is) (c.requires.taken one.sound).1;
}

-- a struct that is copied from a place
pub whole::lower_read-returns : goal.whole::lower_read-returns
whole::lower_read-returns t c = record {
  writes = λ sound.
      let w = world_in c.args.scope.now in
      let names = names_in c.args.scope.now in
      let d = c.args.to.0 in
      let a = c.args.body.now in
      let own = next_of a in
      let e = expression_tree c.args.place.now in
      let s = static_shape w names e in
      let k = c.known-shape.new.self in
      let v = c.value-value.new.self in
      let b = c.lower_place.new.body in
      let z = c.lower_copied.new.body in
      let value = c.value-value.result in
      let values = expression_values w names e in
      let four = c.lower_copied.ensures sound in
      let three = c.lower_place.ensures.writes four.sound in
      let two = c.value-value.ensures.writes three.sound in
      let one = c.known-shape.ensures.stays two.sound in
      let shape_is = subst (λ r. IfOk r (λ x. shape_tree x ≡ s)) (c.known-shape.ensures.known two.sound) c.shape_of.ensures.shape in
      let value_is : value ≡ own = c.value-value.ensures.number three.sound ∙ same_next a k one in
      let added = subst (λ x. IsWritten k v [] (x ∷ [])) shape_is two in
      let first = same_write a k v [] (s ∷ []) one added in
      let number : next_of v ≡ suc own = omega (arith, next_is a v [] (s ∷ []) first) in
      let place = place_code w names e d (suc own) in
      let placed = subst (λ n. IsWritten v b (place_code w names e d n) values) number three in
      let copy = copied_code w s d own in
      let copied =
      subst (λ n. IsEmitted b z (copied_code w s d n)) value_is
      (subst (λ x. IsEmitted b z (copied_code w x d value)) shape_is four) in
      write_emit a b z place copy (place ++ copy) (s ∷ values) (write_write a v b [] place place (s ∷ []) values (s ∷ values) first placed refl refl) copied
      refl;
}
