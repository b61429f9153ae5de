use Rattle.std.proofs.Common.{◌≡◌, ◌+◌, ℕ, arith, refl, sym, subst, List, ◌++◌, length}
use Rattle.std.specs.Prelude.{IfOk}
use Rattle.core_meaning.specs.Core.{Statement}
use Rattle.cyc_tree.specs.View.{expression_tree}
use Rattle.source_lowering.specs.Lowerable.{IsExchanged}
use Rattle.source_lowering.specs.Lowered.{expression_values, place_code, static_shape}
use Rattle.source_lowering.specs.Programs.{exchange_code, side_code, side_of}
use Rattle.lower_checks.specs.Scoped.{names_in, world_in}
use Rattle.lower_checks.specs.Views.{shape_tree, side_tree}
use Rattle.lower_checks.specs.Writing.{IsEmitted, IsWritten, next_of}
use Rattle.lower_checks.proofs.Writing.{moved, next_is, write_emit, write_write}
use Rattle.lower_checks.proofs.exchange.lower_exchange.Goals as goal

-- the places are of one shape, that of the left one
pub lower_held_exchange-requires : goal.lower_held_exchange-requires
lower_held_exchange-requires c = record {
  room = omega (arith, c.requires.room);
  taken = λ sound.
      let w = world_in c.args.scope.now in
      let s = static_shape w (names_in c.args.scope.now) (expression_tree c.args.left.now) in
      let one = c.lower_side-one.ensures.writes (c.lower_side-other.ensures.writes sound).sound in
      let shape_is : shape_tree c.known-shape.result ≡ s =
      subst (λ r. IfOk r (λ found. shape_tree found ≡ s)) (c.known-shape.ensures.known one.sound) c.shape_of.ensures.shape in
      subst (IsExchanged w.unions) (sym shape_is) (c.requires.taken (c.known-shape.ensures.stays one.sound).sound).1.1;
}

-- the right place's pointer comes into the next temporary, and its temporary objects behind those of the left one
pub returns : goal.returns
returns c = record {
  writes = λ sound.
      let w = world_in c.args.scope.now in
      let names = names_in c.args.scope.now in
      let d = c.args.to.0 in
      let a = c.args.body.now in
      let k = c.known-shape.new.self in
      let p = c.lower_side-one.new.body in
      let q = c.lower_side-other.new.body in
      let z = c.lower_held_exchange.new.body in
      let next = c.behind-next.result.0 in
      let left = expression_tree c.args.left.now in
      let right = expression_tree c.args.right.now in
      let x = side_of names left in
      let y = side_of names right in
      let s = static_shape w names left in
      let values = expression_values w names left in
      let more = expression_values w names right in
      let three = c.lower_held_exchange.ensures sound in
      let two = c.lower_side-other.ensures.writes three.sound in
      let one = c.lower_side-one.ensures.writes two.sound in
      let first : ℕ → List Statement = λ n. side_code x (place_code w names left d n) in
      let second : ℕ → List Statement = λ n. side_code y (place_code w names right (d + 1) (n + length values)) in
      let exchange = exchange_code w x y s d in
      let at_is : next ≡ d + 1 = c.behind-next.ensures in
      let number = next_is k p (first (next_of k)) values one in
      let begun = subst (λ n. IsWritten p q (side_code y (place_code w names right n (next_of p))) more) at_is two in
      let placed = subst (λ n. IsWritten p q (side_code y (place_code w names right (d + 1) n)) more) number begun in
      let found = shape_tree c.known-shape.result in
      let shape_is : found ≡ s =
      subst (λ r. IfOk r (λ shape. shape_tree shape ≡ s)) (c.known-shape.ensures.known one.sound) c.shape_of.ensures.shape in
      let right_side = side_tree c.lower_side-other.result in
      let left_known = subst (λ v. IsEmitted q z (exchange_code w v right_side found d)) c.lower_side-one.ensures.side three in
      let both_known = subst (λ v. IsEmitted q z (exchange_code w x v found d)) c.lower_side-other.ensures.side left_known in
      let exchanged = subst (λ r. IsEmitted q z (exchange_code w x y r d)) shape_is both_known in
      let all : ℕ → List Statement = λ n. first n ++ (second n ++ exchange) in
      let own = next_of k in
      let behind = write_emit p q z (second own) exchange (second own ++ exchange) more placed exchanged refl in
      moved a k z all (values ++ more) (c.known-shape.ensures.stays one.sound)
      (write_write k p z (first own) (second own ++ exchange) (all own) values more (values ++ more) one behind refl refl);
}
