use Rattle.std.proofs.Common.{◌≡◌, ◌∙◌, ◌+◌, ◌-◌, ℕ, arith, sym, ap, subst, List, [], ◌∷◌, map, drop}
use Rattle.core_meaning.specs.Core.{Statement}
use Rattle.cyc_tree.specs.View.{suffix_tree, suffixes_of}
use Rattle.source_meaning.specs.Programs.{world_of}
use Rattle.lower_checks.specs.Reaching.{Place, further_code, further_place, indices_in, reached_place}
use Rattle.lower_checks.specs.Writing.{IsEmitting}
use Rattle.lower_checks.proofs.Remaining.{left_suffixes}
use Rattle.lower_checks.proofs.Suffixes.{further_one, place_one}
use Rattle.lower_checks.proofs.Writing.{emitting_more}
use Rattle.lower_checks.proofs.member.follow.Goals as goal

pub follow_one-reached-requires : goal.follow_one-reached-requires
follow_one-reached-requires c = record {
  room = c.each.invariant.room;
  within = c.each.invariant.within;
}

pub each-preserved : goal.each-preserved
each-preserved c = record {
  room = omega (arith, c.reached_in-to.ensures, c.each.invariant.room);
  within = c.follow_one-reached.ensures.within;
  way = λ sound.
      let w = world_of c.args.program.now in
      let a = c.args.body.now in
      let b = c.each.body in
      let z = c.follow_one-reached.new.body in
      let k = c.each.suffix-index in
      let one = suffix_tree c.suffix-item.result in
      let single = suffixes_of (one ∷ []) in
      let rest = map suffix_tree (drop (k + 1) c.args.suffixes.now) in
      let here = left_suffixes c.args.suffixes.now k c.suffix-item.result c.each-test.true c.suffix-item.is in
      let p = reached_place c.each.reached in
      let q = further_place w single p in
      let t = c.each.to.0 in
      let u = c.reached_in-to.result.0 in
      let next_is : reached_place c.follow_one-reached.result ≡ q = c.follow_one-reached.ensures.place sound in
      let u_is : u ≡ t - indices_in single = c.reached_in-to.ensures in
      let done = c.follow_one-reached.ensures.code sound in
      let invariant = c.each.invariant.way done.sound in
      let others : Place → ℕ → List Statement = further_code w (suffixes_of rest) in
      let all = further_code w (suffixes_of (map suffix_tree c.args.suffixes.now)) (reached_place c.args.start) c.args.pointer.0 in
      let left =
      subst (λ ss. IsEmitting a b all ss) (further_one w one rest p t) (subst (λ ss. IsEmitting a b all (further_code w ss p t)) here invariant.code) in
      let more = emitting_more a b z all (further_code w single p t) (others q (t - indices_in single)) left done in
      record {
        code = subst (λ x. IsEmitting a z all (others x u)) (sym next_is) (subst (λ x. IsEmitting a z all (others q x)) (sym u_is) more);
        place = ap (further_place w (suffixes_of rest)) next_is ∙ sym (place_one w one rest p) ∙ ap (λ x. further_place w x p) (sym here) ∙ invariant.place;
      };
}
