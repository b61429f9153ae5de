-- The place that suffixes lead to.
use Rattle.std.proofs.Common.{rules, ◌≡◌, ◌∙◌, ◌+◌, ◌-◌, ◌<◌, ℕ, arith, sym, ap, subst, [], ◌∷◌, length, map, drop}
use Rattle.cyc_tree.proofs.Forms.{suffixed_tree}
use Rattle.cyc_tree.specs.View.{expression_tree, suffix_tree, suffixes_of}
use Rattle.cyc_tree.specs.Tree.{Suffixes}
use Rattle.cyc_tree.specs.declared.expression.Expression.TheFolds.{the_lemmas}
use Rattle.source_lowering.specs.Lowerable.{Takes, TakesIndices, TakesPlace, TakesSuffixes}
use Rattle.source_lowering.proofs.expressions.Indices.{indices_taken}
use Rattle.source_lowering.specs.Lowered.{expression_code, place_code, static_shape, suffix_values}
use Rattle.cyc_tree.specs.Room.{room, suffix_room}
use Rattle.lower_checks.specs.Reaching.{IsLeftAt, Place, TakesSuffixed, further_place, indices_code, indices_in, place_at_once, reached_place, suffixed_left}
use Rattle.lower_checks.specs.Room.{HasRoom}
use Rattle.lower_checks.specs.Scoped.{names_in, world_in}
use Rattle.lower_checks.specs.Writing.{IsSound, IsWritten, next_of}
use Rattle.lower_checks.proofs.Parts.{suffixed_is}
use Rattle.lower_checks.proofs.Following.{index_written, suffixed_written}
use Rattle.lower_checks.proofs.Suffixes.{begun_place, each_taken, further_taken, indices_count, place_one, place_shape, suffixes_one}
use Rattle.lower_checks.proofs.Room.{indices_within, suffix_first, suffix_from}
use Rattle.lower_checks.proofs.Remaining.{left_suffixes}
use Rattle.lower_checks.proofs.+expression.Goals as goal

-- indices: the last one that is left comes behind those that were evaluated
pub place::lower_indices-lower_subscript-to-requires : goal.place::lower_indices-lower_subscript-to-requires
place::lower_indices-lower_subscript-to-requires t c =
    let w = world_in c.args.scope.now in
    let names = names_in c.args.scope.now in
    let ss = c.args.suffixes.now in
    let at = length ss - 1 - c.each.k in
    let item = c.index-suffixes-suffixes.result in
    let within : at < length ss = omega (arith, c.each-test.true) in
    let here = left_suffixes ss at item within c.index-suffixes-suffixes.is in
    let taken : IsSound c.each.body → TakesIndices w names (suffixes_of (suffix_tree item ∷ [])) = λ sound.
    (each_taken w names (suffix_tree item) (map suffix_tree (drop (at + 1) ss))
    (subst (TakesIndices w names) here (further_taken w names ss at (c.requires.taken (c.each.invariant.writes sound).sound)))).0 in
    let one = suffix_tree item in
    let rest = map suffix_tree (drop (at + 1) ss) in
    let begun : length ss - c.each.k ≡ at + 1 = omega (arith, c.each-test.true) in
    let to_is : c.each.to.0 ≡ c.args.first.0 + indices_in (suffixes_of rest) =
    c.each.invariant.behind ∙ ap (λ n. c.args.first.0 + indices_in (suffixes_of (map suffix_tree (drop n ss)))) begun in
    let left_is : suffix_room (suffixes_of (map suffix_tree (drop at ss))) ≡ suffix_room (suffixes_of (one ∷ [])) + suffix_room (suffixes_of rest) =
    ap suffix_room here ∙ suffix_first one rest in
    let room : HasRoom c.each.to.0 (suffix_room (suffixes_of (one ∷ []))) =
    omega (arith, c.requires.room, to_is, left_is, suffix_from ss at, indices_within (suffixes_of rest)) in
    search (rules, the_lemmas, taken, room)

pub place::lower_indices-each-preserved : goal.place::lower_indices-each-preserved
place::lower_indices-each-preserved t c =
    let w = world_in c.args.scope.now in
    let names = names_in c.args.scope.now in
    let d = c.args.first.0 in
    let a = c.args.body.now in
    let z = c.lower_subscript-to.new.body in
    let own = next_of a in
    let ss = c.args.suffixes.now in
    let k = c.each.k in
    let at = length ss - 1 - k in
    let item = c.index-suffixes-suffixes.result in
    let one = suffix_tree item in
    let rest = map suffix_tree (drop (at + 1) ss) in
    let within : at < length ss = omega (arith, c.each-test.true) in
    let begun : length ss - k ≡ at + 1 = omega (arith, c.each-test.true) in
    let next : length ss - (k + 1) ≡ at = omega (arith, c.each-test.true) in
    let all = suffixes_of (map suffix_tree (drop (length ss - k) ss)) in
    let from : all ≡ suffixes_of rest = ap (λ n. suffixes_of (map suffix_tree (drop n ss))) begun in
    let to : suffixes_of (map suffix_tree (drop (length ss - (k + 1)) ss)) ≡ suffixes_of (one ∷ rest) =
    ap (λ n. suffixes_of (map suffix_tree (drop n ss))) next ∙ left_suffixes ss at item within c.index-suffixes-suffixes.is in
    let invariant = c.each.invariant in
    let behind_is : c.each.to.0 ≡ d + indices_in (suffixes_of rest) = invariant.behind ∙ ap (λ x. d + indices_in x) from in
    let to_is : c.lower_subscript-to.result.0 ≡ d + indices_in (suffixes_of (one ∷ rest)) =
    omega (arith, c.lower_subscript-to.ensures.behind, behind_is, indices_count one rest) in
    record {
      writes = λ sound.
          let second = c.lower_subscript-to.ensures.writes sound in
          subst (λ x. IsWritten a z (indices_code w names x d own) (suffix_values w names x)) (sym to)
          (index_written w names one rest a c.each.body z d c.each.to.0 all from invariant.behind (invariant.writes second.sound) second);
      behind = to_is ∙ ap (λ x. d + indices_in x) (sym to);
    }

pub place::lower_indices-returns-clause-writes : goal.place::lower_indices-returns-clause-writes
place::lower_indices-returns-clause-writes t c sound =
    let w = world_in c.args.scope.now in
    let names = names_in c.args.scope.now in
    let a = c.args.body.now in
    let ss = c.args.suffixes.now in
    let all : length ss - c.each.k ≡ 0 = omega (arith, c.each-test.false) in
    let behind : ℕ → Suffixes = λ n. suffixes_of (map suffix_tree (drop n ss)) in
    subst (λ n. IsWritten a c.each.body (indices_code w names (behind n) c.args.first.0 (next_of a)) (suffix_values w names (behind n))) all
    (c.each.invariant.writes sound)

-- suffixes: the indices, then the primary, and then what is behind the first suffix
pub place::lower_suffixed-lower_indices-behind-requires : goal.place::lower_suffixed-lower_indices-behind-requires
place::lower_suffixed-lower_indices-behind-requires t c =
    let w = world_in c.args.scope.now in
    let names = names_in c.args.scope.now in
    let primary = expression_tree c.in-Suffixed.primary.value in
    let items = suffixes_of (map suffix_tree c.in-Suffixed.suffixes.items) in
    let whole = ap expression_tree c.in-Suffixed.is ∙ suffixed_tree c.in-Suffixed.primary c.in-Suffixed.suffixes in
    let taken : IsSound c.args.body.now → TakesIndices w names (suffixes_of (map suffix_tree c.deref-2.result.now)) = λ sound.
    subst (TakesIndices w names) (sym (ap (λ ss. suffixes_of (map suffix_tree ss)) c.deref-2.ensures.value))
    (indices_taken w names items (static_shape w names primary) (Takes w names primary) (TakesPlace w names primary)
    (subst (TakesSuffixed w names) whole (c.requires.taken sound))) in
    search (rules, the_lemmas, taken)

pub place::lower_suffixed-lower_first-reached-requires : goal.place::lower_suffixed-lower_first-reached-requires
place::lower_suffixed-lower_first-reached-requires t c =
    let w = world_in c.args.scope.now in
    let names = names_in c.args.scope.now in
    let e = expression_tree c.args.place.now in
    let a = expression_tree c.deref-3.result.now in
    let one = suffix_tree c.in-Some.first.now in
    let rest = map suffix_tree c.in-Some.others.now in
    let items = suffixes_of (map suffix_tree c.in-Suffixed.suffixes.items) in
    let here = ap (λ ss. suffixes_of (map suffix_tree ss)) (sym c.in-Some.ensures.cases.0 ∙ c.deref.ensures.value) in
    let place_is = suffixed_is w names c.args.to.0 (next_of c.args.body.now) e (expression_tree c.in-Suffixed.primary.value) a items (suffixes_of (one ∷ rest))
    (ap expression_tree c.in-Suffixed.is ∙ suffixed_tree c.in-Suffixed.primary c.in-Suffixed.suffixes) (ap expression_tree c.deref-3.ensures) here in
    let taken : IsSound c.lower_indices-behind.new.body
    → TakesSuffixes w names (suffixes_of (one ∷ [])) (static_shape w names a) (Takes w names a) (TakesPlace w names a) = λ sound.
    suffixes_one w names one rest (static_shape w names a) (Takes w names a) (TakesPlace w names a)
    (subst (TakesSuffixed w names) place_is (c.requires.taken (c.lower_indices-behind.ensures.writes sound).sound)) in
    let behind_is : c.lower_indices-behind.result.0 ≡ c.args.to.0 + indices_in (suffixes_of (one ∷ rest)) =
    c.lower_indices-behind.ensures.behind
    ∙ ap (λ x. c.args.to.0 + indices_in x) (ap (λ ss. suffixes_of (map suffix_tree ss)) c.deref-2.ensures.value ∙ sym here) in
    let place_room : room e ≡ 16 + (room a + suffix_room (suffixes_of (one ∷ rest))) = ap room place_is in
    let left : HasRoom c.lower_indices-behind.result.0 (16 + room a) =
    omega (arith, c.requires.room, behind_is, place_room, indices_within (suffixes_of (one ∷ rest))) in
    search (rules, the_lemmas, taken, left)

pub place::lower_suffixed-follow-requires : goal.place::lower_suffixed-follow-requires
place::lower_suffixed-follow-requires t c = record {
  room =
      let one = suffix_tree c.in-Some.first.now in
      let rest = map suffix_tree c.in-Some.others.now in
      let e = expression_tree c.args.place.now in
      let a = expression_tree c.deref-3.result.now in
      let items = suffixes_of (map suffix_tree c.in-Suffixed.suffixes.items) in
      let here = ap (λ ss. suffixes_of (map suffix_tree ss)) (sym c.in-Some.ensures.cases.0 ∙ c.deref.ensures.value) in
      let place_is = suffixed_is (world_in c.args.scope.now) (names_in c.args.scope.now) c.args.to.0 (next_of c.args.body.now) e
      (expression_tree c.in-Suffixed.primary.value) a items (suffixes_of (one ∷ rest))
      (ap expression_tree c.in-Suffixed.is ∙ suffixed_tree c.in-Suffixed.primary c.in-Suffixed.suffixes) (ap expression_tree c.deref-3.ensures) here in
      let behind_is : c.lower_indices-behind.result.0 ≡ c.args.to.0 + indices_in (suffixes_of (one ∷ rest)) =
      c.lower_indices-behind.ensures.behind
      ∙ ap (λ x. c.args.to.0 + indices_in x) (ap (λ ss. suffixes_of (map suffix_tree ss)) c.deref-2.ensures.value ∙ sym here) in
      let place_room : room e ≡ 16 + (room a + suffix_room (suffixes_of (one ∷ rest))) = ap room place_is in
      omega (arith, c.requires.room, behind_is, place_room, indices_within (suffixes_of (one ∷ rest)), c.reached_in-pointer.ensures);
  within = c.lower_first-reached.ensures.within;
}

pub place::lower_suffixed-returns-clause-writes : goal.place::lower_suffixed-returns-clause-writes
place::lower_suffixed-returns-clause-writes t c sound =
    let w = world_in c.args.scope.now in
    let names = names_in c.args.scope.now in
    let d = c.args.to.0 in
    let body = c.args.body.now in
    let e = expression_tree c.args.place.now in
    let a = expression_tree c.deref-3.result.now in
    let one = suffix_tree c.in-Some.first.now in
    let rest = map suffix_tree c.in-Some.others.now in
    let items = suffixes_of (map suffix_tree c.in-Suffixed.suffixes.items) in
    let here = ap (λ ss. suffixes_of (map suffix_tree ss)) (sym c.in-Some.ensures.cases.0 ∙ c.deref.ensures.value) in
    let place_is = suffixed_is w names d (next_of body) e (expression_tree c.in-Suffixed.primary.value) a items (suffixes_of (one ∷ rest))
    (ap expression_tree c.in-Suffixed.is ∙ suffixed_tree c.in-Suffixed.primary c.in-Suffixed.suffixes) (ap expression_tree c.deref-3.ensures) here in
    let all = suffixes_of (map suffix_tree c.deref-2.result.now) in
    let all_is = ap (λ ss. suffixes_of (map suffix_tree ss)) c.deref-2.ensures.value ∙ sym here in
    let three = c.follow.ensures.code sound in
    let two = c.lower_first-reached.ensures.writes three.sound in
    let one_written = c.lower_indices-behind.ensures.writes two.sound in
    suffixed_written w names one rest e a body c.lower_indices-behind.new.body c.lower_first-reached.new.body c.follow.new.body d
    c.lower_indices-behind.result.0 c.reached_in-pointer.result.0 (reached_place c.lower_first-reached.result) all place_is all_is
    c.lower_indices-behind.ensures.behind c.reached_in-pointer.ensures (c.lower_first-reached.ensures.place three.sound) one_written two three

pub place::lower_suffixed-returns-clause-place : goal.place::lower_suffixed-returns-clause-place
place::lower_suffixed-returns-clause-place t c sound =
    let w = world_in c.args.scope.now in
    let names = names_in c.args.scope.now in
    let d = c.args.to.0 in
    let own = next_of c.args.body.now in
    let e = expression_tree c.args.place.now in
    let a = expression_tree c.deref-3.result.now in
    let one = suffix_tree c.in-Some.first.now in
    let rest = map suffix_tree c.in-Some.others.now in
    let items = suffixes_of (map suffix_tree c.in-Suffixed.suffixes.items) in
    let here = ap (λ ss. suffixes_of (map suffix_tree ss)) (sym c.in-Some.ensures.cases.0 ∙ c.deref.ensures.value) in
    let place_is = suffixed_is w names d own e (expression_tree c.in-Suffixed.primary.value) a items (suffixes_of (one ∷ rest))
    (ap expression_tree c.in-Suffixed.is ∙ suffixed_tree c.in-Suffixed.primary c.in-Suffixed.suffixes) (ap expression_tree c.deref-3.ensures) here in
    let first = own + length (suffix_values w names (suffixes_of (one ∷ rest))) in
    let p = reached_place c.follow.result in
    let three = c.follow.ensures.code sound in
    subst (λ x. IsLeftAt (suffixed_left w names x own) p d) (sym place_is)
    (begun_place w names (static_shape w names a) (λ u. expression_code w names a u first) (λ u. place_code w names a u first) own one rest p
    (reached_place c.lower_first-reached.result) d (c.lower_first-reached.ensures.place three.sound) (c.follow.ensures.place sound))

pub place::lower_suffixed-returns-clause-shape : goal.place::lower_suffixed-returns-clause-shape
place::lower_suffixed-returns-clause-shape t c sound =
    let w = world_in c.args.scope.now in
    let names = names_in c.args.scope.now in
    let e = expression_tree c.args.place.now in
    let a = expression_tree c.deref-3.result.now in
    let one = suffix_tree c.in-Some.first.now in
    let rest = map suffix_tree c.in-Some.others.now in
    let all = suffixes_of (one ∷ rest) in
    let items = suffixes_of (map suffix_tree c.in-Suffixed.suffixes.items) in
    let here = ap (λ ss. suffixes_of (map suffix_tree ss)) (sym c.in-Some.ensures.cases.0 ∙ c.deref.ensures.value) in
    let place_is = suffixed_is w names c.args.to.0 (next_of c.args.body.now) e (expression_tree c.in-Suffixed.primary.value) a items all
    (ap expression_tree c.in-Suffixed.is ∙ suffixed_tree c.in-Suffixed.primary c.in-Suffixed.suffixes) (ap expression_tree c.deref-3.ensures) here in
    let s = static_shape w names a in
    let three = c.follow.ensures.code sound in
    let place = c.follow.ensures.place sound
    ∙ ap (further_place w (suffixes_of rest)) (c.lower_first-reached.ensures.place three.sound) ∙ sym (place_one w one rest (place_at_once s)) in
    ap (λ (x : Place). x.shape) place ∙ place_shape w all (place_at_once s) ∙ ap (static_shape w names) (sym place_is)
