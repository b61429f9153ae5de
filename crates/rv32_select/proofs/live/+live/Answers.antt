use Rattle.std.proofs.Common.{◌≡◌, ◌∙◌, ◌+◌, ◌<◌, ◌++◌, [], ◌∷◌, ap, arith}
use Rattle.std.proofs.Common.{get_or, length, map, reverse, take, sym, refl}
use Rattle.std.proofs.lemmas.Bool.{eqb-true}
use Rattle.std.proofs.lemmas.List.{length-map, map-append, length_push, take_all, take_more}
use Rattle.cyc_core.specs.Trees.{local_tree, body_tree}
use Rattle.core_lines.specs.Held.{held_behind_all}
use Rattle.core_lines.specs.Saved.{either_flagged, live_of, saves_of}
use Rattle.core_lines.specs.Selected.{Surroundings, holding, names_after_all, naming}
use Rattle.rv32_select.specs.Places.{surroundings}
use Rattle.rv32_select.specs.Starts.{Start, point_start, starting, starts_of}
use Rattle.rv32_select.proofs.Sizes.{statements_size}
use Rattle.rv32_select.proofs.Backwards.{ends_alike, size_last, last_start, starts_last, starts_many, as_same, same_back, same_there, live_back, saves_back}
use Rattle.rv32_select.proofs.Halves.{halves_less, halves_live, halves_saves}
use Rattle.rv32_select.proofs.Raised.{check_saves}
use Rattle.rv32_select.proofs.Choices.{first_saves, both_saves, both_live, check_live, no_second_live, no_second_saves}
use Rattle.rv32_select.proofs.live.+live.Goals as goal

pub live_few-each-init : goal.live_few-each-init
live_few-each-init n c =
    let u = surroundings c.args.place.now in
    let xs = c.args.statements.now in
    let points = c.in_ok-points.points.items in
    let found = c.in_ok-points.ensures.points in
    let many : length points ≡ length xs = sym (length-map points (point_start c.args.place.now.homes.items)) ∙ ap length found
    ∙ starts_many u.homes u.statics u.names u.held xs in
    let all : take (length points) xs ≡ xs = ap (λ k. take k xs) many ∙ take_all (length xs) xs (omega arith) in
    let size = ap (λ ss. statements_size (body_tree ss)) all in
    record {
      points = found ∙ ap (λ ss. starts_of u.homes u.statics u.names u.held (body_tree ss)) (sym all);
      live = ap (λ ss. live_of u.homes u.statics u.names u.held c.args.live.now c.args.exits.out.now c.args.exits.again.now (body_tree ss)) all;
      saves = ap (λ ss. c.args.saves.now.items ++ reverse (saves_of u.homes u.statics u.names u.held c.args.live.now c.args.exits.out.now
          c.args.exits.again.now
          (body_tree ss))) all;
      same = c.in_ok-points.ensures.same;
      homes = c.in_ok-points.ensures.homes;
      few = omega (arith, many);
      size = omega (arith, size);
    }

pub live_block-returns-clause-same : goal.live_block-returns-clause-same
live_block-returns-clause-same n c =
    let u = surroundings c.args.place.now in
    let ls = map local_tree c.args.locals.now in
    let inside = surroundings c.live_statements.new.place in
    let within = ap (λ (v : Surroundings). holding inside.held (naming inside.names v)) c.in_ok-low.ensures.place.1 in
    as_same u (surroundings c.leave.new.self) [] inside.names
    (c.leave.ensures.place ls u inside.names inside.held (c.in_ok-live_statements.ensures.same ∙ within) c.in_ok-low.ensures.place.0)

pub live_few-live_statement-requires : goal.live_few-live_statement-requires
live_few-live_statement-requires n c =
    let xs = c.args.statements.now in
    let left = c.pop.new.self.items in
    let k = length left in
    let x = c.index-statements-len.result in
    let many : length c.each.points.items ≡ k + 1 = ap length c.in-Some.ensures.items ∙ length_push left c.in-Some.point in
    let few = c.each.invariant.few in
    let within : k < length xs = omega (arith, many, few) in
    let at : c.len.result ≡ k = omega (arith, c.len.ensures) in
    let item = c.index-statements-len.is ∙ ap (λ j. get_or xs j x) at in
    let is = ap (λ j. take j xs) many ∙ take_more xs k x within ∙ ap (λ y. take k xs ++ y ∷ []) (sym item) in
    let size = ap (λ ys. statements_size (body_tree ys)) is ∙ size_last (take k xs) x in
    let fewer = c.each.invariant.size in
    omega (arith, size, fewer, c.decreases)

pub live_few-each-preserved : goal.live_few-each-preserved
live_few-each-preserved n c =
    let u = surroundings c.args.place.now in
    let homes = c.args.place.now.homes.items in
    let xs = c.args.statements.now in
    let out = c.args.exits.out.now in
    let again = c.args.exits.again.now in
    let left = c.pop.new.self.items in
    let point = c.in-Some.point in
    let k = length left in
    let now = take (length c.each.points.items) xs in
    let ss = take k xs in
    let x = c.index-statements-len.result in
    let popped = c.in-Some.ensures.items in
    let many : length c.each.points.items ≡ k + 1 = ap length popped ∙ length_push left point in
    let few = c.each.invariant.few in
    let within : k < length xs = omega (arith, many, few) in
    let at : c.len.result ≡ k = omega (arith, c.len.ensures) in
    let item = c.index-statements-len.is ∙ ap (λ j. get_or xs j x) at in
    let is : now ≡ ss ++ x ∷ [] = ap (λ j. take j xs) many ∙ take_more xs k x within ∙ ap (λ y. ss ++ y ∷ []) (sym item) in
    let last = last_start u.homes u.statics u.names u.held ss in
    let alike = ends_alike (map (point_start homes) left) (starts_of u.homes u.statics u.names u.held (body_tree ss)) (point_start homes point) last
    (sym (map-append (point_start homes) left (point ∷ [])) ∙ ap (map (point_start homes)) (sym popped) ∙ c.each.invariant.points
    ∙ ap (λ ys. starts_of u.homes u.statics u.names u.held (body_tree ys)) is ∙ starts_last u.homes u.statics u.names u.held ss x) in
    let start = point_start c.each.place.homes.items point in
    let there = surroundings c.go_to.new.self in
    let same = c.each.invariant.same in
    let go = c.go_to.ensures.place in
    let begins = ap (λ hs. point_start hs point) c.each.invariant.homes ∙ alike.1 in
    let done = c.in_ok-live_statement.ensures in
    let size = ap (λ ys. statements_size (body_tree ys)) is ∙ size_last ss x in
    let fewer = c.each.invariant.size in
    record {
      points = alike.0;
      live = live_back u (surroundings c.each.place) there out again ss now x start same go is _ _ begins done.live ∙ c.each.invariant.live;
      saves = saves_back u (surroundings c.each.place) there out again ss now x start same go is _ _ _ _ begins done.live done.saves
          ∙ c.each.invariant.saves;
      same = same_back u (surroundings c.each.place) there out again ss now x start same go is (surroundings c.live_statement.new.place) done.same;
      homes = done.homes ∙ c.go_to.ensures.homes ∙ c.each.invariant.homes;
      few = omega (arith, many, few);
      size = omega (arith, size, fewer);
    }

pub live_both-returns : goal.live_both-returns
live_both-returns t c =
    let a = c.args in
    let u = surroundings a.place.now in
    let these = body_tree a.these.now in
    let those = body_tree a.those.now in
    let kept = a.live.now in
    let behind = c.in_ok-second.ensures in
    let other = c.in_ok-other.ensures in
    let done = c.in_ok-live_statements.ensures in
    let second = surroundings c.go_to.new.self in
    let before = surroundings c.live_before.new.place in
    let first = surroundings c.go_to-2.new.self in
    let last = surroundings c.live_statements.new.place in
    let start : Start = record { names = names_after_all these u.names; held = u.held } in
    let second_start = point_start c.point_behind.new.place.homes.items c.in_ok-second.second in
    let first_start = point_start c.live_before.new.place.homes.items c.in_ok-first.first in
    let at_second = same_there u (surroundings c.point_behind.new.place) second second_start.held second_start.names behind.same c.go_to.ensures.place
    ∙ ap (λ (s : Start). starting s u) (ap (λ hs. point_start hs c.in_ok-second.second) behind.homes ∙ behind.point) in
    let before_is = other.same ∙ ap (λ (v : Surroundings). holding before.held (naming before.names v)) at_second in
    let homes = other.homes ∙ c.go_to.ensures.homes ∙ behind.homes in
    let at_first = same_there u before first first_start.held first_start.names before_is c.go_to-2.ensures.place
    ∙ ap (λ (s : Start). starting s u) (ap (λ hs. point_start hs c.in_ok-first.first) homes ∙ c.in_ok-first.ensures) in
    record {
      saves =
          both_saves u first second these those kept a.exits.out.now a.exits.again.now at_first at_second a.saves.now.items c.live_before.new.saves.items
          c.live_statements.new.saves.items other.saves done.saves;
      live =
          both_live u first second these those kept a.exits.out.now a.exits.again.now at_first at_second c.live_statements.new.live c.in_ok-other.other
          c.in_ok-live.field-0 other.live done.live c.in_ok-live.ensures;
      same = done.same ∙ ap (λ (v : Surroundings). holding last.held (naming last.names v)) at_first;
      homes = done.homes ∙ c.go_to-2.ensures.homes ∙ homes;
    }

pub live_raising-returns : goal.live_raising-returns
live_raising-returns t c =
    let a = c.args in
    let u = surroundings a.place.now in
    let these = body_tree a.these.now in
    let those = body_tree a.those.now in
    let kept = a.live.now in
    let behind = c.in_ok-second.ensures in
    let done = c.in_ok-live_statements.ensures in
    let loads = c.in_ok-flag_all.ensures in
    let first = surroundings c.go_to.new.self in
    let before = surroundings c.live_statements.new.place in
    let second = surroundings c.go_to-2.new.self in
    let start : Start = record { names = names_after_all these u.names; held = u.held } in
    let first_start = point_start c.point_behind.new.place.homes.items c.in_ok-first.first in
    let second_start = point_start c.live_statements.new.place.homes.items c.in_ok-second.second in
    let at_first = same_there u (surroundings c.point_behind.new.place) first first_start.held first_start.names behind.same c.go_to.ensures.place
    ∙ ap (λ (s : Start). starting s u) (ap (λ hs. point_start hs c.in_ok-first.first) behind.homes ∙ c.in_ok-first.ensures) in
    let before_is = done.same ∙ ap (λ (v : Surroundings). holding before.held (naming before.names v)) at_first in
    let homes = done.homes ∙ c.go_to.ensures.homes ∙ behind.homes in
    let at_second = same_there u before second second_start.held second_start.names before_is c.go_to-2.ensures.place
    ∙ ap (λ (s : Start). starting s u) (ap (λ hs. point_start hs c.in_ok-second.second) homes ∙ behind.point) in
    let last = loads.same
    ∙ ap (λ (v : Surroundings). holding (held_behind_all v.homes v.statics v.held those) (naming (names_after_all those v.names) v)) at_second in
    record {
      saves =
          first_saves u first second these those kept a.exits.out.now a.exits.again.now at_first at_second a.saves.now.items c.live_statements.new.saves.items
          done.saves;
      live = check_live u first second these those kept a.exits.out.now a.exits.again.now at_first at_second
          c.live_statements.new.live c.flag_all.new.flags
          done.live loads.flags;
      same = as_same u (surroundings c.flag_all.new.place) _ _ last;
      homes = loads.homes ∙ c.go_to-2.ensures.homes ∙ homes;
    }

-- a second way that only raises an exception has no results
pub live_ways-returns-in_ok-live_raising-clause-saves : goal.live_ways-returns-in_ok-live_raising-clause-saves
live_ways-returns-in_ok-live_raising-clause-saves t c =
    let a = c.args in
    let u = surroundings a.place.now in
    let these = body_tree a.these.now in
    let only = sym c.raises_only.ensures ∙ c.if-raises_only.true in
    c.in_ok-live_raising.ensures.saves
    ∙ ap (λ bs. a.saves.now.items ++ reverse bs) (check_saves u.homes u.statics u.held a.live.now a.exits.out.now a.exits.again.now u.names
    (names_after_all these u.names) these (body_tree a.those.now) only)

-- without a second way, what is loaded behind the choice is loaded where its test is false
pub live_ways-returns-in_ok-live : goal.live_ways-returns-in_ok-live
live_ways-returns-in_ok-live t c =
    let a = c.args in
    let u = surroundings a.place.now in
    let these = body_tree a.these.now in
    let none = eqb-true (length a.those.now) 0 (sym c.is_empty.ensures ∙ c.if-is_empty.true) in
    let first = c.in_ok-first.ensures in
    record {
      saves = first.saves
          ∙ ap (λ bs. a.saves.now.items ++ reverse bs) (no_second_saves u these a.those.now a.live.now a.exits.out.now a.exits.again.now none);
      live = c.in_ok-live.ensures ∙ ap (λ bs. either_flagged bs a.live.now) first.live
          ∙ no_second_live u these a.those.now a.live.now a.exits.out.now a.exits.again.now none;
      same = first.same;
      homes = first.homes;
    }

pub live_halves-live_statements-requires : goal.live_halves-live_statements-requires
live_halves-live_statements-requires n c =
    let parts = c.split_at.ensures in
    let less = halves_less c.split_at.result.0.now c.split_at.result.1.now c.args.statements.now _ parts.by_index.0 parts.front_len parts.back_len c.requires
    refl in
    omega (arith, less.1, c.decreases)

pub live_halves-live_statements-requires-2 : goal.live_halves-live_statements-requires-2
live_halves-live_statements-requires-2 n c =
    let parts = c.split_at.ensures in
    let less = halves_less c.split_at.result.0.now c.split_at.result.1.now c.args.statements.now _ parts.by_index.0 parts.front_len parts.back_len c.requires
    refl in
    omega (arith, less.0, c.decreases)

pub live_halves-returns : goal.live_halves-returns
live_halves-returns t c =
    let a = c.args in
    let u = surroundings a.place.now in
    let parts = c.split_at.result in
    let xs = parts.0.now in
    let ys = parts.1.now in
    let middle = c.in_ok-pass.ensures in
    let later = c.in_ok-live_statements.ensures in
    let done = c.in_ok-live_statements-2.ensures in
    let second = surroundings c.pass.new.place in
    let between = surroundings c.live_statements.new.place in
    let first = surroundings c.go_to.new.self in
    let last = surroundings c.live_statements-2.new.place in
    let start = point_start c.live_statements.new.place.homes.items c.in_ok-start.start in
    let homes = later.homes ∙ middle.homes in
    let between_at = later.same ∙ ap (λ (v : Surroundings). holding between.held (naming between.names v)) middle.same in
    let at_first = same_there u between first start.held start.names between_at c.go_to.ensures.place
    ∙ ap (λ (s : Start). starting s u) (ap (λ hs. point_start hs c.in_ok-start.start) homes ∙ c.in_ok-start.ensures) in
    let is = c.split_at.ensures.by_index.0 in
    record {
      saves =
          halves_saves u first second a.exits.out.now a.exits.again.now xs ys a.statements.now at_first middle.same is a.live.now
          c.live_statements.new.live
          a.saves.now.items c.live_statements.new.saves.items c.live_statements-2.new.saves.items later.live later.saves done.saves;
      live =
          halves_live u first second a.exits.out.now a.exits.again.now xs ys a.statements.now at_first middle.same is a.live.now
          c.live_statements.new.live
          c.live_statements-2.new.live later.live done.live;
      same = done.same ∙ ap (λ (v : Surroundings). holding last.held (naming last.names v)) at_first;
      homes = done.homes ∙ c.go_to.ensures.homes ∙ homes;
    }
