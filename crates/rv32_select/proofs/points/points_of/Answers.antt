use Rattle.std.proofs.Common.{◌≡◌, ◌+◌, [], ◌∷◌, ◌++◌, ap, arith, drop, length, map, sym, ◌∙◌}
use Rattle.std.proofs.lemmas.List.{drop_all, drop_more, length_push, map-append}
use Rattle.cyc_core.specs.Trees.{statement_tree, body_tree}
use Rattle.rv32_select.specs.Places.{surroundings}
use Rattle.rv32_select.specs.Starts.{point_start}
use Rattle.rv32_select.proofs.Stepping.{same_behind, starts_behind, starts_end}
use Rattle.rv32_select.proofs.points.points_of.Goals as goal

pub each-preserved : goal.each-preserved
each-preserved c =
    let xs = c.args.statements.now in
    let homes = c.args.place.now.homes.items in
    let i = c.each.statement-index in
    let x = c.statement-item.result in
    let e : drop i xs ≡ x ∷ drop (i + 1) xs = drop_more xs i x c.each-test.true ∙ ap (λ y. y ∷ drop (i + 1) xs) (sym c.statement-item.is) in
    let start = surroundings c.args.place.now in
    let before = surroundings c.each.place in
    let behind = surroundings c.flag_statement.new.place in
    let rest = body_tree (drop (i + 1) xs) in
    let here = body_tree (drop i xs) in
    let is = ap body_tree e in
    let same = c.each.invariant.same in
    let step = c.in_ok-flag_statement.ensures.same in
    let point = c.in_ok-point.point in
    let begins = ap (λ hs. point_start hs point) (sym c.each.invariant.homes) ∙ c.in_ok-point.ensures in
    let more = ap (map (point_start homes)) c.in_ok-push.ensures.items ∙ map-append (point_start homes) c.each.points.items (point ∷ [])
    ∙ ap (λ s. map (point_start homes) c.each.points.items ++ s ∷ []) begins in
    record {
      points = starts_behind start before behind (statement_tree x) rest here same step is (map (point_start homes) c.each.points.items) _ more
          ∙ c.each.invariant.points;
      same = same_behind start before behind (statement_tree x) rest here same step is;
      homes = c.in_ok-flag_statement.ensures.homes ∙ c.each.invariant.homes;
      many = ap length c.in_ok-push.ensures.items ∙ length_push c.each.points.items point ∙ ap (λ n. n + 1) c.each.invariant.many;
    }

-- where the last one begins
pub returns-then-len-statements : goal.returns-then-len-statements
returns-then-len-statements c =
    let xs = c.args.statements.now in
    let homes = c.args.place.now.homes.items in
    let i = c.each.statement-index in
    let x = c.statement-item.result in
    let old = c.each.points.items in
    let point = c.in_ok-point.point in
    let pushed = ap length c.in_ok-push.ensures.items ∙ length_push old point in
    let many = c.each.invariant.many in
    let all = c.if-len-statements.true in
    let none : drop (i + 1) xs ≡ [] = drop_all (i + 1) xs (omega (arith, pushed, many, all)) in
    let e : drop i xs ≡ x ∷ [] = drop_more xs i x c.each-test.true ∙ (λ k. sym c.statement-item.is k ∷ none k) in
    let start = surroundings c.args.place.now in
    let begins = ap (λ hs. point_start hs point) (sym c.each.invariant.homes) ∙ c.in_ok-point.ensures in
    let more = ap (map (point_start homes)) c.in_ok-push.ensures.items ∙ map-append (point_start homes) old (point ∷ [])
    ∙ ap (λ s. map (point_start homes) old ++ s ∷ []) begins in
    record {
      points = starts_end start.homes start.statics (surroundings c.each.place) (statement_tree x) (body_tree (drop i xs)) (map (point_start homes) old) _
          (ap body_tree e) more ∙ c.each.invariant.points;
      same = c.each.invariant.same;
      homes = c.each.invariant.homes;
    }
