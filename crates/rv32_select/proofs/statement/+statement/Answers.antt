use Rattle.std.proofs.Common.{◌≡◌, ◌∙◌, ◌+◌, ◌++◌, ℕ, Bool, true, false, List, [], ◌∷◌, arith, rules, sym, ap, drop, map, reverse}
use Rattle.std.specs.Prelude.{take, nat_eq, not, ◌&&◌, if◌then◌else◌}
use Rattle.std.proofs.lemmas.List.{append-nil, drop-drop, drop_all, drop_more}
use Rattle.cyc_core.specs.Trees.{body_tree, local_tree, statement_tree}
use Rattle.core_lines.specs.declared.line.Line.{Line}
use Rattle.core_lines.specs.Held.{held_behind_all}
use Rattle.core_lines.specs.Choosing.{between_code}
use Rattle.core_lines.specs.Completing.{can_complete}
use Rattle.core_lines.specs.Saved.{results_all}
use Rattle.core_lines.specs.Selected.{Surroundings, statement_code, labels_of, homes_after, holding, naming}
use Rattle.core_lines.specs.Selected.{names_after_all, home_behind}
use Rattle.core_lines.specs.Homes.{flag_at}
use Rattle.rv32_select.specs.Places.{surroundings, saves_left}
use Rattle.rv32_select.proofs.Coding.{choice_lines, leave_lines, loop_lines}
use Rattle.rv32_select.proofs.Sizes.{statement_size, statements_size}
use Rattle.rv32_select.proofs.Stepping.{same_behind, names_behind, held_there, flags_left, code_left, code_behind, straight_first}
use Rattle.rv32_select.proofs.statement.+statement.Goals as goal
use Rattle.rv32_select.proofs.statement.+statement.Goals.{put_statements-then-reached, put_statements-else-reached}
use Rattle.rv32_select.proofs.statement.+statement.Goals.{put_statements-then-reached-2, put_statements-else-reached-2}

none_more : (n : ℕ) → n ≡ n + 0
none_more n = omega arith

pub put_block-returns-clause-same : goal.put_block-returns-clause-same
put_block-returns-clause-same n c =
    let u = surroundings c.args.place.now in
    let ls = map local_tree c.args.locals.now in
    let body = body_tree c.args.body.now in
    let within = ap (λ (v : Surroundings). holding (held_behind_all v.homes v.statics v.held body) (naming (names_after_all body v.names) v))
    c.in_ok-low.ensures.place.1 in
    c.leave.ensures.place ls u (names_after_all body (homes_after ls u.names)) _ (c.in_ok-free.ensures.same ∙ within) c.in_ok-low.ensures.place.0

pub put_statements-each-preserved : goal.put_statements-each-preserved
put_statements-each-preserved n c =
    let xs = c.args.statements.now in
    let i = c.each.statement-index in
    let x = c.statement-item.result in
    let e : drop i xs ≡ x ∷ drop (i + 1) xs = drop_more xs i x c.each-test.true ∙ ap (λ y. y ∷ drop (i + 1) xs) (sym c.statement-item.is) in
    let start = surroundings c.args.place.now in
    let before = surroundings c.each.place in
    let behind = surroundings c.put_first.new.place in
    let rest = body_tree (drop (i + 1) xs) in
    let left : c.behind_first-behind.result.now ≡ drop (i + 1) xs =
    c.behind_first-behind.ensures ∙ ap (drop 1) c.each.invariant.behind ∙ drop-drop 1 i xs in
    let home = c.home_behind-home.result in
    let home_is : home ≡ (if c.each.placed then 0 else home_behind before.homes before.held (statement_tree x) rest) =
    c.home_behind-home.ensures
    ∙ ap (λ ss. if c.each.placed then 0 else home_behind before.homes before.held (statement_tree x) (body_tree ss)) left in
    let here = body_tree (drop i xs) in
    let is = ap body_tree e in
    let same = c.each.invariant.same in
    let put = c.in_ok-free.ensures in
    let size = ap (λ ss. statements_size (body_tree ss)) e in
    let fewer = c.each.invariant.size in
    let labels = ap (λ ss. labels_of (body_tree ss)) e in
    let more = c.each.invariant.free in
    let appended = c.put_first.new.lines.items in
    let keeps : c.if-reached.keep_reached ≡ (c.each.reached && not c.each.placed) =
    elim c.if-reached.branch [
      | put_statements-then-reached w ↦ w.keep_reached-is ∙ ap (λ b. b && not c.each.placed) (sym w.if-reached.true)
      | put_statements-else-reached w ↦ w.keep_reached-is ∙ w.if-reached.false ∙ ap (λ b. b && not c.each.placed) (sym w.if-reached.false)
    ] in
    let start_length = c.len-kept.ensures ∙ c.each.lines.ok.0 in
    let kept = c.keep_reached.ensures ∙ (λ i. if keeps i then appended else take (start_length i) appended) in
    let completes = can_complete (statement_tree x) in
    let goes_on : c.if-reached-2.reached ≡ (c.each.reached && completes) =
    elim c.if-reached-2.branch [
      | put_statements-then-reached-2 w ↦ w.reached-is ∙ w.can_complete-reached.ensures ∙ ap (λ b. b && completes) (sym w.if-reached-2.true)
      | put_statements-else-reached-2 w ↦ w.reached-is ∙ w.if-reached-2.false ∙ ap (λ b. b && completes) (sym w.if-reached-2.false)
    ] in
    let others = λ (home : ℕ). code_left (not (nat_eq home 0)) (saves_left c.put_first.new.place) behind c.in_ok-free.free c.args.ways.out
    c.args.ways.again rest in
    record {
      code = (λ i. c.keep_reached.new.lines.items ++ (if goes_on i then others (c.number-placed.ensures.value i) else []))
          ∙ code_behind start before behind (statement_tree x) rest here same put.same is c.each.reached c.each.placed home c.each.lines.items _ _
          (saves_left c.each.place) _ c.each.free _ c.args.ways.out c.args.ways.again home_is put.code kept put.saves put.free ∙ c.each.invariant.code;
      free = omega (arith, put.free, labels, more);
      same = same_behind start before behind (statement_tree x) rest here same put.same is;
      names = names_behind start before behind (statement_tree x) rest here same put.same is ∙ c.each.invariant.names;
      held = held_there start before behind (statement_tree x) rest here same put.same is ∙ c.each.invariant.held;
      saves = flags_left start before behind (statement_tree x) rest here same put.same is (saves_left c.each.place) _ put.saves ∙ c.each.invariant.saves;
      behind = left;
      size = omega (arith, size, fewer);
    }

pub put_first-returns-clause-code : goal.put_first-returns-clause-code
put_first-returns-clause-code t c =
    let a = c.args in
    let u = surroundings a.place.now in
    let kept = saves_left a.place.now in
    let s = statement_tree a.statement.now in
    let put = c.put_statement.new.lines.items in
    straight_first a.home (flag_at kept 0) u s a.lines.now.items c.put_straight.new.lines.items put c.keep_reached.new.lines.items
    (statement_code kept u a.next a.ways.out a.ways.again s) c.in_ok-put_straight.ensures c.in_ok-free.ensures.code
    (c.keep_reached.ensures ∙ (λ i. if nat_eq (c.number.ensures.value i) 0 then put else take ((c.len-kept.ensures ∙ c.put_straight.new.lines.ok.0) i) put))

nothing_left : (reached placed : Bool) (lines : List Line) → lines ++ (if reached then (if placed then [] else []) else []) ≡ lines
nothing_left true true lines = append-nil lines
nothing_left true false lines = append-nil lines
nothing_left false placed lines = append-nil lines

pub put_statements-put_first-requires : goal.put_statements-put_first-requires
put_statements-put_first-requires t c =
    let xs = c.args.statements.now in
    let i = c.each.statement-index in
    let x = c.statement-item.result in
    let size : statements_size (body_tree (drop i xs)) ≡ statement_size (statement_tree x) + statements_size (body_tree (drop (i + 1) xs)) + 1 =
    ap (λ ss. statements_size (body_tree ss)) (drop_more xs i x c.each-test.true ∙ ap (λ y. y ∷ drop (i + 1) xs) (sym c.statement-item.is)) in
    search rules

pub put_statements-returns : goal.put_statements-returns
put_statements-returns t c =
    let none = drop_all c.each.statement-index c.args.statements.now c.each-test.false in
    let start = surroundings c.args.place.now in
    let place = surroundings c.each.place in
    let lines = c.each.lines.items in
    let left = saves_left c.each.place in
    let ways = c.args.ways in
    let before = c.each.invariant in
    let held = ap (λ xs. held_behind_all start.homes start.statics place.held (body_tree xs)) (sym none) ∙ before.held in
    let names = ap (λ xs. names_after_all (body_tree xs) place.names) (sym none) ∙ before.names in
    record {
      code =
          sym (nothing_left c.each.reached c.each.placed lines) ∙ ap (λ xs. lines ++ (if c.each.reached then
          code_left c.each.placed left place c.each.free ways.out ways.again (body_tree xs) else [])) (sym none) ∙ before.code;
      free = none_more c.each.free ∙ ap (λ xs. c.each.free + labels_of (body_tree xs)) (sym none) ∙ before.free;
      same = before.same ∙ (λ i. holding (held i) (naming (names i) start));
      saves = ap (λ xs. drop (results_all (body_tree xs)) left) (sym none) ∙ before.saves;
    }

-- ---- a choice, a loop, and what is left

pub put_ways-returns-clause-code : goal.put_ways-returns-clause-code
put_ways-returns-clause-code t c =
    let a = c.args in
    let first = surroundings c.put_statements.new.place in
    let between = c.in_ok-put_between.ensures
    ∙ ap (λ b. c.put_statements.new.lines.items ++ between_code b (body_tree a.those.now) c.in_ok-behind.behind a.next) c.can_complete_all.ensures in
    choice_lines (surroundings a.place.now) first (surroundings c.exchange-first.new.self) a.test.0 (body_tree a.these.now) (body_tree a.those.now)
    c.in_ok-behind.ensures.same (c.exchange-first.ensures.place ∙ ap (λ hs. holding hs first) c.in_ok-known.ensures) a.lines.now.items
    c.put_choice.new.lines.items c.put_statements.new.lines.items c.put_between.new.lines.items c.put_statements-2.new.lines.items
    c.put_behind.new.lines.items (saves_left a.place.now) (saves_left c.exchange-first.new.self) a.next c.in_ok-inside.inside c.in_ok-behind.behind
    c.in_ok-other.other a.ways.out a.ways.again c.in_ok-inside.ensures.code c.in_ok-inside.ensures.next c.in_ok-behind.ensures.code
    c.in_ok-behind.ensures.free between c.in_ok-other.ensures
    (ap reverse c.exchange-first.ensures.saves ∙ c.in_ok-behind.ensures.saves) c.in_ok-free.ensures.code c.in_ok-put_behind.ensures c.requires

pub put_ways-returns-clause-saves : goal.put_ways-returns-clause-saves
put_ways-returns-clause-saves t c =
    let one = results_all (body_tree c.args.these.now) in
    let other = results_all (body_tree c.args.those.now) in
    ap reverse c.join.ensures.saves ∙ c.in_ok-free.ensures.saves
    ∙ ap (drop other) (ap reverse c.exchange-first.ensures.saves ∙ c.in_ok-behind.ensures.saves) ∙ drop-drop other one (saves_left c.args.place.now)

pub put_while-returns-clause-code : goal.put_while-returns-clause-code
put_while-returns-clause-code t c =
    let a = c.args in
    let u = surroundings a.place.now in
    let first = surroundings c.put_statements.new.place in
    loop_lines u (holding c.forget.new.self u) first (holding c.forget-2.new.self first) a.flag.0 (body_tree a.test.now) (body_tree a.body.now)
    (ap (λ hs. holding hs u) c.forget.ensures) c.in_ok-behind.ensures.same (ap (λ hs. holding hs first) c.forget-2.ensures) a.lines.now.items
    c.put_label.new.lines.items c.put_statements.new.lines.items c.put_choice.new.lines.items c.put_statements-2.new.lines.items
    c.put_lines.new.lines.items (saves_left a.place.now) (saves_left c.put_statements.new.place) a.next c.in_ok-first.first c.in_ok-behind.behind
    c.in_ok-within.within a.ways.out a.ways.again c.in_ok-first.ensures.code c.in_ok-first.ensures.next c.in_ok-behind.ensures.code
    c.in_ok-behind.ensures.free c.in_ok-within.ensures.code c.in_ok-within.ensures.next c.in_ok-behind.ensures.saves c.in_ok-free.ensures.code
    c.in_ok-put_lines.ensures

pub put_while-returns-clause-saves : goal.put_while-returns-clause-saves
put_while-returns-clause-saves t c =
    let one = results_all (body_tree c.args.test.now) in
    let other = results_all (body_tree c.args.body.now) in
    c.in_ok-free.ensures.saves ∙ ap (drop other) c.in_ok-behind.ensures.saves ∙ drop-drop other one (saves_left c.args.place.now)

pub put_leavable-returns-clause-code : goal.put_leavable-returns-clause-code
put_leavable-returns-clause-code t c =
    let a = c.args in
    leave_lines (surroundings a.place.now) (body_tree a.body.now) a.lines.now.items c.put_statements.new.lines.items c.put_lines.new.lines.items
    (saves_left a.place.now) a.next _ a.ways.out a.ways.again c.in_ok-following.ensures c.in_ok-free.ensures.code c.in_ok-put_lines.ensures
