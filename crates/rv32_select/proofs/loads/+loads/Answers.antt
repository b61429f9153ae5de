use Rattle.std.proofs.Common.{◌≡◌, ◌∙◌, ◌+◌, true, ◌∷◌, arith, rules, sym, ap, drop, map}
use Rattle.std.proofs.lemmas.List.{drop_all, drop_more}
use Rattle.cyc_core.specs.Trees.{local_tree, statement_tree, body_tree}
use Rattle.core_lines.specs.Held.{held_behind_all}
use Rattle.core_lines.specs.Loaded.{loads_of}
use Rattle.core_lines.specs.Saved.{all_flagged}
use Rattle.core_lines.specs.Selected.{Surroundings, homes_after, holding, naming, names_after_all}
use Rattle.rv32_select.specs.Places.{surroundings}
use Rattle.rv32_select.proofs.Sizes.{statement_size, statements_size}
use Rattle.rv32_select.proofs.Stepping.{same_behind, names_behind, held_there, flags_behind, choice_flags, loop_flags}
use Rattle.rv32_select.proofs.loads.+loads.Goals as goal

pub flag_all-each-preserved : goal.flag_all-each-preserved
flag_all-each-preserved t c =
    let xs = c.args.statements.now in
    let i = c.each.statement-index in
    let x = c.statement-item.result in
    let e : drop i xs ≡ x ∷ drop (i + 1) xs = drop_more xs i x c.each-test.true ∙ ap (λ y. y ∷ drop (i + 1) xs) (sym c.statement-item.is) in
    let start = surroundings c.args.place.now in
    let before = surroundings c.each.place in
    let behind = surroundings c.flag_statement.new.place in
    let rest = body_tree (drop (i + 1) xs) in
    let here = body_tree (drop i xs) in
    let is = ap body_tree e in
    let same = c.each.invariant.same in
    let step = c.in_ok-flag_statement.ensures.same in
    let size = ap (λ ss. statements_size (body_tree ss)) e in
    let fewer = c.each.invariant.size in
    record {
      flags = flags_behind start before behind (statement_tree x) rest here same step is c.each.flags _ c.in_ok-flag_statement.ensures.flags
          ∙ c.each.invariant.flags;
      same = same_behind start before behind (statement_tree x) rest here same step is;
      names = names_behind start before behind (statement_tree x) rest here same step is ∙ c.each.invariant.names;
      held = held_there start before behind (statement_tree x) rest here same step is ∙ c.each.invariant.held;
      homes = c.in_ok-flag_statement.ensures.homes ∙ c.each.invariant.homes;
      size = omega (arith, size, fewer);
    }

pub flag_block-returns-clause-same : goal.flag_block-returns-clause-same
flag_block-returns-clause-same t c =
    let u = surroundings c.args.place.now in
    let ls = map local_tree c.args.locals.now in
    let body = body_tree c.args.body.now in
    let within = ap (λ (v : Surroundings). holding (held_behind_all v.homes v.statics v.held body) (naming (names_after_all body v.names) v))
    c.in_ok-low.ensures.place.1 in
    c.leave.ensures.place ls u (names_after_all body (homes_after ls u.names)) _ (c.in_ok-flag_all.ensures.same ∙ within) c.in_ok-low.ensures.place.0

pub flag_if-returns-clause-flags : goal.flag_if-returns-clause-flags
flag_if-returns-clause-flags t c =
    let u = surroundings c.args.place.now in
    let first = surroundings c.flag_all.new.place in
    choice_flags u first (surroundings c.exchange-first.new.self) c.args.test.0 (body_tree c.args.these.now) (body_tree c.args.those.now)
    c.in_ok-flag_all.ensures.same (c.exchange-first.ensures.place ∙ ap (λ hs. holding hs first) c.in_ok-known.ensures) _ _ _ _ c.in_ok-flag_unknown.ensures
    c.in_ok-flag_all.ensures.flags c.in_ok-flag_all-2.ensures.flags

pub flag_while-returns-clause-flags : goal.flag_while-returns-clause-flags
flag_while-returns-clause-flags t c =
    let u = surroundings c.args.place.now in
    let first = surroundings c.flag_all.new.place in
    let empty = holding c.forget.new.self u in
    let second = holding c.forget-2.new.self first in
    loop_flags u empty first second c.args.again.0 (body_tree c.args.test.now) (body_tree c.args.body.now) (ap (λ hs. holding hs u) c.forget.ensures)
    c.in_ok-flag_all.ensures.same (ap (λ hs. holding hs first) c.forget-2.ensures) _ _ _ _ c.in_ok-flag_all.ensures.flags c.in_ok-flag_unknown.ensures
    c.in_ok-flag_all-2.ensures.flags

pub flag_all-flag_statement-requires : goal.flag_all-flag_statement-requires
flag_all-flag_statement-requires t c =
    let xs = c.args.statements.now in
    let i = c.each.statement-index in
    let x = c.statement-item.result in
    let size : statements_size (body_tree (drop i xs)) ≡ statement_size (statement_tree x) + statements_size (body_tree (drop (i + 1) xs)) + 1 =
    ap (λ ss. statements_size (body_tree ss)) (drop_more xs i x c.each-test.true ∙ ap (λ y. y ∷ drop (i + 1) xs) (sym c.statement-item.is)) in
    search rules

pub flag_all-returns : goal.flag_all-returns
flag_all-returns t c =
    let none = drop_all c.each.statement-index c.args.statements.now c.each-test.false in
    let start = surroundings c.args.place.now in
    let place = surroundings c.each.place in
    let before = c.each.invariant in
    let held = ap (λ xs. held_behind_all start.homes start.statics place.held (body_tree xs)) (sym none) ∙ before.held in
    let names = ap (λ xs. names_after_all (body_tree xs) place.names) (sym none) ∙ before.names in
    record {
      flags =
          ap (λ xs. all_flagged true (loads_of start.homes start.statics place.names place.held (body_tree xs)) c.each.flags) (sym none)
          ∙ before.flags;
      same = before.same ∙ (λ i. holding (held i) (naming (names i) start));
      homes = before.homes;
    }
