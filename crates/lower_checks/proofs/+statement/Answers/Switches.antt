-- A `switch`: its place, its clauses, and what is done by default.
use Rattle.std.proofs.Common.{rules, ◌≡◌, ◌∙◌, ◌+◌, ℕ, arith, sym, ap, subst, [], ◌∷◌, ◌++◌, length, map, drop, List, append-nil}
use Rattle.std.proofs.lemmas.List.{drop_all}
use Rattle.std.specs.Prelude.{IfSome, is_some, true}
use Rattle.cyc_tree.specs.View.{
  clause_tree,
  clauses_of,
  expression_tree,
  name_tree,
  statement_tree as source_tree,
  item_tree,
  items_of,
  pattern_tree,
}
use Rattle.cyc_tree.specs.Tree as tree
use Rattle.cyc_tree.specs.Tree.{BlockItems, Clauses, NoClauses, MoreClauses}
use Rattle.cyc_tree.proofs.StatementForms.{switch_tree}
use Rattle.cyc_tree.specs.declared.statement.BlockItem.TheFolds.{the_lemmas}
use Rattle.core_meaning.specs.Core as core
use Rattle.cyc_core.specs.Trees.{statement_tree}
use Rattle.source_meaning.specs.Shapes.{Part, part_shapes, parts_of}
use Rattle.source_meaning.specs.Programs.{world_of}
use Rattle.source_lowering.specs.Lowered.{Named, all_of, expression_values, place_code, static_shape, tag_load, union_parts}
use Rattle.source_lowering.specs.Programs.{
  RegionsAround,
  block_shapes,
  case_values,
  cases_code,
  default_code,
  default_values,
  in_switch,
  item_values,
  items_code,
  locals_of,
  outward,
}
use Rattle.source_lowering.specs.Lowerable.{AreValues, IsUnionShape, TakesClauses, TakesItems, TakesPlace, TakesStatement}
use Rattle.cyc_tree.specs.Room.{clause_room, item_room, room as room_of, statement_room}
use Rattle.lower_checks.specs.Counted.{IsCounted}
use Rattle.lower_checks.specs.Room.{HasRoom}
use Rattle.lower_checks.specs.Views.{regions_tree, shape_tree}
use Rattle.lower_checks.specs.Visible.{names_of}
use Rattle.lower_checks.specs.Writing.{IsEmitted, IsSound, IsWritten, code_of, next_of, values_of}
use Rattle.lower_checks.proofs.Clauses.{left_clauses, switch_written}
use Rattle.lower_checks.proofs.Writing.{apart_emit, part_apart, part_is}
use Rattle.lower_checks.proofs.+statement.Goals as goal
use Rattle.lower_checks.proofs.+statement.Goals.{switch::lower_switch-in-Some, switch::lower_switch-in-None}

pub statement::lower_statement-lower_switch-requires : goal.statement::lower_statement-lower_switch-requires
statement::lower_statement-lower_switch-requires t c =
    let w = world_of c.args.program.now in
    let result = shape_tree c.args.shape.now in
    let names = names_of c.args.locals.now in
    let around = c.args.around in
    let e = expression_tree c.in-Switch.place in
    let clauses = clauses_of (map clause_tree c.in-Switch.clauses.items) in
    let s = static_shape w names e in
    let is = ap source_tree c.in-Switch.is ∙ switch_tree c.in-Switch.field-0 c.in-Switch.place c.in-Switch.clauses in
    let taken : IsSound c.args.body.now → TakesPlace w names e ×
    (IsUnionShape w.unions s × TakesClauses w result names (union_parts w s) (clauses_of (map clause_tree c.deref-in-Switch.result.now))) = λ sound.
    subst
    (λ cs. TakesPlace w names e × (IsUnionShape w.unions s × TakesClauses w result names (union_parts w s) (clauses_of (map clause_tree cs))))
    (sym c.deref-in-Switch.ensures.value)
    (subst (TakesStatement w result names) is (c.requires.taken sound)) in
    let both : HasRoom around.all (16 + (room_of e + clause_room clauses)) = subst (λ st. HasRoom around.all (statement_room st)) is c.requires.room in
    let room : HasRoom around.all (16 + (room_of e + clause_room (clauses_of (map clause_tree c.deref-in-Switch.result.now)))) =
    subst (λ cs. HasRoom around.all (16 + (room_of e + clause_room (clauses_of (map clause_tree cs))))) (sym c.deref-in-Switch.ensures.value) both in
    let counted : IsCounted around = c.requires.counted in
    search (rules, the_lemmas, room, counted, taken)

-- a `default` behind clauses for members
pub switch::lower_default-each-preserved : goal.switch::lower_default-each-preserved
switch::lower_default-each-preserved t c =
    let w = world_of c.args.program.now in
    let result = shape_tree c.args.shape.now in
    let names = names_of c.args.locals.now in
    let h = regions_tree c.args.around c.args.opened.now in
    let own = next_of c.args.body.now in
    let k = c.each.clause-index in
    let clause = c.clause-item.result in
    let items = items_of (map item_tree clause.body.items) in
    let others = clauses_of (map clause_tree (drop (k + 1) c.args.clauses.now)) in
    let pattern = tree.Case (name_tree c.in-Case.field-0) (name_tree c.in-Case.field-1) in
    let is : clauses_of (map clause_tree (drop k c.args.clauses.now)) ≡ MoreClauses clause.at pattern items others =
    left_clauses c.args.clauses.now k clause c.each-test.true c.clause-item.is
    ∙ ap (λ (p : tree.Pattern). MoreClauses clause.at p items others) (ap pattern_tree c.in-Case.is) in
    let invariant = c.each.invariant in
    record {
      body = invariant.body;
      locals = invariant.locals;
      code = ap (default_code w result names h own) (sym is) ∙ invariant.code;
      values = ap (default_values w names) (sym is) ∙ invariant.values;
      taken = λ sound.
          let some = invariant.taken sound in
          (some.0, (subst (TakesClauses w result names some.0) is some.1).1.1);
      room =
          let both : HasRoom c.args.around.all (16 + (item_room items + clause_room others)) =
          subst (λ (cs : Clauses). HasRoom c.args.around.all (clause_room cs)) is invariant.room in
          omega (arith, both);
    }

pub switch::lower_default-lower_block-requires : goal.switch::lower_default-lower_block-requires
switch::lower_default-lower_block-requires t c =
    let w = world_of c.args.program.now in
    let result = shape_tree c.args.shape.now in
    let names = names_of c.args.locals.now in
    let k = c.each.clause-index in
    let clause = c.clause-item.result in
    let items = items_of (map item_tree clause.body.items) in
    let its = items_of (map item_tree c.deref.result.now) in
    let others = clauses_of (map clause_tree (drop (k + 1) c.args.clauses.now)) in
    let is : clauses_of (map clause_tree (drop k c.args.clauses.now)) ≡ MoreClauses clause.at tree.Default items others =
    left_clauses c.args.clauses.now k clause c.each-test.true c.clause-item.is
    ∙ ap (λ (p : tree.Pattern). MoreClauses clause.at p items others) (ap pattern_tree c.in-Default.is) in
    let items_are : items ≡ its = ap (λ is. items_of (map item_tree is)) (sym c.deref.ensures.value) in
    let taken : IsSound c.each.body → TakesItems w result (outward (names_of c.each.locals)) 0 its = λ sound.
    let some = c.each.invariant.taken sound in
    let inside = (subst (TakesClauses w result names some.0) is some.1).0 in
    subst (λ (q : BlockItems). TakesItems w result (outward (names_of c.each.locals)) 0 q) items_are
    (subst (λ ms. TakesItems w result (outward (names_of ms)) 0 items) (sym c.each.invariant.locals) inside) in
    let both : HasRoom c.args.around.all (16 + (item_room items + clause_room others)) =
    subst (λ (cs : Clauses). HasRoom c.args.around.all (clause_room cs)) is c.each.invariant.room in
    let room : HasRoom c.args.around.all (item_room its) =
    subst (λ (q : BlockItems). HasRoom c.args.around.all (item_room q)) items_are (omega (arith, both)) in
    let counted : IsCounted c.args.around = c.requires.counted in
    search (rules, the_lemmas, room, counted, taken)

pub switch::lower_default-returns-in-Default-clause-writes : goal.switch::lower_default-returns-in-Default-clause-writes
switch::lower_default-returns-in-Default-clause-writes t c sound =
    let w = world_of c.args.program.now in
    let result = shape_tree c.args.shape.now in
    let names = names_of c.args.locals.now in
    let h = regions_tree c.args.around c.args.opened.now in
    let a = c.args.body.now in
    let b = c.each.body in
    let z = c.lower_block.new.body in
    let own = next_of a in
    let k = c.each.clause-index in
    let clause = c.clause-item.result in
    let items = items_of (map item_tree clause.body.items) in
    let others = clauses_of (map clause_tree (drop (k + 1) c.args.clauses.now)) in
    let is : clauses_of (map clause_tree (drop k c.args.clauses.now)) ≡ MoreClauses clause.at tree.Default items others =
    left_clauses c.args.clauses.now k clause c.each-test.true c.clause-item.is
    ∙ ap (λ (p : tree.Pattern). MoreClauses clause.at p items others) (ap pattern_tree c.in-Default.is) in
    let invariant = c.each.invariant in
    let its = items_of (map item_tree c.deref.result.now) in
    let items_are : its ≡ items = ap (λ is. items_of (map item_tree is)) c.deref.ensures.value in
    let code : List Named → BlockItems → ℕ → List core.Statement = λ ns is n.
    core.Block (locals_of w (block_shapes w (outward ns) 0 is)) (all_of (items_code w result (outward ns) h 0 n is)) ∷ [] in
    let done = c.lower_block.ensures.writes sound in
    let at_names =
    subst (λ ms. IsWritten b z (code (names_of ms) its (next_of b)) (item_values w (outward (names_of ms)) 0 its)) invariant.locals done in
    let at_items = subst (λ (is : BlockItems). IsWritten b z (code names is (next_of b)) (item_values w (outward names) 0 is)) items_are at_names in
    let written = subst (λ q. IsWritten q z (code names items (next_of q)) (item_values w (outward names) 0 items)) invariant.body at_items in
    let code_is = ap (default_code w result names h own) (sym is) ∙ invariant.code in
    let values_are = ap (default_values w names) (sym is) ∙ invariant.values in
    subst (λ ss. IsWritten a z ss (default_values w names (clauses_of (map clause_tree c.args.clauses.now)))) code_is
    (subst (λ ss. IsWritten a z (code names items own) ss) values_are written)

pub switch::lower_default-returns-clause-writes : goal.switch::lower_default-returns-clause-writes
switch::lower_default-returns-clause-writes t c sound =
    let w = world_of c.args.program.now in
    let result = shape_tree c.args.shape.now in
    let names = names_of c.args.locals.now in
    let h = regions_tree c.args.around c.args.opened.now in
    let a = c.args.body.now in
    let b = c.each.body in
    let own = next_of a in
    let all = clauses_of (map clause_tree c.args.clauses.now) in
    let none : clauses_of (map clause_tree (drop c.each.clause-index c.args.clauses.now)) ≡ NoClauses =
    ap (λ xs. clauses_of (map clause_tree xs)) (drop_all c.each.clause-index c.args.clauses.now (omega (arith, c.each-test.false))) in
    let invariant = c.each.invariant in
    let code_is : [] ≡ default_code w result names h own all = sym (ap (default_code w result names h own) none) ∙ invariant.code in
    let values_are : [] ≡ default_values w names all = sym (ap (default_values w names) none) ∙ invariant.values in
    record {
      sound = subst IsSound invariant.body sound;
      code = ap code_of invariant.body ∙ sym (append-nil (code_of a)) ∙ ap (λ ss. code_of a ++ ss) code_is;
      values = ap values_of invariant.body ∙ sym (append-nil (values_of a)) ∙ ap (λ ss. values_of a ++ ss) values_are;
    }

-- its place has room for the tag behind it
pub switch::lower_switch-lower_union_place-tag-requires : goal.switch::lower_switch-lower_union_place-tag-requires
switch::lower_switch-lower_union_place-tag-requires t c = record {
  room = omega (arith, c.requires.room, c.value.ensures);
  taken = λ sound.
      let taken = c.requires.taken (sym c.begin_at-outer.ensures.begun.failed ∙ sound) in
      (taken.0, taken.1.0);
}

-- the tag is that of the union that is switched on
pub switch::lower_switch-lower_cases-requires : goal.switch::lower_switch-lower_cases-requires
switch::lower_switch-lower_cases-requires t c =
    let w = world_of c.args.program.now in
    let result = shape_tree c.args.shape.now in
    let names = names_of c.args.locals.now in
    let parts = union_parts w (static_shape w names (expression_tree c.args.place.now)) in
    let clauses = clauses_of (map clause_tree c.args.clauses.now) in
    let found = parts_of w.unions c.in-Some.tag.now in
    let place = c.lower_union_place-tag in
    let taken : IsSound c.lower_union_place-tag.new.body → TakesClauses w result names found clauses = λ sound.
    let parts_are = subst (λ r. IfSome r (λ tag. parts_of w.unions tag.now ≡ parts)) c.in-Some.is (place.ensures.parts sound) in
    let first = sym c.begin_at-outer.ensures.begun.failed ∙ (place.ensures.writes sound).sound in
    subst (λ (ps : List Part). TakesClauses w result names ps clauses) (sym parts_are) (c.requires.taken first).1.1 in
    let values : AreValues (part_shapes found) =
    subst (λ r. IfSome r (λ tag. AreValues (part_shapes (parts_of w.unions tag.now)))) c.in-Some.is place.ensures.values in
    let all_is : c.in_switch-inside.result.all ≡ c.args.around.all = c.in_switch-inside.ensures.all in
    let room : HasRoom c.in_switch-inside.result.all (clause_room clauses) = omega (arith, all_is, c.requires.room) in
    let counted : IsCounted c.in_switch-inside.result = c.in_switch-inside.ensures.counted in
    search (rules, the_lemmas, room, counted, taken, values)

pub switch::lower_switch-returns-clause-writes : goal.switch::lower_switch-returns-clause-writes
switch::lower_switch-returns-clause-writes t c sound =
    let w = world_of c.args.program.now in
    let result = shape_tree c.args.shape.now in
    let names = names_of c.args.locals.now in
    let h = regions_tree c.args.around c.args.opened.now in
    let d = h.all in
    let within = in_switch h in
    let e = expression_tree c.args.place.now in
    let clauses = clauses_of (map clause_tree c.args.clauses.now) in
    let parts = union_parts w (static_shape w names e) in
    let a = c.args.body.now in
    let b = c.begin_at-outer.new.self in
    let x = c.lower_union_place-tag.new.body in
    let y = c.match-tag.body in
    let v = c.lower_default.new.body in
    let f = c.end-all.new.self in
    let z = c.leaves.new.self in
    let cases : ℕ → List core.Statement = λ n. cases_code w result names within parts n clauses in
    let others : ℕ → List core.Statement = λ n. default_code w result names within n clauses in
    let p = expression_values w names e in
    let q = case_values w names parts clauses in
    let r = default_values w names clauses in
    let place = c.lower_union_place-tag in
    let inside_is = c.in_switch-inside.ensures.regions c.args.opened.now in
    let to_is : c.value.result.0 ≡ d = c.value.ensures in
    let ended = c.end-all.ensures.ended in
    let begun = c.begin_at-outer.ensures.begun in
    let four = c.leaves.ensures sound in
    let three = c.lower_default.ensures.writes (sym ended.failed ∙ four.sound) in
    let joined : IsWritten x y (cases (next_of x)) q × (c.match-tag.locals ≡ c.args.locals.now) =
    elim c.match-tag.branch [
      | switch::lower_switch-in-Some v ↦
          let done = v.lower_cases.ensures.writes (subst IsSound v.body-is three.sound) in
          let parts_are = subst (λ s. IfSome s (λ tag. parts_of w.unions tag.now ≡ parts)) v.in-Some.is (place.ensures.parts done.sound) in
          let last = v.lower_cases.new.body in
          let at_parts =
          subst (λ (ps : List Part). IsWritten x last
          (cases_code w result names (regions_tree c.in_switch-inside.result c.args.opened.now) ps (next_of x) clauses)
          (case_values w names ps clauses)) parts_are done in
          let at_regions =
          subst (λ (i : RegionsAround). IsWritten x last (cases_code w result names i parts (next_of x) clauses) q) inside_is at_parts in (
            subst (λ k. IsWritten x k (cases (next_of x)) q) (sym v.body-is) at_regions,
            v.locals-is ∙ v.lower_cases.ensures.kept (subst IsSound v.body-is three.sound),
          )
      | switch::lower_switch-in-None v ↦
          let found = subst (λ s. is_some s ≡ true) v.in-None.is (place.ensures.found (subst IsSound v.body-is three.sound)) in
          absurd cc found
    ] in
    let two = joined.0 in
    let one = subst (λ (n : ℕ). IsWritten b x (place_code w names e n (next_of b) ++ tag_load (n + 1) n) p) to_is (place.ensures.writes two.sound) in
    let at_locals =
    subst (λ ms. IsWritten y v (default_code w result (names_of ms) (regions_tree c.in_switch-inside.result c.args.opened.now) (next_of y) clauses)
    (default_values w (names_of ms) clauses)) joined.1 three in
    let last = subst (λ (i : RegionsAround). IsWritten y v (default_code w result names i (next_of y) clauses) r) inside_is at_locals in
    let whole : ℕ → List core.Statement = λ n.
    place_code w names e d n ++ (tag_load (d + 1) d ++ (cases (n + length p) ++ others (n + length p + length q))) in
    let values = p ++ (q ++ r) in
    let written = switch_written b x y v (place_code w names e d (next_of b)) (tag_load (d + 1) d) cases others p q r one two last in
    let part = map statement_tree c.end-all.result.items in
    let part_are : part ≡ whole (next_of a) = part_is a b v part whole values begun written c.end-all.ensures.part in
    let apart = part_apart a b v f (map statement_tree c.begin_at-outer.result.items) (whole (next_of b)) values begun c.begin_at-outer.ensures.aside
    written ended in
    let leave = subst (λ ss. IsEmitted f z (core.Leave (all_of ss) ∷ [])) part_are four in
    apart_emit a f z (core.Leave (all_of (whole (next_of a))) ∷ []) values apart leave

pub switch::lower_switch-lower_default-requires : goal.switch::lower_switch-lower_default-requires
switch::lower_switch-lower_default-requires t c =
    let w = world_of c.args.program.now in
    let result = shape_tree c.args.shape.now in
    let names = names_of c.args.locals.now in
    let parts = union_parts w (static_shape w names (expression_tree c.args.place.now)) in
    let clauses = clauses_of (map clause_tree c.args.clauses.now) in
    let joined : IsSound c.match-tag.body → (c.match-tag.locals ≡ c.args.locals.now) × IsSound c.lower_union_place-tag.new.body = λ sound.
    elim c.match-tag.branch [
      | switch::lower_switch-in-Some v ↦
          let done = subst IsSound v.body-is sound in
          (v.locals-is ∙ v.lower_cases.ensures.kept done, (v.lower_cases.ensures.writes done).sound)
      | switch::lower_switch-in-None v ↦ (v.locals-is, subst IsSound v.body-is sound)
    ] in
    let taken : IsSound c.match-tag.body → (ps : List Part) × TakesClauses w result (names_of c.match-tag.locals) ps clauses = λ sound.
    let both = joined sound in
    let first = sym c.begin_at-outer.ensures.begun.failed ∙ (c.lower_union_place-tag.ensures.writes both.1).sound in
    (parts, subst (λ ms. TakesClauses w result (names_of ms) parts clauses) (sym both.0) (c.requires.taken first).1.1) in
    let all_is : c.in_switch-inside.result.all ≡ c.args.around.all = c.in_switch-inside.ensures.all in
    let room : HasRoom c.in_switch-inside.result.all (clause_room clauses) = omega (arith, all_is, c.requires.room) in
    let counted : IsCounted c.in_switch-inside.result = c.in_switch-inside.ensures.counted in
    search (rules, the_lemmas, room, counted, taken)
