-- The clauses of a `switch` that name a member, one after another.
use Rattle.std.proofs.Common.{rules, ◌≡◌, ◌∙◌, ◌+◌, ℕ, arith, sym, ap, subst, [], ◌∷◌, ◌++◌, length, map, drop, List}
use Rattle.std.proofs.lemmas.List.{drop_all}
use Rattle.cyc_tree.specs.View.{clause_tree, clauses_of, name_tree, item_tree, items_of, pattern_tree}
use Rattle.cyc_tree.specs.Tree as tree
use Rattle.cyc_tree.specs.Tree.{BlockItems, Clauses, NoClauses, MoreClauses}
use Rattle.cyc_tree.specs.declared.statement.BlockItem.TheFolds.{the_lemmas}
use Rattle.core_meaning.specs.Core as core
use Rattle.source_meaning.specs.Shapes.{Shape, part_shape, parts_of}
use Rattle.source_meaning.specs.Programs.{world_of}
use Rattle.source_lowering.specs.Lowered.{Named, all_of, held_loads, member_number, put_local}
use Rattle.source_lowering.specs.Programs.{block_shapes, case_values, cases_code, item_values, items_code, locals_of, named_here, outward}
use Rattle.source_lowering.specs.Lowerable.{IsMember, IsVariable, TakesClauses, TakesItems}
use Rattle.cyc_tree.specs.Room.{clause_room, item_room}
use Rattle.lower_checks.specs.Counted.{IsCounted}
use Rattle.lower_checks.specs.Room.{HasRoom}
use Rattle.lower_checks.specs.Views.{regions_tree, shape_tree}
use Rattle.lower_checks.specs.Visible.{names_of}
use Rattle.lower_checks.specs.Writing.{IsLeft, IsSound, IsWritten, next_of}
use Rattle.lower_checks.proofs.Clauses.{left_clauses, member_variable}
use Rattle.lower_checks.proofs.Writing.{left_more, next_is, none_left}
use Rattle.lower_checks.proofs.+statement.Goals as goal
use Rattle.lower_checks.proofs.+statement.Goals.{switch::lower_cases-in-Case, switch::lower_cases-in-Default}

-- a clause of those that are left
pub switch::lower_cases-chosen_of-chosen-requires : goal.switch::lower_cases-chosen_of-chosen-requires
switch::lower_cases-chosen_of-chosen-requires t c = record {
  taken = λ sound.
      let w = world_of c.args.program.now in
      let result = shape_tree c.args.shape.now in
      let names = names_of c.args.locals.now in
      let parts = parts_of w.unions c.args.tag.now in
      let k = c.each.clause-index in
      let clause = c.clause-item.result in
      let others = clauses_of (map clause_tree (drop (k + 1) c.args.clauses.now)) in
      let here = left_clauses c.args.clauses.now k clause c.each-test.true c.clause-item.is in
      let taken = subst (TakesClauses w result names parts) here (c.each.invariant.written sound).taken in
      subst (IsMember parts) (sym c.deref.ensures.value)
      (subst (λ (p : tree.Pattern). TakesClauses w result names parts (MoreClauses clause.at p (items_of (map item_tree clause.body.items)) others))
      (ap pattern_tree c.in-Case.is) taken).0;
}

pub switch::lower_cases-lower_case-requires : goal.switch::lower_cases-lower_case-requires
switch::lower_cases-lower_case-requires t c =
    let w = world_of c.args.program.now in
    let result = shape_tree c.args.shape.now in
    let names = names_of c.args.locals.now in
    let parts = parts_of w.unions c.args.tag.now in
    let k = c.each.clause-index in
    let clause = c.clause-item.result in
    let others = clauses_of (map clause_tree (drop (k + 1) c.args.clauses.now)) in
    let here = left_clauses c.args.clauses.now k clause c.each-test.true c.clause-item.is in
    let member = (name_tree c.in-Case.member).text in
    let items = items_of (map item_tree clause.body.items) in
    let its = items_of (map item_tree c.deref-in-Case.result.now) in
    let text = (name_tree c.in-Case.name).text in
    let s = shape_tree c.chosen_of-chosen.result.shape in
    let pattern = tree.Case (name_tree c.in-Case.member) (name_tree c.in-Case.name) in
    let inside : IsSound c.each.body → TakesClauses w result names parts (MoreClauses clause.at pattern items others) = λ sound.
    subst (λ (p : tree.Pattern). TakesClauses w result names parts (MoreClauses clause.at p items others)) (ap pattern_tree c.in-Case.is)
    (subst (TakesClauses w result names parts) here (c.each.invariant.written sound).taken) in
    let shape_is : IsSound c.each.body → s ≡ part_shape parts member = λ sound.
    c.chosen_of-chosen.ensures.shape sound ∙ ap (part_shape parts) c.deref.ensures.value in
    let taken : IsSound c.each.body → TakesItems w result (named_here text s 0 ∷ outward (names_of c.each.locals)) 1 its = λ sound.
    let named =
    subst (λ (x : Shape). TakesItems w result (named_here text x 0 ∷ outward names) 1 items) (sym (shape_is sound)) (inside sound).1.0 in
    let body_is : items ≡ its = ap (λ is. items_of (map item_tree is)) (sym c.deref-in-Case.ensures.value) in
    subst (λ (is : BlockItems). TakesItems w result (named_here text s 0 ∷ outward (names_of c.each.locals)) 1 is) body_is
    (subst (λ ms. TakesItems w result (named_here text s 0 ∷ outward (names_of ms)) 1 items) (sym (c.each.invariant.written sound).locals) named) in
    let variable : IsSound c.each.body → IsVariable w.unions w.structs s = λ sound.
    let one = (inside sound).0 in
    subst (IsVariable w.unions w.structs) (sym (shape_is sound))
    (member_variable w.unions w.structs parts member one.number c.requires.values one.is) in
    let both : HasRoom c.args.around.all (16 + (item_room items + clause_room others)) =
    subst (λ (cs : Clauses). HasRoom c.args.around.all (clause_room cs)) here c.each.invariant.room in
    let room : HasRoom c.args.around.all (16 + item_room its) =
    subst (λ (is : BlockItems). HasRoom c.args.around.all (16 + item_room is)) (ap (λ is. items_of (map item_tree is)) (sym c.deref-in-Case.ensures.value))
    (omega (arith, both)) in
    let counted : IsCounted c.args.around = c.requires.counted in
    search (rules, the_lemmas, room, counted, taken, variable)

pub switch::lower_cases-each-preserved : goal.switch::lower_cases-each-preserved
switch::lower_cases-each-preserved t c =
    let w = world_of c.args.program.now in
    let result = shape_tree c.args.shape.now in
    let names = names_of c.args.locals.now in
    let h = regions_tree c.args.around c.args.opened.now in
    let parts = parts_of w.unions c.args.tag.now in
    let k = c.each.clause-index in
    let clause = c.clause-item.result in
    let items = items_of (map item_tree clause.body.items) in
    let all = clauses_of (map clause_tree c.args.clauses.now) in
    let others = clauses_of (map clause_tree (drop (k + 1) c.args.clauses.now)) in
    let here = left_clauses c.args.clauses.now k clause c.each-test.true c.clause-item.is in
    let a = c.args.body.now in
    let b = c.each.body in
    let z = c.match-pattern.body in
    let code = cases_code w result names h parts (next_of a) all in
    let values = case_values w names parts all in
    let both : HasRoom c.args.around.all (16 + (item_room items + clause_room others)) =
    subst (λ (cs : Clauses). HasRoom c.args.around.all (clause_room cs)) here c.each.invariant.room in
    record {
      written = λ sound.
          elim c.match-pattern.branch [
            | switch::lower_cases-in-Case v ↦
                let y = v.lower_case.new.body in
                let f = (name_tree v.in-Case.member).text in
                let text = (name_tree v.in-Case.name).text in
                let pattern = tree.Case (name_tree v.in-Case.member) (name_tree v.in-Case.name) in
                let s = part_shape parts f in
                let inner = named_here text s 0 ∷ outward names in
                let own = next_of b in
                let two = v.lower_case.ensures.writes (subst IsSound v.body-is sound) in
                let invariant = c.each.invariant.written two.sound in
                let is : clauses_of (map clause_tree (drop k c.args.clauses.now)) ≡ MoreClauses clause.at pattern items others =
                here ∙ ap (λ (p : tree.Pattern). MoreClauses clause.at p items others) (ap pattern_tree v.in-Case.is) in
                let items_are : items_of (map item_tree v.deref-in-Case.result.now) ≡ items =
                ap (λ is. items_of (map item_tree is)) v.deref-in-Case.ensures.value in
                let number_is : v.chosen_of-chosen.result.number ≡ member_number parts f =
                v.chosen_of-chosen.ensures.number two.sound ∙ ap (member_number parts) v.deref.ensures.value in
                let shape_is : shape_tree v.chosen_of-chosen.result.shape ≡ s = v.chosen_of-chosen.ensures.shape two.sound
                ∙ ap (part_shape parts) v.deref.ensures.value in
                let these = item_values w inner 1 items in
                let chosen_code : (number : ℕ) → (of : Shape) → (ns : List Named) → (is : BlockItems) → ℕ → List core.Statement = λ number of ns is n.
                core.Do (core.Constant (h.all + 2) number) ∷ core.Do (core.Apply core.Equal (h.all + 2) (h.all + 1) (h.all + 2)) ∷
                core.If (h.all + 2)
                (all_of
                (core.Block (locals_of w (of ∷ block_shapes w (named_here text of 0 ∷ outward ns) 1 is))
                (all_of (held_loads of h.all ++ (put_local of h.all 0 0 ++ items_code w result (named_here text of 0 ∷ outward ns) h 1 n is))) ∷
                core.Break ∷ []))
                core.NoStatements ∷ [] in
                let outer = names_of c.each.locals in
                let names_are : outer ≡ names = ap names_of invariant.locals in
                let given = v.chosen_of-chosen.result in
                let its = items_of (map item_tree v.deref-in-Case.result.now) in
                let at_names =
                subst (λ (ns : List Named). IsWritten b y (chosen_code given.number (shape_tree given.shape) ns its own)
                (item_values w (named_here text (shape_tree given.shape) 0 ∷ outward ns) 1 its)) names_are two in
                let at_items =
                subst (λ (is : BlockItems). IsWritten b y (chosen_code given.number (shape_tree given.shape) names is own)
                (item_values w (named_here text (shape_tree given.shape) 0 ∷ outward names) 1 is)) items_are at_names in
                let at_shape =
                subst (λ (of : Shape). IsWritten b y (chosen_code given.number of names items own)
                (item_values w (named_here text of 0 ∷ outward names) 1 items)) shape_is at_items in
                let at_number = subst (λ (n : ℕ). IsWritten b y (chosen_code n s names items own) these) number_is at_shape in
                let written = subst (λ q. IsWritten b q (chosen_code (member_number parts f) s names items own) these) (sym v.body-is) at_number in
                let left =
                subst (λ (cs : Clauses). IsLeft a b code (cases_code w result names h parts own cs) values (case_values w names parts cs)) is invariant.code in
                let more =
                left_more a b z code (chosen_code (member_number parts f) s names items own) (cases_code w result names h parts (own + length these) others)
                values these (case_values w names parts others) left written in
                record {
                  locals = v.locals-is ∙ v.lower_case.ensures.kept (subst IsSound v.body-is sound) ∙ invariant.locals;
                  code = subst (λ (n : ℕ). IsLeft a z code (cases_code w result names h parts n others) values (case_values w names parts others))
                      (sym (next_is b z (chosen_code (member_number parts f) s names items own) these written)) more;
                  taken = (subst (TakesClauses w result names parts) is invariant.taken).1.1;
                }
            | switch::lower_cases-in-Default v ↦
                let is : clauses_of (map clause_tree (drop k c.args.clauses.now)) ≡ MoreClauses clause.at tree.Default items others =
                here ∙ ap (λ (p : tree.Pattern). MoreClauses clause.at p items others) (ap pattern_tree v.in-Default.is) in
                let invariant = c.each.invariant.written (subst IsSound v.body-is sound) in
                let left =
                subst (λ (cs : Clauses). IsLeft a b code (cases_code w result names h parts (next_of b) cs) values (case_values w names parts cs)) is
                invariant.code in
                record {
                  locals = v.locals-is ∙ invariant.locals;
                  code = subst (λ q. IsLeft a q code (cases_code w result names h parts (next_of q) others) values (case_values w names parts others))
                      (sym v.body-is) left;
                  taken = (subst (TakesClauses w result names parts) is invariant.taken).1;
                }
          ];
      room = omega (arith, both);
    }

pub switch::lower_cases-returns-clause-writes : goal.switch::lower_cases-returns-clause-writes
switch::lower_cases-returns-clause-writes t c sound =
    let w = world_of c.args.program.now in
    let result = shape_tree c.args.shape.now in
    let names = names_of c.args.locals.now in
    let h = regions_tree c.args.around c.args.opened.now in
    let parts = parts_of w.unions c.args.tag.now in
    let a = c.args.body.now in
    let b = c.each.body in
    let all = clauses_of (map clause_tree c.args.clauses.now) in
    let others = clauses_of (map clause_tree (drop c.each.clause-index c.args.clauses.now)) in
    let none : others ≡ NoClauses =
    ap (λ xs. clauses_of (map clause_tree xs)) (drop_all c.each.clause-index c.args.clauses.now (omega (arith, c.each-test.false))) in
    none_left a b (cases_code w result names h parts (next_of a) all) (cases_code w result names h parts (next_of b) others) (case_values w names parts all)
    (case_values w names parts others) (ap (cases_code w result names h parts (next_of b)) none) (ap (case_values w names parts) none)
    (c.each.invariant.written sound).code
