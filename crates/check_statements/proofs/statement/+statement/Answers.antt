use Rattle.std.proofs.Common.{◌≡◌, ◌≤◌, ◌+◌, ⊎_elim, IfOk, List, ap, arith, drop, length, map, subst, sym, ◌∙◌, ◌++◌, ℕ}
use Rattle.std.specs.Prelude.{option_map, ◌&&◌}
use Rattle.cyc_tree.specs.View.{OneClause, OneItem, clause_tree, clauses_of, declaration_tree, expression_tree, item_tree, items_of, pattern_tree}
use Rattle.cyc_tree.specs.View.{statement_tree}
use Rattle.cyc_tree.specs.declared.statement.BlockItem.{BlockItem}
use Rattle.cyc_tree.specs.declared.statement.Clause.{Clause}
use Rattle.cyc_tree.proofs.PartForms.{clause_parts}
use Rattle.cyc_tree.proofs.StatementForms.{block_tree, break_tree, continue_tree, declare_tree, empty_tree, exchange_tree, execute_tree}
use Rattle.cyc_tree.proofs.StatementForms.{free_key_tree, free_unique_tree, if_else_tree, if_tree, return_tree, run_tree, switch_tree, while_tree}
use Rattle.cyc_types.specs.Sameness.{HasTags}
use Rattle.source_typing.specs.Expressions.{judge}
use Rattle.source_typing.specs.Faults.{earliest, own_after}
use Rattle.source_typing.specs.Regions.{Level}
use Rattle.source_typing.specs.Scope.{block_entered}
use Rattle.source_typing.specs.Statements.{chosen, clause_scope, clauses_faults, condition_faults, in_a_loop}
use Rattle.source_typing.specs.Statements.{in_a_switch, items_faults, statement_faults, switched}
use Rattle.source_typing.specs.Verdicts as verdict
use Rattle.check_faults.specs.Faults as found
use Rattle.check_faults.specs.Faults.{faults_of}
use Rattle.check_scopes.specs.Changes.{left}
use Rattle.check_scopes.specs.Knows.{Knows}
use Rattle.check_scopes.specs.Locals.{dropped_to}
use Rattle.check_scopes.specs.declared.scope.Scope.{Scope}
use Rattle.check_regions.specs.Marks.{mark_of}
use Rattle.check_regions.specs.Scopes.{Scoped, first_of}
use Rattle.check_regions.specs.declared.scope.RegionMark.{RegionMark}
use Rattle.check_declarations.specs.Contexts.{StandsIn, Suits, kept_to}
use Rattle.check_statements.specs.Leaving.{item_falls}
use Rattle.check_statements.specs.Plain.{is_plain}
use Rattle.check_declarations.specs.Switching.{switched_in}
use Rattle.check_statements.specs.Switching.{clause_faults}
use Rattle.check_declarations.proofs.Blocks.{
  all_kept,
  begun_longer,
  block_left,
  block_stands,
  left_is,
  loop_known,
  loop_suits,
  no_fewer,
  no_fewer_names,
  no_fewer_opened,
  no_fewer_regions,
  opened_same,
  scope_behind,
  switch_known,
  switch_suits,
  two_found,
}
use Rattle.check_statements.proofs.Blocks.{Going, goes_on, item_faults}
use Rattle.check_statements.proofs.Clauses.{clause_goes_on, clause_trees}
use Rattle.check_statements.proofs.statement.+statement.Goals as goal
use Rattle.check_statements.proofs.statement.+statement.Goals.{items_fault-in-Declare+in_ok-fault-in-Declare, items_fault-in-Execute+in_ok-fault-in-Execute}

-- ---- blocks

pub block_fault-returns-clause-fault : goal.block_fault-returns-clause-fault
block_fault-returns-clause-fault t c = λ g h suits around.
    c.in_ok-found.ensures.fault (block_entered g)
    (subst (λ x. StandsIn x c.args.names.now c.len-outer.result (record c.args.scope.now { regions = c.begin_block.new.self }) (block_entered g))
    (sym c.in_block-inner.ensures)
    (block_stands c.args.context c.args.names.now c.args.scope.now g c.begin_block.new.self c.in_ok-frame.frame c.len-outer.result h suits around
    c.in_ok-begin_block.ensures.begun (c.in_ok-frame.ensures ∙ ap Level c.names.ensures) c.len-outer.ensures))

pub block_fault-returns-clause-scope : goal.block_fault-returns-clause-scope
block_fault-returns-clause-scope t c =
    let s = c.args.scope.now in
    let after = c.items_fault.new.scope in
    let regions = c.begin_block.new.self in
    let begun = c.in_ok-begin_block.ensures.begun in
    left_is after c.leave-2.new.self c.leave.new.self (length s.locals) (mark_of s.regions)
    (c.leave-2.ensures ∙ ap (λ n. dropped_to n after.locals) c.len-outer.ensures)
    (c.leave.ensures ∙ ap (λ m. first_of m.names m.opened after.regions) c.mark-mark.ensures)
    ∙ block_left s after regions begun
    (c.in_ok-found.ensures.left (length s.locals) (mark_of s.regions) (grind arith) (begun_longer s.regions regions begun)
    (opened_same s.regions regions begun))

pub block_fault-returns-clause-kept : goal.block_fault-returns-clause-kept
block_fault-returns-clause-kept t c =
    let ns = c.args.names.now in
    c.leave-3.ensures ∙ ap (λ n. kept_to n c.items_fault.new.names) c.len-known.ensures ∙ c.in_ok-found.ensures.kept (length ns) (grind arith) ∙ all_kept ns

-- ---- clauses

pub clause_fault-returns-clause-scope : goal.clause_fault-returns-clause-scope
clause_fault-returns-clause-scope t c =
    let s = c.args.scope.now in
    let after = c.items_fault.new.scope in
    let regions = c.begin_block.new.self in
    let bound = c.bind.new.scope in
    let begun = c.in_ok-begin_block.ensures.begun in
    let entered : Scope = record s { regions = regions } in
    let binds = c.in_ok-bind.ensures.left in
    let longer : length s.locals ≤ length bound.locals = no_fewer entered bound (binds (length s.locals) (mark_of regions) (grind arith)) in
    let more : length s.regions.begun ≤ length bound.regions.begun =
    subst (λ (r : Scoped). length s.regions.begun ≤ length r.begun) (sym c.in_ok-bind.ensures.regions) (begun_longer s.regions regions begun) in
    let opened : length s.regions.opened ≤ length bound.regions.opened =
    subst (λ (r : Scoped). length s.regions.opened ≤ length r.opened) (sym c.in_ok-bind.ensures.regions) (opened_same s.regions regions begun) in
    left_is after c.leave-2.new.self c.leave.new.self (length s.locals) (mark_of s.regions)
    (c.leave-2.ensures ∙ ap (λ n. dropped_to n after.locals) c.len-outer.ensures)
    (c.leave.ensures ∙ ap (λ m. first_of m.names m.opened after.regions) c.mark-mark.ensures)
    ∙ block_left s after regions begun
    (c.in_ok-found.ensures.left (length s.locals) (mark_of s.regions) longer more opened
    ∙ binds (length s.locals) (mark_of s.regions) (grind arith))

pub clause_fault-returns-clause-fault : goal.clause_fault-returns-clause-fault
clause_fault-returns-clause-fault t c = λ g h suits around has.
    let s = c.args.scope.now in
    let ns = c.args.names.now in
    let u = option_map switched_in c.args.union.now in
    let clause = c.args.clause.now in
    let p = pattern_tree clause.pattern in
    let reached = c.args.reached in
    let context = record c.args.context { frame = c.in_ok-frame.frame } in
    let outer : ℕ = length s.locals in
    let bound = c.bind.new.scope in
    let frame = c.in_ok-frame.ensures ∙ ap Level c.names.ensures in
    let begins = block_stands c.args.context ns s g c.begin_block.new.self c.in_ok-frame.frame outer h suits around c.in_ok-begin_block.ensures.begun frame
    (grind arith) in
    let binds = c.in_ok-bind.ensures.stands context ns g begins (frame ∙ ap Level h.regions.count) has in
    let stands = subst (λ x. StandsIn x ns c.len-outer.result bound (clause_scope g u p)) (sym c.in_block-inner.ensures)
    (subst (λ n. StandsIn context ns n bound (clause_scope g u p)) (sym c.len-outer.ensures) binds) in
    let inside =
    c.in_ok-found.ensures.fault (clause_scope g u p) stands
    ∙ ap (λ (is : List BlockItem). earliest (items_faults (clause_scope g u p) reached (items_of (map item_tree is))))
    c.deref.ensures.value
    ∙ ap (λ (o : OneClause). earliest (items_faults (clause_scope g u o.pattern) reached o.body)) (sym (clause_parts clause)) in
    c.clause_found.ensures g has inside

pub clause_fault-returns-clause-kept : goal.clause_fault-returns-clause-kept
clause_fault-returns-clause-kept t c =
    let ns = c.args.names.now in
    c.leave-3.ensures ∙ ap (λ n. kept_to n c.items_fault.new.names) c.len-known.ensures ∙ c.in_ok-found.ensures.kept (length ns) (grind arith) ∙ all_kept ns

pub clauses_fault-each-preserved : goal.clauses_fault-each-preserved
clauses_fault-each-preserved t c =
    let clause = c.clause-item.result in
    let u = option_map switched_in c.args.union.now in
    let same = c.in_ok-fault.ensures.scope ∙ c.each.invariant.scope in
    let names = c.in_ok-fault.ensures.kept ∙ c.each.invariant.names in
    record {
      scope = same;
      names = names;
      each = λ g h suits around has.
          let known = subst (λ s. Knows s g) (sym c.each.invariant.scope) h in
          let fitting = subst (λ ns. Suits c.args.context ns g) (sym c.each.invariant.names) suits in
          subst (λ o. found.first_of (faults_of o) (earliest (clauses_faults g c.args.reached u (clause_trees (drop (c.each.clause-index + 1)
          c.args.clauses.now))))
          ≡ earliest (clauses_faults g c.args.reached u (clause_trees c.args.clauses.now))) (sym c.sooner-found.ensures)
          (clause_goes_on g c.args.reached u c.each.found c.in_ok-fault.fault c.args.clauses.now c.each.clause-index clause
          (earliest (clauses_faults g c.args.reached u (clause_trees c.args.clauses.now))) c.each-test.true c.clause-item.is
          (c.each.invariant.each g h suits around has)
          (c.in_ok-fault.ensures.fault g known fitting around has));
    }

-- ---- items

pub items_fault-each-preserved : goal.items_fault-each-preserved
items_fault-each-preserved t c =
    let item = c.item-item.result in
    let context = c.args.context in
    let outer = c.args.outer in
    let names = c.each.names in
    let later = c.match-item.names in
    let all = c.args.scope.now in
    let reached = c.each.reached in
    let own : (g : _) → StandsIn context names outer c.each.scope g
    → faults_of c.match-item.fault ≡ earliest (item_faults g reached (item_tree item)) =
    elim c.match-item.branch [
      | items_fault-in-Declare+in_ok-fault-in-Declare w ↦ λ g h. ap (λ o. faults_of o) w.fault-is ∙ w.in_ok-fault-in-Declare.ensures.fault g h
          ∙ ap (λ d. earliest (item_faults g reached (OneItem.Declare (declaration_tree d)))) w.deref.ensures
          ∙ ap (λ i. earliest (item_faults g reached i)) (sym (declare_tree w.in-Declare.declaration) ∙ ap item_tree (sym w.in-Declare.is))
      | items_fault-in-Execute+in_ok-fault-in-Execute w ↦ λ g h. ap (λ o. faults_of o) w.fault-is
          ∙ w.in_ok-fault-in-Execute.ensures.fault g h.known h.suits h.block.around
          ∙ ap (λ i. earliest (item_faults g reached i)) (sym (execute_tree w.in-Execute.statement) ∙ ap item_tree (sym w.in-Execute.is))
    ] in
    let stands : (g : _) → StandsIn context names outer c.each.scope g
    → StandsIn context later outer c.match-item.scope (scope_behind g (item_tree item)) =
    elim c.match-item.branch [
      | items_fault-in-Declare+in_ok-fault-in-Declare w ↦ λ g h. subst (λ s. StandsIn context later outer s (scope_behind g (item_tree item)))
          (sym w.scope-is)
          (subst (λ ns. StandsIn context ns outer w.declare.new.scope (scope_behind g (item_tree item))) (sym w.names-is)
          (subst (λ i. StandsIn context w.declare.new.names outer w.declare.new.scope (scope_behind g i))
          (sym (declare_tree w.in-Declare.declaration) ∙ ap item_tree (sym w.in-Declare.is))
          (subst (λ d. StandsIn context w.declare.new.names outer w.declare.new.scope (scope_behind g (OneItem.Declare (declaration_tree d))))
          w.deref.ensures (w.in_ok-fault-in-Declare.ensures.known g h))))
      | items_fault-in-Execute+in_ok-fault-in-Execute w ↦ λ g h. subst (λ s. StandsIn context later outer s (scope_behind g (item_tree item)))
          (sym (w.scope-is ∙ w.in_ok-fault-in-Execute.ensures.scope))
          (subst (λ ns. StandsIn context ns outer c.each.scope (scope_behind g (item_tree item)))
          (sym (w.names-is ∙ w.in_ok-fault-in-Execute.ensures.kept))
          (subst (λ i. StandsIn context names outer c.each.scope (scope_behind g i))
          (sym (execute_tree w.in-Execute.statement) ∙ ap item_tree (sym w.in-Execute.is)) h))
    ] in
    let leaves = c.each.invariant.left (length all.locals) (mark_of all.regions) (grind arith) (grind arith) (grind arith) in
    let longer : length all.locals ≤ length c.each.scope.locals = no_fewer all c.each.scope leaves in
    let more : length all.regions.begun ≤ length c.each.scope.regions.begun = no_fewer_regions all c.each.scope leaves in
    let opened : length all.regions.opened ≤ length c.each.scope.regions.opened = no_fewer_opened all c.each.scope leaves in
    let larger : length c.args.names.now ≤ length names =
    no_fewer_names c.args.names.now names (c.each.invariant.kept (length c.args.names.now) (grind arith)) in
    let same : (count : ℕ) (mark : RegionMark) → count ≤ length c.each.scope.locals → mark.names ≤ length c.each.scope.regions.begun
    → mark.opened ≤ length c.each.scope.regions.opened → left count mark c.match-item.scope ≡ left count mark c.each.scope =
    elim c.match-item.branch [
      | items_fault-in-Declare+in_ok-fault-in-Declare w ↦ λ count mark l m o. ap (left count mark) w.scope-is
          ∙ w.in_ok-fault-in-Declare.ensures.left count mark l m o
      | items_fault-in-Execute+in_ok-fault-in-Execute w ↦ λ count mark l m o. ap (left count mark) (w.scope-is ∙ w.in_ok-fault-in-Execute.ensures.scope)
    ] in
    let kept : (count : ℕ) → count ≤ length names → kept_to count later ≡ kept_to count names =
    elim c.match-item.branch [
      | items_fault-in-Declare+in_ok-fault-in-Declare w ↦ λ count l. ap (kept_to count) w.names-is ∙ w.in_ok-fault-in-Declare.ensures.kept count l
      | items_fault-in-Execute+in_ok-fault-in-Execute w ↦ λ count l. ap (kept_to count) (w.names-is ∙ w.in_ok-fault-in-Execute.ensures.kept)
    ] in
    let rest = map item_tree (drop (c.each.item-index + 1) c.args.items.now) in
    record {
      each = λ g h.
          let going = c.each.invariant.each g h in
          let found = earliest (items_faults g c.args.reached (items_of (map item_tree c.args.items.now))) in
          subst (λ b. Going context later outer c.match-item.scope b c.sooner-found.result rest found) (sym c.reached_after-reached.ensures)
          (subst (λ o. Going context later outer c.match-item.scope (reached && item_falls (item_tree item)) o rest found) (sym c.sooner-found.ensures)
          (goes_on context names later outer c.each.scope c.match-item.scope reached c.each.found c.match-item.fault c.args.items.now c.each.item-index item
          found c.each-test.true c.item-item.is going
          (own going.env going.stands) (stands going.env going.stands)));
      left = λ count mark l m o. same count mark (grind (arith, l, longer)) (grind (arith, m, more)) (grind (arith, o, opened))
          ∙ c.each.invariant.left count mark l m o;
      kept = λ count l. kept count (grind (arith, l, larger)) ∙ c.each.invariant.kept count l;
    }

-- ---- statements

pub statement_fault-returns-in-Block-clause-fault : goal.statement_fault-returns-in-Block-clause-fault
statement_fault-returns-in-Block-clause-fault t c = λ g h suits around.
    let reached = c.args.reached in
    subst (λ s. IfOk c.block_fault.result (λ f. faults_of f ≡ earliest (statement_faults g reached s)))
    (sym (ap statement_tree c.in-Block.is ∙ block_tree c.in-Block.field-0 c.in-Block.items))
    (subst (λ is. IfOk c.block_fault.result (λ f. faults_of f
    ≡ earliest (items_faults (block_entered g) reached (items_of (map item_tree is)))))
    c.deref.ensures.value (c.block_fault.ensures.fault g h suits around))

pub statement_fault-returns-in_ok-second-in-If-clause-fault : goal.statement_fault-returns-in_ok-second-in-If-clause-fault
statement_fault-returns-in_ok-second-in-If-clause-fault t c = λ g h suits around.
    let reached = c.args.reached in
    two_found c.in_ok-first-in-If.first c.in_ok-second-in-If.second c.sooner.result (condition_faults g (expression_tree c.in-If.condition))
    (statement_faults g reached (statement_tree c.in-If.body.value)) c.sooner.ensures (c.in_ok-first-in-If.ensures g h)
    (c.in_ok-second-in-If.ensures.fault g h suits around
    ∙ ap (λ b. earliest (statement_faults g reached (statement_tree b))) c.deref-in-If.ensures)
    ∙ ap (λ s. earliest (statement_faults g reached s))
    (sym (ap statement_tree c.in-If.is ∙ if_tree c.in-If.field-0 c.in-If.condition c.in-If.body))

pub statement_fault-returns-in_ok-third-in-IfElse-clause-fault : goal.statement_fault-returns-in_ok-third-in-IfElse-clause-fault
statement_fault-returns-in_ok-third-in-IfElse-clause-fault t c = λ g h suits around.
    let reached = c.args.reached in
    let test = condition_faults g (expression_tree c.in-IfElse.condition) in
    let body = statement_faults g reached (statement_tree c.in-IfElse.body.value) in
    let otherwise = statement_faults g reached (statement_tree c.in-IfElse.otherwise.value) in
    let second = c.in_ok-second-in-IfElse.ensures.fault g h suits around
    ∙ ap (λ b. earliest (statement_faults g reached (statement_tree b))) c.deref-in-IfElse.ensures in
    let known = subst (λ s. Knows s g) (sym c.in_ok-second-in-IfElse.ensures.scope) h in
    let same = subst (λ ns. Suits c.args.context ns g) (sym c.in_ok-second-in-IfElse.ensures.kept) suits in
    let third = c.in_ok-third-in-IfElse.ensures.fault g known same around
    ∙ ap (λ b. earliest (statement_faults g reached (statement_tree b))) c.deref-in-IfElse-2.ensures in
    two_found c.sooner-in-IfElse.result c.in_ok-third-in-IfElse.third c.sooner-in-IfElse-2.result (test ++ body) otherwise c.sooner-in-IfElse-2.ensures
    (two_found c.in_ok-first-in-IfElse.first c.in_ok-second-in-IfElse.second c.sooner-in-IfElse.result test body c.sooner-in-IfElse.ensures
    (c.in_ok-first-in-IfElse.ensures g h) second) third
    ∙ ap (λ s. earliest (statement_faults g reached s))
    (sym (ap statement_tree c.in-IfElse.is ∙ if_else_tree c.in-IfElse.field-0 c.in-IfElse.condition c.in-IfElse.body c.in-IfElse.otherwise))

pub statement_fault-returns-in_ok-second-in-While-clause-fault : goal.statement_fault-returns-in_ok-second-in-While-clause-fault
statement_fault-returns-in_ok-second-in-While-clause-fault t c = λ g h suits around.
    let reached = c.args.reached in
    two_found c.in_ok-first-in-While.first c.in_ok-second-in-While.second c.sooner-in-While.result
    (condition_faults g (expression_tree c.in-While.condition))
    (statement_faults (in_a_loop g) reached (statement_tree c.in-While.body.value)) c.sooner-in-While.ensures
    (c.in_ok-first-in-While.ensures g h)
    (c.in_ok-second-in-While.ensures.fault (in_a_loop g) (loop_known c.args.scope.now g h)
    (loop_suits c.args.context c.looping.result c.args.names.now g suits c.looping.ensures) around
    ∙ ap (λ b. earliest (statement_faults (in_a_loop g) reached (statement_tree b))) c.deref-in-While.ensures)
    ∙ ap (λ s. earliest (statement_faults g reached s))
    (sym (ap statement_tree c.in-While.is ∙ while_tree c.in-While.field-0 c.in-While.condition c.in-While.body))

pub statement_fault-returns-in_ok-inside-in-Switch-clause-fault : goal.statement_fault-returns-in_ok-inside-in-Switch-clause-fault
statement_fault-returns-in_ok-inside-in-Switch-clause-fault t c = λ g h suits around.
    let s = c.args.scope.now in
    let reached = c.args.reached in
    let x = c.in-Switch in
    let v = judge g (expression_tree x.place) in
    let cs = clauses_of (map clause_tree x.clauses.items) in
    let place = c.in_ok-place-in-Switch.ensures g h in
    let union = c.union_of-union.ensures.union v place in
    let inside =
    c.in_ok-inside-in-Switch.ensures.fault (in_a_switch g) (switch_known s g h)
    (switch_suits c.args.context c.switching-inner.result c.args.names.now g suits c.switching-inner.ensures) around
    (c.union_of-union.ensures.parts (in_a_switch g) h.tags)
    ∙ ap (λ (l : List Clause). earliest (clauses_faults (in_a_switch g) reached (option_map switched_in c.union_of-union.result)
    (clauses_of (map clause_tree l)))) c.deref-in-Switch.ensures.value
    ∙ ap (λ u. earliest (clauses_faults (in_a_switch g) reached u cs)) union in
    let parts = clauses_faults (in_a_switch g) reached (chosen v) cs in
    subst (λ fs. IfOk c.switch_fault.result (λ f. faults_of f ≡ earliest fs))
    (ap (λ (l : List Clause). own_after (verdict.faults_of (verdict.after v (switched g x.at (clauses_of (map clause_tree l))))) (verdict.faults_of v ++ parts))
    c.deref-in-Switch-2.ensures.value
    ∙ ap (λ s. statement_faults g reached s) (sym (ap statement_tree x.is ∙ switch_tree x.at x.place x.clauses)))
    (c.switch_fault.ensures g v parts
    (subst (λ (z : Scope). HasTags z.tables.now g.tables) (sym c.in_ok-inside-in-Switch.ensures.scope) h.tags) place inside)

pub statement_fault-returns-in-Empty-clause-fault : goal.statement_fault-returns-in-Empty-clause-fault
statement_fault-returns-in-Empty-clause-fault t c = λ g h suits around.
    c.plain_fault.ensures g c.args.names.now c.args.reached h suits
    (⊎_elim
    (λ w. ap is_plain (ap statement_tree w.1 ∙ empty_tree w.0))
    (λ r1. ⊎_elim
    (λ w. ap is_plain (ap statement_tree w.1 ∙ run_tree w.0))
    (λ r2. ⊎_elim
    (λ w. ap is_plain (ap statement_tree w.2 ∙ exchange_tree w.0 w.1))
    (λ r3. ⊎_elim
    (λ w. ap is_plain (ap statement_tree w.1 ∙ break_tree w.0))
    (λ r4. ⊎_elim
    (λ w. ap is_plain (ap statement_tree w.1 ∙ continue_tree w.0))
    (λ r5. ⊎_elim
    (λ w. ap is_plain (ap statement_tree w.2 ∙ return_tree w.0 w.1))
    (λ r6. ⊎_elim
    (λ w. ap is_plain (ap statement_tree w.2 ∙ free_unique_tree w.0 w.1))
    (λ w. ap is_plain (ap statement_tree w.2 ∙ free_key_tree w.0 w.1))
    r6)
    r5)
    r4)
    r3)
    r2)
    r1)
    c.in-Empty.is)
