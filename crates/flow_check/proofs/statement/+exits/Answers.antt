use Rattle.std.proofs.Common.{◌≡◌, ◌≤◌, ◌+◌, IfOk, List, [], ap, arith, drop, length, map, subst, sym, ◌∙◌, ◌∷◌, ℕ}
use Rattle.std.specs.Prelude.{option_map}
use Rattle.cyc_tree.proofs.PartForms.{clause_parts}
use Rattle.cyc_tree.proofs.StatementForms.{block_tree, declare_tree, exchange_tree, execute_tree, free_key_tree}
use Rattle.cyc_tree.proofs.StatementForms.{free_unique_tree, if_else_tree, if_tree, return_tree, run_tree, switch_tree, while_tree}
use Rattle.cyc_tree.specs.Tree.{Case, Default, Statement}
use Rattle.cyc_tree.specs.View.{OneItem, clause_tree, clauses_of, declaration_tree, expression_tree, item_tree, items_of}
use Rattle.cyc_tree.specs.View.{name_tree, pattern_tree, statement_tree}
use Rattle.cyc_tree.specs.declared.statement.BlockItem.{BlockItem}
use Rattle.cyc_tree.specs.declared.statement.Clause.{Clause}
use Rattle.flow_summaries.specs.Exits.{either_exits, entered, exits_in_sequence, loop_exits, switch_left, with_passage}
use Rattle.flow_summaries.specs.Expressions.{uses_of}
use Rattle.flow_summaries.specs.Statements as rules
use Rattle.flow_summaries.specs.Statements.{exits_of_clauses, exits_of_items, exits_within}
use Rattle.source_typing.specs.Expressions.{judge}
use Rattle.source_typing.specs.Left.{added_by}
use Rattle.source_typing.specs.Regions.{Level}
use Rattle.source_typing.specs.Scope.{Env, block_entered}
use Rattle.source_typing.specs.States.{States}
use Rattle.source_typing.specs.Statements.{chosen, clause_scope, in_a_loop, in_a_switch}
use Rattle.check_scopes.specs.Changes.{left}
use Rattle.check_scopes.specs.Locals.{dropped_to}
use Rattle.check_scopes.specs.declared.scope.Scope.{Scope}
use Rattle.check_regions.specs.Marks.{mark_of}
use Rattle.check_regions.specs.Scopes.{Scoped, first_of}
use Rattle.check_regions.specs.declared.scope.RegionMark.{RegionMark}
use Rattle.check_declarations.specs.Contexts.{StandsIn, kept_to}
use Rattle.check_declarations.specs.Switching.{switched_in}
use Rattle.check_declarations.proofs.Blocks.{
  all_kept,
  begun_longer,
  block_left,
  block_stands,
  left_is,
  no_fewer,
  no_fewer_names,
  no_fewer_opened,
  no_fewer_regions,
  opened_same,
  scope_behind,
}
use Rattle.flow_effects.specs.Exits.{exits_of}
use Rattle.flow_effects.specs.Passed.{added_of}
use Rattle.flow_effects.specs.Steps.{all_before, declared_before, step_before}
use Rattle.flow_check.specs.Declarations.{Adds, Nothing}
use Rattle.flow_check.specs.Standing.{Stands}
use Rattle.flow_check.specs.Switched.{clause_exits}
use Rattle.flow_check.proofs.Adding.{adds_bound, entered_within, none_added}
use Rattle.flow_check.proofs.Blocks.{Going, goes_on}
use Rattle.flow_check.proofs.Located.{same_count}
use Rattle.flow_check.proofs.Told.{answers_as, loop_follows, of_statement, still_follows, switch_follows, way_goes_on}
use Rattle.flow_check.proofs.statement.+exits.Goals as goal
use Rattle.flow_check.proofs.statement.+exits.Goals.{clause_exits-in-Case, clause_exits-in-Default}
use Rattle.flow_check.proofs.statement.+exits.Goals.{items_exits-in-Declare+in_ok-declared-in-Declare, items_exits-in-Execute+in_ok-exits-in-Execute}

-- ---- blocks

pub block-returns-clause-exits : goal.block-returns-clause-exits
block-returns-clause-exits t c = λ g h.
    c.in_ok-found.ensures.exits (block_entered g)
    (subst (λ x. Stands x c.args.names.now c.len-outer.result (record c.args.scope.now { regions = c.begin_block.new.self }) (block_entered g))
    (sym c.in_block.ensures) record {
      stands = block_stands c.args.context c.args.names.now c.args.scope.now g c.begin_block.new.self c.in_ok-frame.frame c.len-outer.result h.known h.suits
          h.around c.in_ok-begin_block.ensures.begun (c.in_ok-frame.ensures ∙ ap Level c.names.ensures) c.len-outer.ensures;
      locals = h.locals;
    })

pub block-returns-clause-scope : goal.block-returns-clause-scope
block-returns-clause-scope t c =
    let s = c.args.scope.now in
    let after = c.items_exits.new.scope in
    let regions = c.begin_block.new.self in
    let begun = c.in_ok-begin_block.ensures.begun in
    left_is after c.leave-2.new.self c.leave.new.self (length s.locals) (mark_of s.regions)
    (c.leave-2.ensures ∙ ap (λ n. dropped_to n after.locals) c.len-outer.ensures)
    (c.leave.ensures ∙ ap (λ m. first_of m.names m.opened after.regions) c.mark-mark.ensures)
    ∙ block_left s after regions begun
    (c.in_ok-found.ensures.left (length s.locals) (mark_of s.regions) (grind arith) (begun_longer s.regions regions begun)
    (opened_same s.regions regions begun))

pub block-returns-clause-kept : goal.block-returns-clause-kept
block-returns-clause-kept t c =
    let ns = c.args.names.now in
    c.leave-3.ensures ∙ ap (λ n. kept_to n c.items_exits.new.names) c.len-known.ensures ∙ c.in_ok-found.ensures.kept (length ns) (grind arith) ∙ all_kept ns

-- ---- clauses

pub clause_exits-returns-clause-scope : goal.clause_exits-returns-clause-scope
clause_exits-returns-clause-scope t c =
    let s = c.args.scope.now in
    let after = c.items_exits.new.scope in
    let regions = c.begin_block.new.self in
    let bound = c.bind.new.scope in
    let begun = c.in_ok-begin_block.ensures.begun in
    let entered : Scope = record s { regions = regions } in
    let binds = c.in_ok-bind.ensures.left in
    let longer : length s.locals ≤ length bound.locals = no_fewer entered bound (binds (length s.locals) (mark_of regions) (grind arith)) in
    let more : length s.regions.begun ≤ length bound.regions.begun =
    subst (λ (r : Scoped). length s.regions.begun ≤ length r.begun) (sym c.in_ok-bind.ensures.regions) (begun_longer s.regions regions begun) in
    let opened : length s.regions.opened ≤ length bound.regions.opened =
    subst (λ (r : Scoped). length s.regions.opened ≤ length r.opened) (sym c.in_ok-bind.ensures.regions) (opened_same s.regions regions begun) in
    left_is after c.leave-2.new.self c.leave.new.self (length s.locals) (mark_of s.regions)
    (c.leave-2.ensures ∙ ap (λ n. dropped_to n after.locals) c.len-outer.ensures)
    (c.leave.ensures ∙ ap (λ m. first_of m.names m.opened after.regions) c.mark-mark.ensures)
    ∙ block_left s after regions begun
    (c.in_ok-found.ensures.left (length s.locals) (mark_of s.regions) longer more opened
    ∙ binds (length s.locals) (mark_of s.regions) (grind arith))

pub clause_exits-returns-clause-kept : goal.clause_exits-returns-clause-kept
clause_exits-returns-clause-kept t c =
    let ns = c.args.names.now in
    c.leave-3.ensures ∙ ap (λ n. kept_to n c.items_exits.new.names) c.len-known.ensures ∙ c.in_ok-found.ensures.kept (length ns) (grind arith) ∙ all_kept ns

pub clause_exits-returns-clause-exits : goal.clause_exits-returns-clause-exits
clause_exits-returns-clause-exits t c = λ g h has.
    let s = c.args.scope.now in
    let ns = c.args.names.now in
    let u = option_map switched_in c.args.union.now in
    let clause = c.args.clause.now in
    let p = pattern_tree clause.pattern in
    let context = record c.args.context { frame = c.in_ok-frame.frame } in
    let outer : ℕ = length s.locals in
    let bound = c.bind.new.scope in
    let frame = c.in_ok-frame.ensures ∙ ap Level c.names.ensures in
    let begins = block_stands c.args.context ns s g c.begin_block.new.self c.in_ok-frame.frame outer h.known h.suits h.around c.in_ok-begin_block.ensures.begun
    frame (grind arith) in
    let up = frame ∙ ap Level h.known.regions.count in
    let binds = c.in_ok-bind.ensures.stands context ns g begins up has in
    let locals = c.in_ok-bind.ensures.locals context ns g begins up has h.locals in
    let stands = subst (λ x. StandsIn x ns c.len-outer.result bound (clause_scope g u p)) (sym c.in_block-inner.ensures)
    (subst (λ n. StandsIn context ns n bound (clause_scope g u p)) (sym c.len-outer.ensures) binds) in
    let inside =
    c.in_ok-found.ensures.exits (clause_scope g u p) (record { stands = stands; locals = locals })
    ∙ ap (λ (is : List BlockItem). exits_of_items (clause_scope g u p) (items_of (map item_tree is))) c.deref-2.ensures.value in
    let added = added_of c.match-clause.begun in
    let rest = exits_of_items (clause_scope g u p) (items_of (map item_tree clause.body.items)) in
    let count = sym (same_count s.locals g.locals h.locals) in
    let within : entered c.len-outer.result (length added + c.len-outer.result) added rest ≡ exits_within g (clause_scope g u p) rest =
    elim c.match-clause.branch [
      | clause_exits-in-Case w ↦
          let f = name_tree w.in-Case.field-0 in
          let x = name_tree w.in-Case.name in
          let is : p ≡ Case f x = ap pattern_tree w.in-Case.is in
          let adds = subst (λ q. Adds x.text g.locals (clause_scope g u q).locals) (sym is) (adds_bound g u f x) in
          let named = subst (λ y. Adds y g.locals (clause_scope g u p).locals) (sym w.deref.ensures.value) adds in
          let begins = w.begun-begun.ensures g (clause_scope g u p) (c.len-outer.ensures ∙ count) named stands.known locals in
          entered_within g (clause_scope g u p) x.text c.len-outer.result added rest adds (c.len-outer.ensures ∙ count)
          (ap (λ b. added_of b) w.begun-is ∙ begins)
      | clause_exits-in-Default w ↦
          let is : p ≡ Default = ap pattern_tree w.in-Default.is in
          let adds : Adds [] g.locals (clause_scope g u p).locals = subst (λ q. Adds [] g.locals (clause_scope g u q).locals) (sym is) Nothing in
          entered_within g (clause_scope g u p) [] c.len-outer.result added rest adds (c.len-outer.ensures ∙ count)
          (ap (λ b. added_of b) w.begun-is
          ∙ subst (λ q. ◌≡◌ {A = States} [] (added_by g (clause_scope g u q))) (sym is) (sym (none_added (block_entered g) g.locals)))
    ] in
    c.leaving.ensures ∙ ap (entered c.len-outer.result (length added + c.len-outer.result) added) inside ∙ within
    ∙ ap (clause_exits g u) (sym (clause_parts clause))

-- ---- clauses of a `switch`

pub switched-each-preserved : goal.switched-each-preserved
switched-each-preserved t c =
    let all = c.args.scope.now in
    let clause = c.clause-item.result in
    let u = option_map switched_in c.args.union.now in
    let same = c.in_ok-way.ensures.scope ∙ c.each.invariant.scope in
    let names = c.in_ok-way.ensures.kept ∙ c.each.invariant.names in
    record {
      scope = same;
      names = names;
      each = λ g h has.
          let follows = still_follows c.args.context c.args.names.now c.each.names all c.each.scope g c.each.invariant.scope c.each.invariant.names h in
          ap (λ ss. all_before ss (exits_of_clauses g u (clauses_of (map clause_tree (drop (c.each.clause-index + 1) c.args.clauses.now)))))
          c.in_ok-push.ensures.items
          ∙ way_goes_on g u c.each.ways.items c.in_ok-way.way c.args.clauses.now c.each.clause-index clause
          (exits_of_clauses g u (clauses_of (map clause_tree c.args.clauses.now))) c.each-test.true c.clause-item.is (c.each.invariant.each g h has)
          (c.in_ok-way.ensures.exits g follows has);
    }

-- ---- items

pub items_exits-each-preserved : goal.items_exits-each-preserved
items_exits-each-preserved t c =
    let item = c.item-item.result in
    let context = c.args.context in
    let outer = c.args.outer in
    let names = c.each.names in
    let later = c.match-item.names in
    let all = c.args.scope.now in
    let own : (g : Env) → Stands context names outer c.each.scope g → (rest : List OneItem)
    → step_before c.match-item.step (exits_of_items (scope_behind g (item_tree item)) (items_of rest))
    ≡ exits_of_items g (items_of (item_tree item ∷ rest)) =
    elim c.match-item.branch [
      | items_exits-in-Declare+in_ok-declared-in-Declare w ↦ λ g h rest.
          let d = declaration_tree w.in-Declare.declaration.value in
          let is = sym (declare_tree w.in-Declare.declaration) ∙ ap item_tree (sym w.in-Declare.is) in
          ap (λ s. step_before s (exits_of_items (scope_behind g (item_tree item)) (items_of rest))) w.step-is
          ∙ ap (λ i. declared_before w.in_ok-declared-in-Declare.field-0 (exits_of_items (scope_behind g i) (items_of rest))) (sym is)
          ∙ subst (λ e. declared_before w.in_ok-declared-in-Declare.field-0
          (exits_of_items (scope_behind g (OneItem.Declare (declaration_tree e))) (items_of rest))
          ≡ exits_of_items g (items_of (OneItem.Declare (declaration_tree e) ∷ rest))) w.deref.ensures
          (w.in_ok-declared-in-Declare.ensures.before g
          (exits_of_items (scope_behind g (OneItem.Declare (declaration_tree w.deref.result.now))) (items_of rest)) h)
          ∙ ap (λ i. exits_of_items g (items_of (i ∷ rest))) is
      | items_exits-in-Execute+in_ok-exits-in-Execute w ↦ λ g h rest.
          let e = statement_tree w.in-Execute.statement in
          let is = sym (execute_tree w.in-Execute.statement) ∙ ap item_tree (sym w.in-Execute.is) in
          ap (λ s. step_before s (exits_of_items (scope_behind g (item_tree item)) (items_of rest))) w.step-is
          ∙ ap (λ i. exits_in_sequence (exits_of w.in_ok-exits-in-Execute.field-0) (exits_of_items (scope_behind g i) (items_of rest))) (sym is)
          ∙ ap (λ v. exits_in_sequence v (exits_of_items g (items_of rest)))
          (w.in_ok-exits-in-Execute.ensures.exits g
          (record { known = h.stands.known; suits = h.stands.suits; around = h.stands.block.around; locals = h.locals }))
          ∙ ap (λ i. exits_of_items g (items_of (i ∷ rest))) is
    ] in
    let stands : (g : Env) → Stands context names outer c.each.scope g
    → Stands context later outer c.match-item.scope (scope_behind g (item_tree item)) =
    elim c.match-item.branch [
      | items_exits-in-Declare+in_ok-declared-in-Declare w ↦ λ g h. subst (λ s. Stands context later outer s (scope_behind g (item_tree item))) (sym w.scope-is)
          (subst (λ ns. Stands context ns outer w.declared.new.scope (scope_behind g (item_tree item))) (sym w.names-is)
          (subst (λ i. Stands context w.declared.new.names outer w.declared.new.scope (scope_behind g i))
          (sym (declare_tree w.in-Declare.declaration) ∙ ap item_tree (sym w.in-Declare.is))
          (subst (λ e. Stands context w.declared.new.names outer w.declared.new.scope (scope_behind g (OneItem.Declare (declaration_tree e))))
          w.deref.ensures (w.in_ok-declared-in-Declare.ensures.known g h))))
      | items_exits-in-Execute+in_ok-exits-in-Execute w ↦ λ g h. subst (λ s. Stands context later outer s (scope_behind g (item_tree item)))
          (sym (w.scope-is ∙ w.in_ok-exits-in-Execute.ensures.scope))
          (subst (λ ns. Stands context ns outer c.each.scope (scope_behind g (item_tree item)))
          (sym (w.names-is ∙ w.in_ok-exits-in-Execute.ensures.kept))
          (subst (λ i. Stands context names outer c.each.scope (scope_behind g i))
          (sym (execute_tree w.in-Execute.statement) ∙ ap item_tree (sym w.in-Execute.is)) h))
    ] in
    let leaves = c.each.invariant.left (length all.locals) (mark_of all.regions) (grind arith) (grind arith) (grind arith) in
    let longer : length all.locals ≤ length c.each.scope.locals = no_fewer all c.each.scope leaves in
    let more : length all.regions.begun ≤ length c.each.scope.regions.begun = no_fewer_regions all c.each.scope leaves in
    let opened : length all.regions.opened ≤ length c.each.scope.regions.opened = no_fewer_opened all c.each.scope leaves in
    let larger : length c.args.names.now ≤ length names =
    no_fewer_names c.args.names.now names (c.each.invariant.kept (length c.args.names.now) (grind arith)) in
    let same : (count : ℕ) (mark : RegionMark) → count ≤ length c.each.scope.locals → mark.names ≤ length c.each.scope.regions.begun
    → mark.opened ≤ length c.each.scope.regions.opened → left count mark c.match-item.scope ≡ left count mark c.each.scope =
    elim c.match-item.branch [
      | items_exits-in-Declare+in_ok-declared-in-Declare w ↦ λ count mark l m o. ap (left count mark) w.scope-is
          ∙ w.in_ok-declared-in-Declare.ensures.left count mark l m o
      | items_exits-in-Execute+in_ok-exits-in-Execute w ↦ λ count mark l m o. ap (left count mark) (w.scope-is ∙ w.in_ok-exits-in-Execute.ensures.scope)
    ] in
    let kept : (count : ℕ) → count ≤ length names → kept_to count later ≡ kept_to count names =
    elim c.match-item.branch [
      | items_exits-in-Declare+in_ok-declared-in-Declare w ↦ λ count l. ap (kept_to count) w.names-is ∙ w.in_ok-declared-in-Declare.ensures.kept count l
      | items_exits-in-Execute+in_ok-exits-in-Execute w ↦ λ count l. ap (kept_to count) (w.names-is ∙ w.in_ok-exits-in-Execute.ensures.kept)
    ] in
    let items = c.args.items.now in
    let rest = map item_tree (drop (c.each.item-index + 1) items) in
    record {
      each = λ g h.
          let going = c.each.invariant.each g h in
          let whole = exits_of_items g (items_of (map item_tree items)) in
          let longer_by_one = goes_on context names later outer c.each.scope c.match-item.scope c.each.steps.items c.match-item.step items
          c.each.item-index item
          whole c.each-test.true c.item-item.is going (own going.env going.stands) (stands going.env going.stands) in
          record {
            env = longer_by_one.env;
            stands = longer_by_one.stands;
            same = c.in_ok-add_step.ensures (exits_of_items longer_by_one.env (items_of rest)) ∙ longer_by_one.same;
          };
      left = λ count mark l m o. same count mark (grind (arith, l, longer)) (grind (arith, m, more)) (grind (arith, o, opened))
          ∙ c.each.invariant.left count mark l m o;
      kept = λ count l. kept count (grind (arith, l, larger)) ∙ c.each.invariant.kept count l;
    }

-- ---- statements

pub exits-returns-in-Block-clause-exits : goal.exits-returns-in-Block-clause-exits
exits-returns-in-Block-clause-exits t c = λ g h.
    let x = c.in-Block in
    of_statement c.block.result g c.args.statement.now (Statement.Block x.field-0 (items_of (map item_tree x.items.items)))
    (ap statement_tree x.is ∙ block_tree x.field-0 x.items)
    (subst (λ is. IfOk c.block.result (λ w. exits_of w ≡ exits_of_items (block_entered g) (items_of (map item_tree is))))
    c.deref.ensures.value (c.block.ensures.exits g h))

pub exits-returns-in-Run-clause-exits : goal.exits-returns-in-Run-clause-exits
exits-returns-in-Run-clause-exits t c = λ g h.
    let x = c.in-Run in
    of_statement c.run_exits.result g c.args.statement.now (Statement.Run (expression_tree x.value)) (ap statement_tree x.is ∙ run_tree x.value)
    (c.run_exits.ensures g h.known h.locals)

pub exits-returns-in-Exchange-clause-exits : goal.exits-returns-in-Exchange-clause-exits
exits-returns-in-Exchange-clause-exits t c = λ g h.
    let x = c.in-Exchange in
    let l = x.left.value in
    let r = x.right.value in
    of_statement c.exchange_exits.result g c.args.statement.now (Statement.Exchange (expression_tree l) (expression_tree r))
    (ap statement_tree x.is ∙ exchange_tree x.left x.right)
    (subst (λ e. IfOk c.exchange_exits.result (λ w. exits_of w ≡ rules.exits_of g (Statement.Exchange (expression_tree e) (expression_tree r))))
    c.deref-in-Exchange.ensures
    (subst (λ e. IfOk c.exchange_exits.result (λ w. exits_of w
    ≡ rules.exits_of g (Statement.Exchange (expression_tree c.deref-in-Exchange.result.now) (expression_tree e))))
    c.deref-in-Exchange-2.ensures (c.exchange_exits.ensures g h.known h.locals)))

pub exits-returns-in-If-clause-exits : goal.exits-returns-in-If-clause-exits
exits-returns-in-If-clause-exits t c = λ g h.
    let x = c.in-If in
    let e = expression_tree x.condition in
    let s = statement_tree x.body.value in
    let either = ap (λ w. either_exits w (exits_of c.ends-in-If.result)) (ap (λ b. rules.exits_of g (statement_tree b)) c.deref-in-If.ensures)
    ∙ ap (either_exits (rules.exits_of g s)) c.ends-in-If.ensures in
    of_statement c.if_exits.result g c.args.statement.now (Statement.If x.field-0 e s)
    (ap statement_tree x.is ∙ if_tree x.field-0 x.condition x.body)
    (answers_as c.if_exits.result _ (rules.exits_of g (Statement.If x.field-0 e s)) (ap (with_passage (uses_of g e).look) either)
    (c.if_exits.ensures.exits g h))

pub exits-returns-in_ok-otherwise-in-IfElse-clause-exits : goal.exits-returns-in_ok-otherwise-in-IfElse-clause-exits
exits-returns-in_ok-otherwise-in-IfElse-clause-exits t c = λ g h.
    let x = c.in-IfElse in
    let e = expression_tree x.condition in
    let s = statement_tree x.body.value in
    let o = statement_tree x.otherwise.value in
    let other = c.in_ok-otherwise-in-IfElse.ensures in
    let after = still_follows c.args.context c.args.names.now c.exits.new.names c.args.scope.now c.exits.new.scope g other.scope other.kept h in
    let either = ap (λ w. either_exits w (exits_of c.in_ok-otherwise-in-IfElse.otherwise))
    (ap (λ b. rules.exits_of g (statement_tree b)) c.deref-in-IfElse-2.ensures)
    ∙ ap (either_exits (rules.exits_of g s)) (other.exits g h ∙ ap (λ b. rules.exits_of g (statement_tree b)) c.deref-in-IfElse.ensures) in
    of_statement c.if_exits-in-IfElse.result g c.args.statement.now (Statement.IfElse x.field-0 e s o)
    (ap statement_tree x.is ∙ if_else_tree x.field-0 x.condition x.body x.otherwise)
    (answers_as c.if_exits-in-IfElse.result _ (rules.exits_of g (Statement.IfElse x.field-0 e s o)) (ap (with_passage (uses_of g e).look) either)
    (c.if_exits-in-IfElse.ensures.exits g after))

pub exits-returns-in-While-clause-exits : goal.exits-returns-in-While-clause-exits
exits-returns-in-While-clause-exits t c = λ g h.
    let x = c.in-While in
    let e = expression_tree x.condition in
    let s = statement_tree x.body.value in
    of_statement c.while_exits.result g c.args.statement.now (Statement.While x.field-0 e s)
    (ap statement_tree x.is ∙ while_tree x.field-0 x.condition x.body)
    (answers_as c.while_exits.result _ (rules.exits_of g (Statement.While x.field-0 e s))
    (ap (λ b. loop_exits (uses_of g e).look (rules.exits_of (in_a_loop g) (statement_tree b))) c.deref-in-While.ensures)
    (c.while_exits.ensures.exits g h))

pub exits-returns-in-Switch-clause-exits : goal.exits-returns-in-Switch-clause-exits
exits-returns-in-Switch-clause-exits t c = λ g h.
    let x = c.in-Switch in
    let e = expression_tree x.place in
    let cs = clauses_of (map clause_tree x.clauses.items) in
    of_statement c.switch_exits.result g c.args.statement.now (Statement.Switch x.field-0 e cs)
    (ap statement_tree x.is ∙ switch_tree x.field-0 x.place x.clauses)
    (answers_as c.switch_exits.result _ (rules.exits_of g (Statement.Switch x.field-0 e cs))
    (ap (λ (l : List Clause). with_passage (uses_of g e).look (switch_left (exits_of_clauses (in_a_switch g) (chosen (judge g e))
    (clauses_of (map clause_tree l))))) c.deref-in-Switch.ensures.value)
    (c.switch_exits.ensures.exits g h))

pub exits-returns-in-Return-clause-exits : goal.exits-returns-in-Return-clause-exits
exits-returns-in-Return-clause-exits t c = λ g h.
    let x = c.in-Return in
    of_statement c.return_exits.result g c.args.statement.now (Statement.Return x.field-0 (option_map expression_tree x.value))
    (ap statement_tree x.is ∙ return_tree x.field-0 x.value) (c.return_exits.ensures g h.known h.locals)

pub exits-returns-in-FreeUnique-clause-exits : goal.exits-returns-in-FreeUnique-clause-exits
exits-returns-in-FreeUnique-clause-exits t c = λ g h.
    let x = c.in-FreeUnique in
    of_statement c.free_exits.result g c.args.statement.now (Statement.FreeUnique x.at (name_tree x.pointer))
    (ap statement_tree x.is ∙ free_unique_tree x.at x.pointer) (c.free_exits.ensures g h.locals)

pub exits-returns-in-FreeKey-clause-exits : goal.exits-returns-in-FreeKey-clause-exits
exits-returns-in-FreeKey-clause-exits t c = λ g h.
    let x = c.in-FreeKey in
    of_statement c.free_exits-in-FreeKey.result g c.args.statement.now (Statement.FreeKey x.at (name_tree x.key))
    (ap statement_tree x.is ∙ free_key_tree x.at x.key) (c.free_exits-in-FreeKey.ensures g h.locals)

-- ---- statements with others in them

pub if_exits-returns-clause-exits : goal.if_exits-returns-clause-exits
if_exits-returns-clause-exits t c = λ g h.
    let look = (uses_of g (expression_tree c.args.condition.now)).look in
    let other = exits_of c.args.otherwise in
    let body = c.in_ok-body.ensures in
    let after = still_follows c.args.context c.args.names.now c.exits.new.names c.args.scope.now c.exits.new.scope g body.scope body.kept h in
    answers_as c.either_after.result _ (with_passage look (either_exits (rules.exits_of g (statement_tree c.args.body.now)) other))
    (ap (λ w. with_passage look (either_exits w other)) (body.exits g h)) (c.either_after.ensures g after.known after.locals)

pub while_exits-returns-clause-exits : goal.while_exits-returns-clause-exits
while_exits-returns-clause-exits t c = λ g h.
    let look = (uses_of g (expression_tree c.args.condition.now)).look in
    let body = c.in_ok-body.ensures.exits (in_a_loop g)
    (loop_follows c.args.context c.looping.result c.args.names.now c.args.scope.now g h c.looping.ensures) in
    answers_as c.loop_of.result _ (loop_exits look (rules.exits_of (in_a_loop g) (statement_tree c.args.body.now)))
    (ap (λ p. loop_exits p (exits_of c.in_ok-body.body)) (c.in_ok-condition.ensures g h.known h.locals) ∙ ap (loop_exits look) body) c.loop_of.ensures

pub switch_exits-returns-clause-exits : goal.switch_exits-returns-clause-exits
switch_exits-returns-clause-exits t c = λ g h.
    let all = c.args.scope.now in
    let e = expression_tree c.args.place.now in
    let cs = clauses_of (map clause_tree c.args.clauses.now) in
    let ways = c.in_ok-ways.ensures in
    let after = still_follows c.args.context c.args.names.now c.switched.new.names all c.switched.new.scope g ways.scope ways.kept h in
    let union = c.union_of-union.ensures.union (judge g e) (c.in_ok-judged.ensures g h.known) in
    let clauses = ways.exits (in_a_switch g) (switch_follows c.args.context c.switching.result c.args.names.now all g h c.switching.ensures)
    (c.union_of-union.ensures.parts (in_a_switch g) h.known.tags)
    ∙ ap (λ u. exits_of_clauses (in_a_switch g) u cs) union in
    answers_as c.switch_after.result _ (with_passage (uses_of g e).look (switch_left (exits_of_clauses (in_a_switch g) (chosen (judge g e)) cs)))
    (ap (λ w. with_passage (uses_of g e).look (switch_left w)) clauses) (c.switch_after.ensures g after.known after.locals)
