use Rattle.std.proofs.Common.{◌≡◌, ◌≤◌, ◌++◌, length, map, drop, List}
use Rattle.cyc_tree.specs.View.{clause_tree, clauses_of, item_tree, items_of}
use Rattle.source_meaning.specs.Programs.{world_of}
use Rattle.source_meaning.specs.Shapes.{Part, parts_of}
use Rattle.source_lowering.specs.Programs.{block_shapes, case_values, cases_code, default_code, default_values, item_values, items_code}
use Rattle.source_lowering.specs.Lowerable.{TakesClauses, TakesItems}
use Rattle.cyc_tree.specs.Room.{clause_room, item_room}
use Rattle.lower_checks.specs.Counted.{IsCounted}
use Rattle.lower_checks.specs.Room.{HasRoom}
use Rattle.lower_checks.specs.Views.{regions_tree, shape_tree, stored_tree}
use Rattle.lower_checks.specs.Visible.{left, names_of}
use Rattle.lower_checks.specs.Writing.{IsLeft, IsSound, next_of}
use Rattle.lower_checks.proofs.Items.{ending_items}
use Rattle.lower_checks.proofs.+statement.Given as goal

-- What is written, the code of the items that are left among the locals and regions so far, and what leaves the regions that were opened, is the code of
-- all; and so for the shapes.
abbrev pub invariant-statement::lower_items-each : goal.invariant-statement::lower_items-each
invariant-statement::lower_items-each l =
    let w = world_of l.program in
    let result = shape_tree l.shape in
    let all = items_of (map item_tree l.items) in
    let others = items_of (map item_tree (drop l.item-index l.items)) in
    let first = length l.initial.declared_here.items in
    let index = length l.declared_here.items in
    record {
      written : IsSound l.body → record {
        within : l.around.all ≤ l.regions.all;
        code : IsLeft l.initial.body l.body
            (items_code w result (names_of l.initial.locals) (regions_tree l.around l.opened) first (next_of l.initial.body) all)
            (ending_items w result (names_of l.locals) (regions_tree l.regions l.all.items) l.around.all index (next_of l.body) others)
            (item_values w (names_of l.initial.locals) first all) (item_values w (names_of l.locals) index others);
        shapes : map stored_tree l.declared_here.items ++ block_shapes w (names_of l.locals) index others
            ≡ map stored_tree l.initial.declared_here.items ++ block_shapes w (names_of l.initial.locals) first all;
        left : left l.locals ≡ left l.initial.locals;
        taken : TakesItems w result (names_of l.locals) index others;
      };
      room : HasRoom l.regions.all (item_room others);
      counted : IsCounted l.regions;
    }

-- what is written, and the code of the clauses that are left, is the code of all
abbrev pub invariant-switch::lower_cases-each : goal.invariant-switch::lower_cases-each
invariant-switch::lower_cases-each l =
    let w = world_of l.program in
    let result = shape_tree l.shape in
    let names = names_of l.initial.locals in
    let h = regions_tree l.around l.opened in
    let parts = parts_of w.unions l.tag in
    let all = clauses_of (map clause_tree l.clauses) in
    let others = clauses_of (map clause_tree (drop l.clause-index l.clauses)) in
    record {
      written : IsSound l.body → record {
        locals : l.locals ≡ l.initial.locals;
        code : IsLeft l.initial.body l.body (cases_code w result names h parts (next_of l.initial.body) all)
            (cases_code w result names h parts (next_of l.body) others) (case_values w names parts all) (case_values w names parts others);
        taken : TakesClauses w result names parts others;
      };
      room : HasRoom l.around.all (clause_room others);
    }

-- no clause so far was a `default`
abbrev pub invariant-switch::lower_default-each : goal.invariant-switch::lower_default-each
invariant-switch::lower_default-each l =
    let w = world_of l.program in
    let result = shape_tree l.shape in
    let names = names_of l.initial.locals in
    let h = regions_tree l.around l.opened in
    let own = next_of l.initial.body in
    let all = clauses_of (map clause_tree l.clauses) in
    let others = clauses_of (map clause_tree (drop l.clause-index l.clauses)) in
    record {
      body : l.body ≡ l.initial.body;
      locals : l.locals ≡ l.initial.locals;
      code : default_code w result names h own others ≡ default_code w result names h own all;
      values : default_values w names others ≡ default_values w names all;
      taken : IsSound l.body → (parts : List Part) × TakesClauses w result names parts others;
      room : HasRoom l.around.all (clause_room others);
    }
