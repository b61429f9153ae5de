-- The parts of a statement have the room that it has.
use Rattle.std.proofs.Common.{rules, ◌≡◌, ◌∙◌, ◌+◌, arith, sym, ap, subst, map}
use Rattle.cyc_tree.specs.Tree.{BlockItems, Statement}
use Rattle.cyc_tree.specs.View.{expression_tree, item_tree, items_of, statement_tree as source_tree}
use Rattle.cyc_tree.specs.declared.statement.BlockItem.TheFolds.{the_lemmas}
use Rattle.cyc_tree.proofs.StatementForms.{block_tree, if_tree, if_else_tree, while_tree}
use Rattle.source_meaning.specs.Programs.{world_of}
use Rattle.source_lowering.specs.Programs.{outward}
use Rattle.source_lowering.specs.Lowerable.{TakesItems, TakesStatement}
use Rattle.cyc_tree.specs.Room.{item_room, room as room_of, statement_room}
use Rattle.lower_checks.specs.Counted.{IsCounted}
use Rattle.lower_checks.specs.Room.{HasRoom}
use Rattle.lower_checks.specs.Views.{shape_tree}
use Rattle.lower_checks.specs.Visible.{names_of}
use Rattle.lower_checks.specs.Writing.{IsSound}
use Rattle.lower_checks.proofs.+statement.Goals as goal

-- a block's items
pub statement::lower_statement-lower_block-requires : goal.statement::lower_statement-lower_block-requires
statement::lower_statement-lower_block-requires t c =
    let w = world_of c.args.program.now in
    let result = shape_tree c.args.shape.now in
    let names = names_of c.args.locals.now in
    let around = c.args.around in
    let items = items_of (map item_tree c.in-Block.items.items) in
    let is = ap source_tree c.in-Block.is ∙ block_tree c.in-Block.field-0 c.in-Block.items in
    let both : HasRoom around.all (16 + item_room items) =
    subst (λ (s : Statement). HasRoom around.all (statement_room s)) is c.requires.room in
    let its = items_of (map item_tree c.deref.result.now) in
    let items_are : items ≡ its = ap (λ is. items_of (map item_tree is)) (sym c.deref.ensures.value) in
    let room : HasRoom around.all (item_room its) = subst (λ (q : BlockItems). HasRoom around.all (item_room q)) items_are (omega (arith, both)) in
    let counted : IsCounted around = c.requires.counted in
    let taken : IsSound c.args.body.now → TakesItems w result (outward names) 0 its = λ sound.
    subst (λ (q : BlockItems). TakesItems w result (outward names) 0 q) items_are (subst (TakesStatement w result names) is (c.requires.taken sound)) in
    search (rules, the_lemmas, room, counted, taken)

-- a choice's condition and its part
pub statement::lower_statement-lower_condition-requires : goal.statement::lower_statement-lower_condition-requires
statement::lower_statement-lower_condition-requires t c =
    let w = world_of c.args.program.now in
    let result = shape_tree c.args.shape.now in
    let names = names_of c.args.locals.now in
    let around = c.args.around in
    let condition = expression_tree c.in-If.condition in
    let these = source_tree c.in-If.these.value in
    let is = ap source_tree c.in-If.is ∙ if_tree c.in-If.field-0 c.in-If.condition c.in-If.these in
    let both : HasRoom around.all (16 + (room_of condition + statement_room these)) =
    subst (λ (s : Statement). HasRoom around.all (statement_room s)) is c.requires.room in
    record {
      room = omega (arith, both, c.value-to.ensures);
      taken = λ sound. (subst (TakesStatement w result names) is (c.requires.taken sound)).0;
    }

pub statement::lower_statement-lower_part-these-requires : goal.statement::lower_statement-lower_part-these-requires
statement::lower_statement-lower_part-these-requires t c =
    let w = world_of c.args.program.now in
    let result = shape_tree c.args.shape.now in
    let names = names_of c.args.locals.now in
    let around = c.args.around in
    let condition = expression_tree c.in-If.condition in
    let these = source_tree c.in-If.these.value in
    let is = ap source_tree c.in-If.is ∙ if_tree c.in-If.field-0 c.in-If.condition c.in-If.these in
    let both : HasRoom around.all (16 + (room_of condition + statement_room these)) =
    subst (λ (s : Statement). HasRoom around.all (statement_room s)) is c.requires.room in
    let part = source_tree c.deref-in-If.result.now in
    let part_is : these ≡ part = sym (ap source_tree c.deref-in-If.ensures) in
    let room : HasRoom around.all (statement_room part) =
    subst (λ (s : Statement). HasRoom around.all (statement_room s)) part_is (omega (arith, both)) in
    let counted : IsCounted around = c.requires.counted in
    let taken : IsSound c.lower_condition.new.body → TakesStatement w result names part = λ sound.
    let whole = subst (TakesStatement w result names) is (c.requires.taken (c.lower_condition.ensures.writes sound).sound) in
    subst (TakesStatement w result names) part_is whole.1 in
    search (rules, the_lemmas, room, counted, taken)

-- one with two parts
pub statement::lower_statement-lower_condition-requires-in-IfElse : goal.statement::lower_statement-lower_condition-requires-in-IfElse
statement::lower_statement-lower_condition-requires-in-IfElse t c =
    let w = world_of c.args.program.now in
    let result = shape_tree c.args.shape.now in
    let names = names_of c.args.locals.now in
    let around = c.args.around in
    let condition = expression_tree c.in-IfElse.condition in
    let these = source_tree c.in-IfElse.these.value in
    let those = source_tree c.in-IfElse.those.value in
    let is = ap source_tree c.in-IfElse.is ∙ if_else_tree c.in-IfElse.field-0 c.in-IfElse.condition c.in-IfElse.these c.in-IfElse.those in
    let both : HasRoom around.all (16 + (room_of condition + (statement_room these + statement_room those))) =
    subst (λ (s : Statement). HasRoom around.all (statement_room s)) is c.requires.room in
    record {
      room = omega (arith, both, c.value-to.ensures);
      taken = λ sound. (subst (TakesStatement w result names) is (c.requires.taken sound)).0;
    }

pub statement::lower_statement-lower_part-these-requires-in-IfElse : goal.statement::lower_statement-lower_part-these-requires-in-IfElse
statement::lower_statement-lower_part-these-requires-in-IfElse t c =
    let w = world_of c.args.program.now in
    let result = shape_tree c.args.shape.now in
    let names = names_of c.args.locals.now in
    let around = c.args.around in
    let condition = expression_tree c.in-IfElse.condition in
    let these = source_tree c.in-IfElse.these.value in
    let those = source_tree c.in-IfElse.those.value in
    let is = ap source_tree c.in-IfElse.is ∙ if_else_tree c.in-IfElse.field-0 c.in-IfElse.condition c.in-IfElse.these c.in-IfElse.those in
    let both : HasRoom around.all (16 + (room_of condition + (statement_room these + statement_room those))) =
    subst (λ (s : Statement). HasRoom around.all (statement_room s)) is c.requires.room in
    let part = source_tree c.deref-in-IfElse.result.now in
    let part_is : these ≡ part = sym (ap source_tree c.deref-in-IfElse.ensures) in
    let room : HasRoom around.all (statement_room part) =
    subst (λ (s : Statement). HasRoom around.all (statement_room s)) part_is (omega (arith, both)) in
    let counted : IsCounted around = c.requires.counted in
    let taken : IsSound c.lower_condition-in-IfElse.new.body → TakesStatement w result names part = λ sound.
    let whole = subst (TakesStatement w result names) is (c.requires.taken (c.lower_condition-in-IfElse.ensures.writes sound).sound) in
    subst (TakesStatement w result names) part_is whole.1.0 in
    search (rules, the_lemmas, room, counted, taken)

pub statement::lower_statement-lower_part-those-requires : goal.statement::lower_statement-lower_part-those-requires
statement::lower_statement-lower_part-those-requires t c =
    let w = world_of c.args.program.now in
    let result = shape_tree c.args.shape.now in
    let names = names_of c.args.locals.now in
    let around = c.args.around in
    let condition = expression_tree c.in-IfElse.condition in
    let these = source_tree c.in-IfElse.these.value in
    let those = source_tree c.in-IfElse.those.value in
    let is = ap source_tree c.in-IfElse.is ∙ if_else_tree c.in-IfElse.field-0 c.in-IfElse.condition c.in-IfElse.these c.in-IfElse.those in
    let both : HasRoom around.all (16 + (room_of condition + (statement_room these + statement_room those))) =
    subst (λ (s : Statement). HasRoom around.all (statement_room s)) is c.requires.room in
    let part = source_tree c.deref-in-IfElse-2.result.now in
    let part_is : those ≡ part = sym (ap source_tree c.deref-in-IfElse-2.ensures) in
    let room : HasRoom around.all (statement_room part) =
    subst (λ (s : Statement). HasRoom around.all (statement_room s)) part_is (omega (arith, both)) in
    let counted : IsCounted around = c.requires.counted in
    let taken : IsSound c.lower_part-these-in-IfElse.new.body → TakesStatement w result (names_of c.lower_part-these-in-IfElse.new.locals) part = λ sound.
    let first = c.lower_part-these-in-IfElse.ensures.apart sound in
    let whole = subst (TakesStatement w result names) is (c.requires.taken (c.lower_condition-in-IfElse.ensures.writes first.sound).sound) in
    subst (λ ms. TakesStatement w result (names_of ms) part) (sym (c.lower_part-these-in-IfElse.ensures.kept sound))
    (subst (TakesStatement w result names) part_is whole.1.1) in
    search (rules, the_lemmas, room, counted, taken)

-- a loop's condition and its turn
pub statement::lower_statement-lower_test-test-requires : goal.statement::lower_statement-lower_test-test-requires
statement::lower_statement-lower_test-test-requires t c =
    let w = world_of c.args.program.now in
    let result = shape_tree c.args.shape.now in
    let names = names_of c.args.locals.now in
    let around = c.args.around in
    let condition = expression_tree c.in-While.condition in
    let turn = source_tree c.in-While.turn.value in
    let is = ap source_tree c.in-While.is ∙ while_tree c.in-While.field-0 c.in-While.condition c.in-While.turn in
    let both : HasRoom around.all (16 + (room_of condition + statement_room turn)) =
    subst (λ (s : Statement). HasRoom around.all (statement_room s)) is c.requires.room in
    record {
      room = omega (arith, both, c.value-to.ensures);
      taken = λ sound. (subst (TakesStatement w result names) is (c.requires.taken sound)).0;
    }

pub statement::lower_statement-lower_part-turn-requires : goal.statement::lower_statement-lower_part-turn-requires
statement::lower_statement-lower_part-turn-requires t c =
    let w = world_of c.args.program.now in
    let result = shape_tree c.args.shape.now in
    let names = names_of c.args.locals.now in
    let around = c.args.around in
    let condition = expression_tree c.in-While.condition in
    let turn = source_tree c.in-While.turn.value in
    let is = ap source_tree c.in-While.is ∙ while_tree c.in-While.field-0 c.in-While.condition c.in-While.turn in
    let both : HasRoom around.all (16 + (room_of condition + statement_room turn)) =
    subst (λ (s : Statement). HasRoom around.all (statement_room s)) is c.requires.room in
    let part = source_tree c.deref-in-While.result.now in
    let part_is : turn ≡ part = sym (ap source_tree c.deref-in-While.ensures) in
    let all_is : c.in_loop.result.all ≡ around.all = c.in_loop.ensures.all in
    let room : HasRoom c.in_loop.result.all (statement_room part) =
    subst (λ (s : Statement). HasRoom c.in_loop.result.all (statement_room s)) part_is (omega (arith, both, all_is)) in
    let counted : IsCounted c.in_loop.result = c.in_loop.ensures.counted in
    let taken : IsSound c.lower_test-test.new.body → TakesStatement w result names part = λ sound.
    let whole = subst (TakesStatement w result names) is (c.requires.taken (c.lower_test-test.ensures.apart sound).sound) in
    subst (TakesStatement w result names) part_is whole.1 in
    search (rules, the_lemmas, room, counted, taken)
