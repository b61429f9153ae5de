use Rattle.std.proofs.Common.{◌∙◌, sym, map}
use Rattle.cyc_core.specs.Trees.{statement_tree}
use Rattle.cyc_tree.specs.View.{expression_tree}
use Rattle.source_lowering.specs.Lowered.{expression_code, expression_values}
use Rattle.lower_checks.specs.Scoped.{names_in, world_in}
use Rattle.lower_checks.specs.Writing.{next_of}
use Rattle.lower_checks.proofs.Writing.{part_apart, part_is}
use Rattle.lower_checks.proofs.statement.lower_test.Goals as goal

pub returns-clause-apart : goal.returns-clause-apart
returns-clause-apart c sound =
    let w = world_in c.args.scope.now in
    let names = names_in c.args.scope.now in
    let e = expression_tree c.args.condition.now in
    let b = c.begin-outer.new.self in
    let ended = c.end.ensures.ended in
    part_apart c.args.body.now b c.lower_condition.new.body c.end.new.self (map statement_tree c.begin-outer.result.items)
    (expression_code w names e c.args.to.0 (next_of b)) (expression_values w names e) c.begin-outer.ensures.begun c.begin-outer.ensures.aside
    (c.lower_condition.ensures.writes (sym ended.failed ∙ sound)) ended

pub returns-clause-part : goal.returns-clause-part
returns-clause-part c sound =
    let w = world_in c.args.scope.now in
    let names = names_in c.args.scope.now in
    let e = expression_tree c.args.condition.now in
    part_is c.args.body.now c.begin-outer.new.self c.lower_condition.new.body (map statement_tree c.end.result.items)
    (λ n. expression_code w names e c.args.to.0 n) (expression_values w names e) c.begin-outer.ensures.begun
    (c.lower_condition.ensures.writes (sym c.end.ensures.ended.failed ∙ sound)) c.end.ensures.part
