use Rattle.std.proofs.Common.{◌≡◌, ap, ◌∙◌, sym, subst, rules}
use Rattle.core_meaning.specs.Core.{If, NoStatements, Statement}
use Rattle.cyc_core.specs.Trees.{body_tree, failure_body, optional_tree, statement_tree}
use Rattle.core_eval.specs.Pendings.{Execute, next_of, optional_value, waits_of}
use Rattle.core_eval.specs.Standing.{known_of}
use Rattle.core_eval.specs.Costs.{IsMove}
use Rattle.core_eval.proofs.Entered.{block_answer, breakable_answer}
use Rattle.cyc_core.proofs.Forms.{block_tree, check_tree, leave_tree, return_tree}
use Rattle.core_eval.proofs.Returning.{return_answer}
use Rattle.core_eval.proofs.enter.enter_statement.Goals as goal

pub returns-in-Check : goal.returns-in-Check
returns-in-Check c =
    let is : statement_tree c.args.statement.now ≡ If c.in-Check.test.0 NoStatements (failure_body c.in-Check.failure) =
    ap statement_tree c.in-Check.is ∙ check_tree c.in-Check.test c.in-Check.failure c.in-Check.origin in
    subst (λ (s : Statement). IsMove (Execute s) (waits_of c.args.stack.now.items) (known_of c.args.frame.now c.args.memory.now)
    (next_of c.check.result) (waits_of c.args.stack.now.items) (known_of c.check.new.frame c.args.memory.now)) (sym is)
    (c.check.ensures (waits_of c.args.stack.now.items) c.args.memory.now)

pub returns-in-Block : goal.returns-in-Block
returns-in-Block c =
    let locals : c.deref-in-Block-2.result.now ≡ c.in-Block.block.value.0.items = search rules in
    let body : c.deref-in-Block-4.result.now ≡ c.in-Block.block.value.1.items = search rules in
    block_answer c.enter_block.result c.args.frame.now c.args.memory.now c.enter_block.new.memory (statement_tree c.args.statement.now)
    c.in-Block.block.value.0.items c.deref-in-Block-2.result.now (body_tree c.in-Block.block.value.1.items) (body_tree c.deref-in-Block-4.result.now)
    (waits_of c.args.stack.now.items) _ (ap statement_tree c.in-Block.is ∙ block_tree c.in-Block.block) locals (ap body_tree body)
    c.enter_block.ensures.next c.enter_block.ensures.waits c.enter_block.ensures.blocks c.enter_block.ensures.entered c.enter_block.ensures.owns
    c.enter_block.ensures.called
    c.enter_block.ensures.globals c.enter_block.ensures.regions c.enter_block.ensures.long_blocks

pub returns-in-Leave : goal.returns-in-Leave
returns-in-Leave c =
    breakable_answer c.enter_breakable.result (known_of c.args.frame.now c.args.memory.now) (statement_tree c.args.statement.now)
    (body_tree c.in-Leave.body.items) (body_tree c.deref-in-Leave.result.now) (waits_of c.args.stack.now.items) _
    (ap statement_tree c.in-Leave.is ∙ leave_tree c.in-Leave.body)
    (ap body_tree c.deref-in-Leave.ensures.value) c.enter_breakable.ensures.next c.enter_breakable.ensures.waits

pub returns-in_ok-values-in-Return : goal.returns-in_ok-values-in-Return
returns-in_ok-values-in-Return c =
    return_answer c.leave_function.result (statement_tree c.args.statement.now) (optional_tree c.in-Return.words)
    (optional_value c.in_ok-values-in-Return.values)
    (waits_of c.args.stack.now.items) (known_of c.args.frame.now c.args.memory.now) _ _
    (ap statement_tree c.in-Return.is ∙ return_tree c.in-Return.words c.in-Return.field-1)
    c.in_ok-values-in-Return.ensures c.leave_function.ensures
