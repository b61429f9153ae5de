use Rattle.std.proofs.Common.{◌∙◌, sym}
use Rattle.core_eval.proofs.Answered.{put_answer, unput_answer}
use Rattle.core_eval.proofs.operation.put.Goals as goal

pub returns-then-is_put : goal.returns-then-is_put
returns-then-is_put c =
    λ ws. put_answer c.args.frame.now c.args.memory.now c.set_local.new.self c.args.from.0 c.temp-value.result c.in_ok-is_put.is_put c.temp-value.ensures
    c.in_ok-is_put.ensures.entered c.in_ok-is_put.ensures.called ws c.in_ok-is_put.ensures.owns c.in_ok-is_put.ensures.globals
    c.in_ok-is_put.ensures.regions c.in_ok-is_put.ensures.long_blocks c.args.to.out c.args.to.index c.args.width c.in_ok-is_put.ensures.blocks c.if-is_put.true

pub returns-in-None : goal.returns-in-None
returns-in-None c =
    λ ws. unput_answer c.args.frame.now c.args.memory.now c.set_local.new.self c.args.from.0 c.temp-value.result c.in_ok-is_put.is_put c.temp-value.ensures
    c.in_ok-is_put.ensures.entered c.in_ok-is_put.ensures.called ws c.in_ok-is_put.ensures.owns c.in_ok-is_put.ensures.globals
    c.in_ok-is_put.ensures.regions c.in_ok-is_put.ensures.long_blocks c.args.to.out c.args.to.index c.args.width (c.in_ok-is_put.ensures.kept c.if-is_put.false)
    (sym c.local.ensures ∙ c.in-None.is)
