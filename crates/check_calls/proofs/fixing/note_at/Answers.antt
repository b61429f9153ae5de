use Rattle.std.proofs.Common.{arith}
use Rattle.check_calls.proofs.Fixes.{one_noted, past_noted, stays_noted}
use Rattle.check_calls.proofs.fixing.note_at.Goals as goal

pub returns-then-is_none : goal.returns-then-is_none
returns-then-is_none c =
    one_noted c.args.fixings.now.items c.args.variable c.args.fixing c.index.result.now
    (omega (arith, c.if-variable-len.true, c.len.ensures)) c.index.ensures c.if-is_none.ensures

pub returns-else-is_none : goal.returns-else-is_none
returns-else-is_none c =
    stays_noted c.args.fixings.now.items c.args.variable c.args.fixing c.index.result.now
    (omega (arith, c.if-variable-len.true, c.len.ensures)) c.index.ensures c.if-is_none.ensures

pub returns-else-variable-len : goal.returns-else-variable-len
returns-else-variable-len c = past_noted c.args.fixings.now.items c.args.variable c.args.fixing (omega (arith, c.if-variable-len.false, c.len.ensures))
