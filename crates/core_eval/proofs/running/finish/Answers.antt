use Rattle.std.proofs.Common.{sym, ◌∙◌}
use Rattle.core_eval.proofs.Endings.{wrote_all, written_well}
use Rattle.core_eval.proofs.running.finish.Goals as goal

pub returns-in-Ok-clause-written : goal.returns-in-Ok-clause-written
returns-in-Ok-clause-written g c = wrote_all c.args.ending _ _ _ c.in-Ok.ensures.all

pub returns-in-Ok-clause-writes : goal.returns-in-Ok-clause-writes
returns-in-Ok-clause-writes g c = c.in-Ok.ensures.counted ∙ sym (written_well c.args.ending _ c.requires)

pub returns-in-Err-clause-written : goal.returns-in-Err-clause-written
returns-in-Err-clause-written g c = c.in-Err.ensures.some

pub returns-in-Err-clause-writes : goal.returns-in-Err-clause-writes
returns-in-Err-clause-writes g c = c.in-Err.ensures.counted
