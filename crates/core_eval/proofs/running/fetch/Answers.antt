use Rattle.std.proofs.Common.{sym, ◌∙◌}
use Rattle.cyc_host.proofs.Transfers.{of_ok}
use Rattle.core_eval.proofs.running.fetch.Goals as goal

pub returns-in-Ok-clause-empty : goal.returns-in-Ok-clause-empty
returns-in-Ok-clause-empty g c = c.flush.ensures.empty

pub returns-in-Ok-clause-all : goal.returns-in-Ok-clause-all
returns-in-Ok-clause-all g c = of_ok c.flush.result c.flush.ensures.all (sym c.is_err.ensures.value ∙ c.if-is_err.false)

pub returns-in-Ok-clause-answer : goal.returns-in-Ok-clause-answer
returns-in-Ok-clause-answer g c = c.in-Ok.ensures.answer

pub returns-in-Ok-clause-reads : goal.returns-in-Ok-clause-reads
returns-in-Ok-clause-reads g c = c.in-Ok.ensures.counted
