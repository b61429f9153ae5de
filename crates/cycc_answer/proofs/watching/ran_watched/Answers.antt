use Rattle.std.proofs.Common.{◌≡◌, ℕ, inl}
use Rattle.std.proofs.lemmas.Result.{IfOk-weaker}
use Rattle.cycc_answer.specs.Statuses.{status_of}
use Rattle.cycc_answer.specs.Answers.{IsRun}
use Rattle.cycc_answer.proofs.Counts.{if_refused, of_run}
use Rattle.cycc_answer.proofs.watching.ran_watched.Goals as goal

pub returns-in-Ok-clause-run : goal.returns-in-Ok-clause-run
returns-in-Ok-clause-run g c =
    IfOk-weaker c.told_of.result (λ (status : ℕ). status ≡ status_of c.in-Ok.watched.ending)
    (IsRun c.args.file.now c.args.limits.pages c.args.limits.stack_pages c.args.limits.steps (g.R.Read.remaining c.args.reader.now)
    (g.R.Read.remaining c.execute_watched.new.reader)
    (g.W.Write.contents c.args.writer.now) (g.W.Write.contents c.execute_watched.new.writer))
    (λ status shown. inl (record { why = c.in-Ok.watched.ending; run = c.in-Ok.ensures.run; memory = c.in-Ok.ensures.memory; shown = shown })) c.told_of.ensures

pub returns-in-Ok-clause-devices : goal.returns-in-Ok-clause-devices
returns-in-Ok-clause-devices g c =
    of_run c.told_of.result _ _ _ _ c.in-Ok.watched.ending c.told_of.ensures c.in-Ok.ensures.reads c.in-Ok.ensures.writes

pub returns-in-Ok-clause-untouched : goal.returns-in-Ok-clause-untouched
returns-in-Ok-clause-untouched g c = if_refused _ c.told_of.result c.in-Ok.watched.ending c.told_of.ensures
