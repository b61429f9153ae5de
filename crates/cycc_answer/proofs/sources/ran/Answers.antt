use Rattle.std.proofs.Common.{◌≡◌, ℕ, inl}
use Rattle.std.proofs.lemmas.Result.{IfOk-weaker}
use Rattle.cycc_answer.specs.Statuses.{status_of}
use Rattle.cycc_answer.specs.Answers.{IsRun}
use Rattle.cycc_answer.proofs.Counts.{of_run}
use Rattle.cycc_answer.proofs.sources.ran.Goals as goal

pub returns-in-Ok-clause-run : goal.returns-in-Ok-clause-run
returns-in-Ok-clause-run g c =
    IfOk-weaker c.ended.result (λ (status : ℕ). status ≡ status_of c.in-Ok.ending)
    (IsRun c.args.file.now c.args.limits.pages c.args.limits.stack_pages c.args.limits.steps (g.R.Read.remaining c.args.reader.now)
    (g.R.Read.remaining c.execute.new.reader)
    (g.W.Write.contents c.args.writer.now) (g.W.Write.contents c.execute.new.writer))
    (λ status shown. inl (record { why = c.in-Ok.ending; run = c.in-Ok.ensures.run; memory = c.in-Ok.ensures.memory; shown = shown })) c.ended.ensures

pub returns-in-Ok-clause-devices : goal.returns-in-Ok-clause-devices
returns-in-Ok-clause-devices g c =
    of_run c.ended.result _ _ _ _ c.in-Ok.ending c.ended.ensures c.in-Ok.ensures.reads c.in-Ok.ensures.writes
