use Rattle.cycc_answer.proofs.Bounded.{counted_within, if_told_refused, of_told}
use Rattle.cycc_answer.proofs.sources.interpreted.Goals as goal

pub returns-in-Ok-clause-evaluated : goal.returns-in-Ok-clause-evaluated
returns-in-Ok-clause-evaluated g c =
    of_told c.told_within.result c.in-Ok.ending c.evaluate_within.new.exceeded c.told_within.ensures c.args.bounds.calls c.args.bounds.bytes c.args.file.now
    c.args.fuel _ _ _ _ c.in-Ok.ensures.run c.evaluate_within.ensures.unbounded

pub returns-in-Ok-clause-devices : goal.returns-in-Ok-clause-devices
returns-in-Ok-clause-devices g c =
    counted_within c.told_within.result c.in-Ok.ending c.evaluate_within.new.exceeded c.told_within.ensures _ _ _ _ c.in-Ok.ensures.reads
    c.in-Ok.ensures.writes

pub returns-in-Ok-clause-untouched : goal.returns-in-Ok-clause-untouched
returns-in-Ok-clause-untouched g c =
    if_told_refused _ c.told_within.result c.in-Ok.ending c.evaluate_within.new.exceeded c.told_within.ensures
