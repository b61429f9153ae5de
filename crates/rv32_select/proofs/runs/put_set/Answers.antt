use Rattle.std.proofs.Common.{refl}
use Rattle.rv32_select.specs.Runs.{flags_in}
use Rattle.rv32_select.proofs.Running.{set_run}
use Rattle.rv32_select.proofs.runs.put_set.Goals as goal

pub returns : goal.returns
returns c =
    set_run (flags_in c.args.runs.now.items) (flags_in c.put_run.new.runs.items) (flags_in c.put_run-2.new.runs.items)
    (flags_in c.put_run-3.new.runs.items) c.args.run c.args.number _ c.args.value c.requires refl c.in_ok-put_run.ensures c.in_ok-put_run-2.ensures
    c.in_ok-put_run-3.ensures
