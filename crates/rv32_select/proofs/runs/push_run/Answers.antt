use Rattle.rv32_select.proofs.Running.{run_pushed}
use Rattle.rv32_select.proofs.runs.push_run.Goals as goal

pub returns : goal.returns
returns c = run_pushed c.args.runs.now.items _ (record { count = c.args.count; value = c.args.value }) c.in_ok-push.ensures.items
