use Rattle.std.proofs.Common.{arith}
use Rattle.cyc_types.proofs.Runs.{begins_within}
use Rattle.cyc_types.proofs.run.Run.at_most.Goals as goal

pub returns : goal.returns
returns c ls h =
    let n = c.args.self.count in
    let m = c.args.count in
    begins_within c.args.self.steps c.min.result n m c.args.self.pointer ls (grind (arith, c.min.ensures)) (grind (arith, c.min.ensures)) h
