use Rattle.std.proofs.Common.{◌≡◌, arith, subst}
use Rattle.cyc_types.specs.Pointers.{BeginsWith}
use Rattle.cyc_types.proofs.Runs.{begins_fewer}
use Rattle.cyc_types.proofs.run.Run.common.Goals as goal

pub returns-clause-mine : goal.returns-clause-mine
returns-clause-mine c ls h =
    let mine = c.args.self in
    begins_fewer mine.steps c.min.result mine.count mine.pointer ls (grind (arith, c.min.ensures)) h

pub returns-clause-theirs : goal.returns-clause-theirs
returns-clause-theirs c ls h =
    let other = c.args.other in
    let fewer = begins_fewer other.steps c.min.result other.count other.pointer ls (grind (arith, c.min.ensures)) h in
    let same : other.steps ≡ c.args.self.steps = grind (arith, c.if-self-other.false) in
    subst (λ s. BeginsWith s c.min.result other.pointer ls) same fewer
