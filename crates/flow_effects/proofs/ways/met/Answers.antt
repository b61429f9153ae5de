use Rattle.std.proofs.Common.{Some, ap}
use Rattle.flow_effects.specs.Tables.{effects_in}
use Rattle.flow_effects.proofs.ways.met.Goals as goal

pub returns-in_ok-joined-in-Some-Some : goal.returns-in_ok-joined-in-Some-Some
returns-in_ok-joined-in-Some-Some c =
    rw (c.in-Some-Some.is-0, c.in-Some-Some.is-1) (ap (λ t. Some (effects_in t)) c.in_ok-joined-in-Some-Some.ensures)
