use Rattle.std.proofs.Common.{length}
use Rattle.check_scopes.proofs.Linking.{Leaves}
use Rattle.check_scopes.proofs.locals.Locals.leave.Given as goal

-- the earliest locals are as they were
abbrev pub invariant-each : goal.invariant-each
invariant-each l = Leaves l.count l.fn.self l.self-inside.all.items l.self-inside.last

abbrev pub decreases-each : goal.decreases-each
decreases-each l = length l.self-inside.all.items
