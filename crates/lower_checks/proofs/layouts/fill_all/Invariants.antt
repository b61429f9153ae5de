use Rattle.std.proofs.Common.{◌≡◌, ◌++◌, length}
use Rattle.lower_checks.specs.Structs.{all_filled}
use Rattle.lower_checks.proofs.layouts.fill_all.Given as goal

-- what is done, and the rest, is all
abbrev pub invariant-each : goal.invariant-each
invariant-each l = l.all.items ++ all_filled l.bytes l.rest ≡ all_filled l.bytes l.cells

abbrev pub decreases-each : goal.decreases-each
decreases-each l = length l.rest
