use Rattle.std.proofs.Common.{◌≡◌}
use Rattle.check_regions.specs.Walked.{levels, rows_of}
use Rattle.check_regions.proofs.walk.Walk.levels.Given as goal

abbrev pub invariant-levels : goal.invariant-levels
invariant-levels l = l.walk ≡ levels (rows_of l.rows) l.fn.self l._level
