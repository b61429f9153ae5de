use Rattle.std.proofs.Common.{◌≡◌, drop}
use Rattle.cyc_types.specs.Regions.{regions_of}
use Rattle.check_regions.specs.Walked.{found_from, next_level, rows_of}
use Rattle.check_regions.proofs.walk.Walk.next.Given as goal

abbrev pub invariant-each : goal.invariant-each
invariant-each l = found_from (rows_of l.rows) (regions_of (drop l.region-index l.region-items)) l.next ≡ next_level (rows_of l.rows) l.fn.self
