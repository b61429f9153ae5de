use Rattle.std.proofs.Common.{◌≡◌, drop, map}
use Rattle.check_regions.specs.Fields.{pair_of}
use Rattle.check_regions.specs.Reached.{most}
use Rattle.check_regions.specs.Walked.{no_rows, rows_of, with_bounds}
use Rattle.check_regions.proofs.bounds.rows_of.Given as goal

abbrev pub invariant-each : goal.invariant-each
invariant-each l =
    with_bounds (map pair_of (drop l.bound-index l.bounds)) (rows_of l.rows.items)
    ≡ with_bounds (map pair_of l.bounds) (no_rows (most (map pair_of l.bounds) 0))
