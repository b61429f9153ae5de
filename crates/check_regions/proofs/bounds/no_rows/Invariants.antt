use Rattle.std.proofs.Common.{◌≡◌}
use Rattle.check_regions.specs.Walked.{no_rows, rows_of}
use Rattle.check_regions.proofs.bounds.no_rows.Given as goal

abbrev pub invariant-each : goal.invariant-each
invariant-each l = rows_of l.rows.items ≡ no_rows l._row
