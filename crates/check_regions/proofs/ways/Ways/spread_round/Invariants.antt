use Rattle.std.proofs.Common.{List}
use Rattle.source_typing.specs.Regions.{Region}
use Rattle.check_regions.specs.Walked.{AreRows, rows_of}
use Rattle.check_regions.specs.Ways.{AreWays}
use Rattle.check_regions.proofs.ways.Ways.spread_round.Given as goal

abbrev pub invariant-each : goal.invariant-each
invariant-each l = (bs : List (Region × Region)) → AreRows (rows_of l.rows) bs → AreWays bs l.fn.self → AreWays bs l.self
