use Rattle.std.proofs.Common.{◌≡◌, List, true}
use Rattle.cyc_types.specs.Regions.{region_of, regions_of}
use Rattle.source_typing.specs.Regions.{Region, is_among, reaches}
use Rattle.check_regions.specs.Ways.{AreWays}
use Rattle.check_regions.proofs.ways.Ways.lead_each.Given as goal

abbrev pub invariant-each : goal.invariant-each
invariant-each l = (bs : List (Region × Region))
    → ((r : Region) → is_among (regions_of l.row) r ≡ true → reaches 1 bs r (region_of l.other) ≡ true)
    → AreWays bs l.fn.self → AreWays bs l.self
