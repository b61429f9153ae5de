use Rattle.std.proofs.Common.{◌≡◌, List, true}
use Rattle.cyc_types.specs.Regions.{region_of}
use Rattle.source_typing.specs.Regions.{Region, reaches}
use Rattle.check_regions.specs.Ways.{AreWays}
use Rattle.check_regions.proofs.ways.leads.Given as goal

-- what is reached from here with the bounds that are left
abbrev pub invariant-steps : goal.invariant-steps
invariant-steps l = (bs : List (Region × Region)) → AreWays bs l.ways → (r : Region)
    → reaches l.left bs (region_of l.at) r ≡ true → reaches l.fn.most bs (region_of l.fn.one) r ≡ true
