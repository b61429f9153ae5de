use Rattle.std.proofs.Common.{◌≡◌, take}
use Rattle.cyc_types.specs.Regions.{regions_of}
use Rattle.check_calls.specs.Fixings.{fixings_of, regions_by}
use Rattle.check_calls.proofs.fixing.regions_by.Given as goal

-- what the variables so far stand for
abbrev pub invariant-each : goal.invariant-each
invariant-each l = regions_of l.regions.items ≡ regions_by (fixings_of (take l.fixing-index l.fixings))
