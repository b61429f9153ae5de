use Rattle.std.proofs.Common.{◌≡◌, drop}
use Rattle.cyc_types.specs.Regions.{regions_of}
use Rattle.check_regions.specs.Walked.{all_found}
use Rattle.check_regions.proofs.walk.Walk.find_all.Given as goal

abbrev pub invariant-each : goal.invariant-each
invariant-each l = all_found (regions_of (drop l.region-index l.regions)) l.self ≡ all_found (regions_of l.regions) l.fn.self
