use Rattle.std.proofs.Common.{◌≡◌, drop}
use Rattle.cyc_types.specs.Regions.{regions_of}
use Rattle.check_regions.specs.Reached.{with_marks}
use Rattle.check_regions.proofs.marks.mark_each.Given as goal

abbrev pub invariant-each : goal.invariant-each
invariant-each l = with_marks (regions_of (drop l.region-index l.regions)) l.marks ≡ with_marks (regions_of l.regions) l.fn.marks
