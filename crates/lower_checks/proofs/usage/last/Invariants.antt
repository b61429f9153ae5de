use Rattle.std.proofs.Common.{◌≡◌, max, map, drop}
use Rattle.cyc_core.specs.Trees.{temporary_tree}
use Rattle.source_lowering.specs.Programs.{last_of}
use Rattle.lower_checks.proofs.usage.last.Given as goal

abbrev pub invariant-each : goal.invariant-each
invariant-each l =
    max l.last (last_of (map temporary_tree (drop l.temporary-index l.temporaries))) ≡ last_of (map temporary_tree l.temporaries)
