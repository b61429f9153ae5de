use Rattle.std.specs.Prelude.{map}
use Rattle.std.proofs.Common.{◌≡◌, take}
use Rattle.cyc_types.specs.Regions.{regions_of}
use Rattle.source_typing.specs.Tables.{argument}
use Rattle.check_operators.proofs.renaming.renamed_arguments.Given as goal

-- those so far
abbrev pub invariant-each : goal.invariant-each
invariant-each l = regions_of l.all.items ≡ map (argument (regions_of l.regions)) (regions_of (take l.region-index l.old))
