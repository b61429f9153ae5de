use Rattle.std.proofs.Common.{◌≡◌, take}
use Rattle.cyc_types.specs.Layers.{pointed}
use Rattle.cyc_types.specs.Regions.{regions_of}
use Rattle.source_typing.specs.Tables.{argument}
use Rattle.source_typing.specs.Types.{StaticType, renamed}
use Rattle.check_operators.proofs.renaming.push_renamed.Given as goal

-- those so far
abbrev pub invariant-each : goal.invariant-each
invariant-each l = (t u : StaticType) → pointed u l.initial.all.items ≡ renamed (argument (regions_of l.regions)) t
    → pointed u l.all.items ≡ renamed (argument (regions_of l.regions)) (pointed t (take l.pointer-index l.pointers))
