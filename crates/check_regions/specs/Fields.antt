-- View of code: what the lists of a scope say.
use Rattle.std.specs.Prelude.{List}
use Rattle.cyc_types.specs.Regions.{region_of, regions_of}
use Rattle.cyc_types.specs.declared.region.RegionId.{RegionId}
use Rattle.source_typing.specs.Regions.{Region}
use Rattle.check_regions.specs.Scopes.{Scoped}
use Rattle.check_regions.specs.declared.begun.Begun.{Begun}

abbrev pub pair_of : RegionId × RegionId → Region × Region
pair_of p = (region_of p.0, region_of p.1)

abbrev pub scoped : List Begun → List RegionId → List (Region × Region) → Scoped
scoped begun opened bounds = record { begun = begun; opened = regions_of opened; bounds = bounds }
