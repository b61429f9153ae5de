-- View of code: regions of a type in code, as the rules say them.
use Rattle.std.specs.Prelude.{Bool, List, map}
use Rattle.source_typing.specs.Regions.{Level, Region, TheHeap, same_id}
use Rattle.cyc_types.specs.declared.region.RegionId.{RegionId}
use Rattle.cyc_types.specs.declared.region.RegionId.TheVariants as code

abbrev pub region_of : RegionId → Region
region_of code.Heap = TheHeap
region_of (code.Level k) = Level k

abbrev pub regions_of : List RegionId → List Region
regions_of rs = map region_of rs

-- whether two regions are the same
abbrev pub ids_agree : RegionId × RegionId → Bool
ids_agree p = same_id (region_of p.0) (region_of p.1)
