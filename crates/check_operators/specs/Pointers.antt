-- View of code: what is judged by the outermost pointers of types.
use Rattle.std.specs.Prelude.{Bool, None, Option, Some, false, true, ℕ}
use Rattle.cyc_types.specs.Regions.{region_of}
use Rattle.cyc_types.specs.declared.layer.Layer.{Layer}
use Rattle.cyc_types.specs.declared.layer.Layer.TheVariants as pointer
use Rattle.cyc_types.specs.declared.region.RegionId.{RegionId}
use Rattle.source_typing.specs.Faults.{region_rule}
use Rattle.source_typing.specs.Regions.{Regions}
use Rattle.source_typing.specs.Scope.{Env, In, InBlock, Seat, Value, is_live, seated}
use Rattle.source_typing.specs.Types.{StaticType}
use Rattle.source_typing.specs.Verdicts.{Verdict, refuse}

-- the region that an outermost pointer leads into, where it has a name
abbrev pub region_outside : Option Layer → Option RegionId
region_outside (Some (pointer.Thin n r)) = Some r
region_outside (Some (pointer.Fat r)) = Some r
region_outside (Some (pointer.Unique n)) = None
region_outside None = None

-- whether a region outlives another one; where there aren't both, it is as it may be
abbrev pub regions_ordered : Regions → Bool → Option RegionId → Option RegionId → Bool
regions_ordered g any (Some r) (Some q) = g.order (region_of r) (region_of q)
regions_ordered g any (Some r) None = any
regions_ordered g any None q = any

-- the regions of two thin pointers
abbrev pub thin_regions : Option Layer → Option Layer → Option (RegionId × RegionId)
thin_regions (Some (pointer.Thin n r)) (Some (pointer.Thin m q)) = Some (r, q)
thin_regions l k = None

-- ---- what a pointer leads to

-- whether its region is live; a unique pointer's is judged by flow
abbrev pub is_reached : Env → Layer → Bool
is_reached g (pointer.Thin n r) = is_live g (region_of r)
is_reached g (pointer.Fat r) = is_live g (region_of r)
is_reached g (pointer.Unique n) = true

abbrev pub seat_behind : Layer → Seat
seat_behind (pointer.Thin n r) = In (region_of r)
seat_behind (pointer.Fat r) = In (region_of r)
seat_behind (pointer.Unique n) = InBlock

abbrev pub followed : ℕ → Layer → Bool → StaticType → Verdict Value
followed at l true t = seated at t (seat_behind l)
followed at l false t = refuse region_rule at
