-- View of code: ways along bounds: where a region leads.
use Rattle.std.specs.Prelude.{Bool, List, Option, Some, nat_lt, not, slice_get, true, ℕ, ◌≡◌, ◌&&◌, [], ◌∷◌}
use Rattle.cyc_types.specs.Regions.{region_of}
use Rattle.source_typing.specs.Regions.{Region, is_heap, reaches}
use Rattle.check_regions.specs.Reached.{past}
use Rattle.check_regions.specs.Walked.{AreRows}
use Rattle.check_regions.specs.declared.ways.Way.{Way}

-- By bounds a region outlives what its way leads to.
pub record Leads (bs : List (Region × Region)) (r : Region) (w : Way) : Type 0 where
  pub next : reaches 1 bs r (region_of w.next) ≡ true
  pub far : reaches w.length bs r (region_of w.far) ≡ true

-- Of each region that has a way, at its place.
pub record AreWays (bs : List (Region × Region)) (ways : List (Option Way)) : Type 0 where
  pub lead : (r : Region) (w : Way) → slice_get ways (past r) ≡ Some (Some w) → Leads bs r w

-- ---- how far it is to the end of a way

abbrev pub depth_in : Option (Option Way) → ℕ
depth_in (Some (Some w)) = w.depth
depth_in o = 0

abbrev pub depth_at : List (Option Way) → Region → ℕ
depth_at ways r = depth_in (slice_get ways (past r))

-- whether a bound leads to a lesser depth, and not to the heap
abbrev pub falls : List (Option Way) → Region × Region → Bool
falls ways b = not (is_heap b.1) && nat_lt (depth_at ways b.1) (depth_at ways b.0)

abbrev pub all_fall : List (Option Way) → List (Region × Region) → Bool
all_fall ways [] = true
all_fall ways (b ∷ bs) = falls ways b && all_fall ways bs

-- what is kept of bounds
pub record AreKept (given : List (Region × Region)) (rows : List (List Region)) (ways : List (Option Way)) (all : Bool) : Type 0 where
  pub rows_are : AreRows rows given
  pub ways_are : AreWays given ways
  pub all_are : all ≡ all_fall ways given
