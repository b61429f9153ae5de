-- View of code: a walk over bounds against their direction, level by level.
use Rattle.std.specs.Prelude.{Bool, List, None, Option, Some, Vec, false, length, map, slice_get, slice_set, suc, true, unwrap_or, zero, ℕ}
use Rattle.std.specs.Prelude.{◌≡◌, ◌-◌, [], ◌∷◌, ◌++◌, if◌then◌else◌}
use Rattle.cyc_types.specs.Regions.{regions_of}
use Rattle.cyc_types.specs.declared.region.RegionId.{RegionId}
use Rattle.source_typing.specs.Named.{BoundsBelow}
use Rattle.source_typing.specs.Regions.{Region, TheHeap, by_bounds, is_among, same_id}
use Rattle.check_regions.specs.Reached.{has, marks_of, past, with_mark}

-- ---- the bounds by the region that is outlived

-- Lists of regions, by how many marks there are up to a region: those that outlive it by one bound.
abbrev pub row_of : List (List Region) → Region → List Region
row_of rows y = unwrap_or (slice_get rows (past y)) []

abbrev pub is_that : Region → Option Region → Bool
is_that x None = false
is_that x (Some r) = same_id r x

-- whether a region is the last of these
abbrev pub ends_in : List Region → Region → Bool
ends_in row x = is_that x (slice_get row (length row - 1))

-- one more region, where it isn't the last one already
abbrev pub with_region : List Region → Region → List Region
with_region row x = (if ends_in row x then row else row ++ x ∷ [])

-- one more bound
abbrev pub with_bound : Region → Region → List (List Region) → List (List Region)
with_bound x y rows = slice_set rows (past y) (with_region (row_of rows y) x)

-- empty rows for the heap and for the given number of regions
abbrev pub no_rows : ℕ → List (List Region)
no_rows zero = [] ∷ []
no_rows (suc n) = no_rows n ++ [] ∷ []

abbrev pub with_bounds : List (Region × Region) → List (List Region) → List (List Region)
with_bounds [] rows = rows
with_bounds ((x, y) ∷ bs) rows = with_bounds bs (with_bound x y rows)

-- as they stand in code
abbrev pub rows_of : {Z : Type 0} → List (Vec RegionId Z) → List (List Region)
rows_of rows = map (λ r. regions_of r.items) rows

-- They are those of these bounds, with a row for each region that the bounds speak of.
pub record AreRows (rows : List (List Region)) (bs : List (Region × Region)) : Type 0 where
  pub are : (x y : Region) → is_among (row_of rows y) x ≡ by_bounds bs x (same_id y)
  pub enough : BoundsBelow (length rows) bs

-- ---- the walk

-- Marks of the regions that were come to, and those regions that were marked last.
pub record Walked : Type 0 where
  pub marks : List Bool
  pub latest : List Region

-- one more region, by whether it is marked
abbrev pub if_new : Bool → Region → Walked → Walked
if_new true x w = w
if_new false x w = record { marks = with_mark x w.marks; latest = w.latest ++ x ∷ [] }

abbrev pub found : Region → Walked → Walked
found x w = if_new (has w.marks x) x w

abbrev pub all_found : List Region → Walked → Walked
all_found [] w = w
all_found (x ∷ xs) w = all_found xs (found x w)

-- what outlives one of these by one bound
abbrev pub found_from : List (List Region) → List Region → Walked → Walked
found_from rows [] w = w
found_from rows (y ∷ ys) w = found_from rows ys (all_found (row_of rows y) w)

-- none was marked last
abbrev pub begun_level : Walked → Walked
begun_level w = record { marks = w.marks; latest = [] }

abbrev pub next_level : List (List Region) → Walked → Walked
next_level rows w = found_from rows w.latest (begun_level w)

-- the given number of levels
abbrev pub levels : List (List Region) → Walked → ℕ → Walked
levels rows w zero = w
levels rows w (suc n) = next_level rows (levels rows w n)

-- these regions and the heap are found, in a set with `size` marks
abbrev pub walk_from : ℕ → List Region → Walked
walk_from size targets = record { marks = marks_of size targets; latest = targets ++ TheHeap ∷ [] }
