-- View of code: regions that were born, by how many were before each, the heap not among them; and the blocks of regions.
use Rattle.std.specs.Prelude.{
  ℕ,
  zero,
  suc,
  ◌/◌,
  ◌%◌,
  Bool,
  true,
  false,
  Option,
  Some,
  None,
  List,
  [],
  ◌∷◌,
  ◌++◌,
  map,
  slice_get,
  slice_set,
  option_map,
  if◌then◌else◌,
}
use Rattle.std.specs.List.{range_with_len}
use Rattle.std.specs.declared.vec.Vec.{Vec}
use Rattle.std.specs.declared.alloc.Global.{Global}
use Rattle.cyc_core.specs.declared.operation.Width.{Width}
use Rattle.core_eval.specs.declared.value.Area.{Area}
use Rattle.core_eval.specs.declared.value.Area.TheVariants as area
use Rattle.core_eval.specs.declared.value.Place.{Place}
use Rattle.core_eval.specs.declared.value.Value.{Value}
use Rattle.core_eval.specs.declared.value.Slot.{Slot}
use Rattle.core_eval.specs.declared.region.Standing.{Standing}
use Rattle.core_eval.specs.declared.region.Standing.TheVariants as standing
use Rattle.core_eval.specs.declared.region.Region as code
use Rattle.core_eval.specs.declared.region.Region.TheVariants as region
use Rattle.core_eval.specs.declared.regions.Regions as code_regions
use Rattle.core_eval.specs.Values.{slot_at, put_in}
use Rattle.core_eval.specs.Elements.{cells_of}

-- a region that isn't freed: what it is, and its objects
pub record Kept : Type 0 where
  pub standing : Standing
  pub objects : List (List Slot)

abbrev pub Regions : Type 0
Regions = List (Option Kept)

abbrev pub held_region : code.Region → Option Kept
held_region (region.Held s objects) = Some (record { standing = s; objects = map cells_of objects.items })
held_region region.Freed = None

-- nothing where there is no item
abbrev pub item_held : Option code.Region → Option Kept
item_held None = None
item_held (Some region) = held_region region

-- what the item k of a chunk is
abbrev pub chunk_held : Option (Vec code.Region Global) → ℕ → Option Kept
chunk_held None k = None
chunk_held (Some chunk) k = item_held (slice_get chunk.items k)

-- what is at a number, by chunks of 64
abbrev pub held_at : List (Vec code.Region Global) → ℕ → Option Kept
held_at chunks n = chunk_held (slice_get chunks (n / 64)) (n % 64)

-- one for each number below how many were born, in order
abbrev pub regions_of : code_regions.Regions → Regions
regions_of regions = map (held_at regions.chunks.items) (range_with_len 0 regions.born)

-- whether pointers lead to a region's blocks
abbrev pub is_open : Standing → Bool
is_open standing.Lexical = true
is_open standing.Single = true
is_open standing.Opened = true
is_open standing.Closed = false

abbrev pub same_standing : Standing → Standing → Bool
same_standing standing.Lexical standing.Lexical = true
same_standing standing.Lexical standing.Single = false
same_standing standing.Lexical standing.Opened = false
same_standing standing.Lexical standing.Closed = false
same_standing standing.Single standing.Lexical = false
same_standing standing.Single standing.Single = true
same_standing standing.Single standing.Opened = false
same_standing standing.Single standing.Closed = false
same_standing standing.Opened standing.Lexical = false
same_standing standing.Opened standing.Single = false
same_standing standing.Opened standing.Opened = true
same_standing standing.Opened standing.Closed = false
same_standing standing.Closed standing.Lexical = false
same_standing standing.Closed standing.Single = false
same_standing standing.Closed standing.Opened = false
same_standing standing.Closed standing.Closed = true

-- a region that was born and isn't freed
abbrev pub still_held : Option (Option Kept) → Option Kept
still_held None = None
still_held (Some held) = held

-- the region with a number, if it was born and isn't freed
abbrev pub region_at : Regions → ℕ → Option Kept
region_at regions n = still_held (slice_get regions n)

-- the objects of a region, if it isn't freed or closed
abbrev pub open_objects : Option Kept → Option (List (List Slot))
open_objects None = None
open_objects (Some kept) = (if is_open kept.standing then Some kept.objects else None)

-- those of the region with a number, if it was born
abbrev pub live_at : Regions → ℕ → Option (List (List Slot))
live_at regions n = open_objects (region_at regions n)

-- the cell k of the object i
abbrev pub slot_within : Option (List (List Slot)) → (i k : ℕ) → Option Slot
slot_within None i k = None
slot_within (Some objects) i k = slot_at objects i k

-- a region with other objects
abbrev pub with_blocks : Kept → List (List Slot) → Kept
with_blocks kept objects = record kept { objects = objects }

-- what a region has after a store to a part of a cell of one of its objects
abbrev pub put_held : (i k byte j : ℕ) → Width → Value → Option Kept → Option (Option Kept)
put_held i k byte j w v None = None
put_held i k byte j w v (Some kept) =
    (if is_open kept.standing then option_map (λ objects. Some (with_blocks kept objects)) (put_in kept.objects i k byte j w v) else None)

-- the regions after a store to a part of a cell of an object of the one with a number
abbrev pub put_region : Regions → (n i k byte j : ℕ) → Width → Value → Option Regions
put_region regions n i k byte j w v = option_map (slice_set regions n) (put_held i k byte j w v (region_at regions n))

-- ---- what becomes another region, or is freed

-- nothing is kept of a region that is freed, and else all its objects are
abbrev pub as_now : Option Standing → Kept → Option Kept
as_now None kept = None
as_now (Some now) kept = Some (record kept { standing = now })

-- where a region is what it has to be
abbrev pub turned_held : Standing → Option Standing → Option Kept → Option (Option Kept)
turned_held from to None = None
turned_held from to (Some kept) = (if same_standing kept.standing from then Some (as_now to kept) else None)

abbrev pub turned_region : Regions → ℕ → Standing → Option Standing → Option Regions
turned_region regions n from to = option_map (slice_set regions n) (turned_held from to (region_at regions n))

-- the regions after one is turned by its birth, if that can be: the heap can't
abbrev pub turned : Regions → ℕ → Standing → Option Standing → Option Regions
turned regions zero from to = None
turned regions (suc n) from to = turned_region regions n from to

-- the regions after a unique block's own is freed, if an area is one
abbrev pub single_freed : Regions → Area → Option Regions
single_freed regions area.Globals = None
single_freed regions (area.Region n) = turned_region regions n standing.Single None
single_freed regions (area.Block k) = None
single_freed regions (area.Own k) = None

-- ---- blocks

-- what a region has with a block more, if it isn't freed or closed
abbrev pub grown_held : List Slot → Option Kept → Option Kept
grown_held block None = None
grown_held block (Some kept) = Some (if is_open kept.standing then with_blocks kept (kept.objects ++ block ∷ []) else kept)

abbrev pub grown_region : Regions → ℕ → List Slot → Regions
grown_region regions n block = slice_set regions n (grown_held block (region_at regions n))

-- where the objects of a region are, by its birth: those of the heap are behind the globals
abbrev pub area_of : ℕ → Area
area_of zero = area.Globals
area_of (suc n) = area.Region n

-- the beginning of the block i of a region
abbrev pub block_place : (birth i : ℕ) → Place
block_place d i = record { area = area_of d; object = i; byte = 0; cell = 0 }
