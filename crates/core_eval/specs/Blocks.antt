-- View of code: the locals of blocks in blocks, and what pointers lead to.
use Rattle.std.specs.Prelude.{
  ℕ,
  zero,
  suc,
  ◌+◌,
  ◌<◌,
  ◌&&◌,
  Bool,
  false,
  Option,
  Some,
  None,
  List,
  [],
  ◌∷◌,
  ◌++◌,
  length,
  map,
  slice_get,
  slice_set,
  nat_eq,
  nat_lt,
  option_map,
  if◌then◌else◌,
}
use Rattle.cyc_core.specs.declared.operation.Width.{Width}
use Rattle.cyc_core.specs.declared.layout.Layout.{Layout}
use Rattle.core_eval.specs.declared.value.Area.{Area}
use Rattle.core_eval.specs.declared.value.Area.TheVariants as area
use Rattle.core_eval.specs.declared.value.Place.{Place}
use Rattle.core_eval.specs.declared.value.Value.{Value}
use Rattle.core_eval.specs.declared.value.Value.TheVariants as value
use Rattle.core_eval.specs.declared.value.Slot.{Slot}
use Rattle.core_eval.specs.declared.blocks.Block.{Block}
use Rattle.core_eval.specs.declared.memory.Memory.{Memory}
use Rattle.core_eval.specs.Values.{slot_at, null_of, put_in, same_cell}
use Rattle.core_eval.specs.Elements.{block_cells, cells_of}
use Rattle.core_eval.specs.LongBlocks.{LongBlock, long_block_of, with_long_block}
use Rattle.core_eval.specs.Regions.{Regions, regions_of, live_at, slot_within, put_region, grown_region, block_place}

-- the locals of a block that isn't left yet, and how many blocks were entered before it; or a function's temporary objects, and how many functions were called
-- before it
pub record Activation : Type 0 where
  pub number : ℕ
  pub objects : List (List Slot)

abbrev pub activation_of : Block → Activation
activation_of b = record { number = b.number; objects = map cells_of b.objects.items }

-- their numbers fall from the innermost one on, below a bound
abbrev pub Descends : ℕ → List Activation → Type 0
Descends bound [] = Unit {0}
Descends bound (b ∷ bs) = (b.number < bound) × Descends b.number bs

-- ---- where a block stands among the blocks of all functions that are active, the innermost first

-- the block so many out, for a function outside of which there are so many
abbrev pub own_position : ℕ → List Activation → ℕ → Option ℕ
own_position base blocks out = (if nat_lt (out + base) (length blocks) then Some out else None)

-- the block with a number
abbrev pub position_of : List Activation → ℕ → Option ℕ
position_of [] k = None
position_of (b ∷ bs) k = (if nat_eq b.number k then Some 0 else option_map suc (position_of bs k))

-- ---- cells

abbrev pub slot_among : Option Activation → (i k : ℕ) → Option Slot
slot_among None i k = None
slot_among (Some b) i k = slot_at b.objects i k

-- the cell k of the local i of the block that stands there
abbrev pub slot_through : List Activation → Option ℕ → (i k : ℕ) → Option Slot
slot_through blocks None i k = None
slot_through blocks (Some position) i k = slot_among (slice_get blocks position) i k

-- the first cell of a local of the block so many out
abbrev pub local_slot : ℕ → List Activation → (out index : ℕ) → Option Slot
local_slot base blocks out index = slot_through blocks (own_position base blocks out) index 0

-- what is stored: the locals of all blocks, the temporary objects of all functions that are active, the globals with the heap's blocks behind them, the blocks
-- of regions, and where the cells of long ones lie
pub record Stored : Type 0 where
  pub blocks : List Activation
  pub owns : List Activation
  pub globals : List (List Slot)
  pub regions : Regions
  pub long_blocks : List LongBlock

abbrev pub stored_of : Memory → Stored
stored_of m = record {
  blocks = map activation_of m.blocks.items;
  owns = map activation_of m.owns.items;
  globals = map cells_of m.globals.items;
  regions = regions_of m.regions;
  long_blocks = map long_block_of m.long_blocks.items;
}

-- the numbers of blocks and of functions fall
abbrev pub AreOrdered : Memory → Type 0
AreOrdered m = Descends m.entered (map activation_of m.blocks.items) × Descends m.called (map activation_of m.owns.items)

-- the cell k of an object of an area
abbrev pub slot_in : Stored → Area → (i k : ℕ) → Option Slot
slot_in stored area.Globals i k = slot_at stored.globals i k
slot_in stored (area.Region n) i k = slot_within (live_at stored.regions n) i k
slot_in stored (area.Block n) i k = slot_through stored.blocks (position_of stored.blocks n) i k
slot_in stored (area.Own n) i k = slot_through stored.owns (position_of stored.owns n) i k

-- ---- pointers

abbrev pub number_through : List Activation → Option ℕ → Option ℕ
number_through blocks None = None
number_through blocks (Some position) = option_map (λ b. b.number) (slice_get blocks position)

-- the beginning of a local
abbrev pub local_place : ℕ → ℕ → Place
local_place k index = record { area = area.Block k; object = index; byte = 0; cell = 0 }

-- a pointer to the local of the block so many out
abbrev pub local_address : ℕ → List Activation → (out index : ℕ) → Option Value
local_address base blocks out index = option_map (λ k. value.Pointer (local_place k index)) (number_through blocks (own_position base blocks out))

-- the beginning of a global
abbrev pub global_place : ℕ → Place
global_place index = record { area = area.Globals; object = index; byte = 0; cell = 0 }

-- a pointer to a temporary object of the innermost function
abbrev pub own_address : List Activation → ℕ → Option Value
own_address owns index = option_map (λ b. value.Pointer (record { area = area.Own b.number; object = index; byte = 0; cell = 0 })) (slice_get owns 0)

-- whether there is a cell, and it lies so many bytes on
abbrev pub is_there : ℕ → Option Slot → Bool
is_there byte None = false
is_there byte (Some s) = nat_eq s.offset byte

-- whether two places are one, where each leads to what is there
abbrev pub same_places : Stored → Place → Place → Option Bool
same_places stored p q =
    (if is_there p.byte (slot_in stored p.area p.object p.cell) && is_there q.byte (slot_in stored q.area q.object q.cell)
    then Some (same_cell p q) else None)

-- a pointer that isn't NULL, and another value
abbrev pub same_with : Stored → Place → Value → Option Bool
same_with stored p value.Null = Some false
same_with stored p (value.Pointer q) = same_places stored p q
same_with stored p _ = None

-- whether two values are one pointer, where each is NULL or leads to what is there
abbrev pub same_values : Stored → Value → Value → Option Bool
same_values stored value.Null v = null_of v
same_values stored (value.Pointer p) v = same_with stored p v
same_values stored _ v = None

-- ---- stores

-- the block that stands there with other locals
abbrev pub put_block : List Activation → ℕ → Activation → List (List Slot) → List Activation
put_block blocks position b objects = slice_set blocks position (record { number = b.number; objects = objects })

abbrev pub put_among : List Activation → (position i k byte j : ℕ) → Width → Value → Option Activation → Option (List Activation)
put_among blocks position i k byte j w v None = None
put_among blocks position i k byte j w v (Some b) = option_map (put_block blocks position b) (put_in b.objects i k byte j w v)

-- the blocks after a store to a part of a cell of a local of the block that stands there, where there is one, and it lies there and is so wide
abbrev pub put_through : List Activation → Option ℕ → (i k byte j : ℕ) → Width → Value → Option (List Activation)
put_through blocks None i k byte j w v = None
put_through blocks (Some position) i k byte j w v = put_among blocks position i k byte j w v (slice_get blocks position)

-- the same for the first part of a local of the block so many out
abbrev pub put_local : ℕ → List Activation → (out index : ℕ) → Width → Value → Option (List Activation)
put_local base blocks out index w v = put_through blocks (own_position base blocks out) index 0 0 0 w v

-- what is stored after a store to a part of a cell of an object of an area, where there is one, and it lies there and is so wide
abbrev pub put_to : Stored → Area → (i k byte j : ℕ) → Width → Value → Option Stored
put_to stored area.Globals i k byte j w v = option_map (λ globals. record stored { globals = globals }) (put_in stored.globals i k byte j w v)
put_to stored (area.Region n) i k byte j w v =
    option_map (λ regions. record stored { regions = regions }) (put_region stored.regions n i k byte j w v)
put_to stored (area.Block n) i k byte j w v =
    option_map (λ blocks. record stored { blocks = blocks }) (put_through stored.blocks (position_of stored.blocks n) i k byte j w v)
put_to stored (area.Own n) i k byte j w v =
    option_map (λ owns. record stored { owns = owns }) (put_through stored.owns (position_of stored.owns n) i k byte j w v)

-- ---- requests

-- the objects of a region by its birth, if it was born and isn't freed or closed
abbrev pub born_objects : Stored → ℕ → Option (List (List Slot))
born_objects stored zero = Some stored.globals
born_objects stored (suc n) = live_at stored.regions n

-- where the next block of a region begins
abbrev pub next_place : Stored → (birth : ℕ) → Option Place
next_place stored d = option_map (λ objects. block_place d (length objects)) (born_objects stored d)

-- where the cells of long blocks lie, with a block more in a region that has these objects
abbrev pub grown_long : List LongBlock → ℕ → Layout → ℕ → Option (List (List Slot)) → List LongBlock
grown_long blocks n l count None = blocks
grown_long blocks n l count (Some objects) = with_long_block blocks n (length objects) l count

-- what is stored with a block more in a region, of so many elements of a layout
abbrev pub grown : Stored → (birth : ℕ) → Layout → ℕ → Stored
grown stored zero l count = record stored { globals = stored.globals ++ block_cells false l count ∷ [] }
grown stored (suc n) l count = record stored {
  regions = grown_region stored.regions n (block_cells false l count);
  long_blocks = grown_long stored.long_blocks n l count (live_at stored.regions n);
}
