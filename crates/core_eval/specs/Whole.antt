-- View of code: whole objects: whether cells lie as a layout's, and cells that get other values.
use Rattle.std.specs.Prelude.{ℕ, zero, suc, ◌+◌, ◌&&◌, Bool, true, false, Option, Some, None, List, [], ◌∷◌, length, slice_get, slice_set, nat_eq, nat_le}
use Rattle.cyc_core.specs.declared.layout.CellLayout.{CellLayout}
use Rattle.cyc_core.specs.declared.layout.Layout.{Layout}
use Rattle.core_eval.specs.declared.value.Area.{Area}
use Rattle.core_eval.specs.declared.value.Area.TheVariants as area
use Rattle.core_eval.specs.declared.value.Place.{Place}
use Rattle.core_eval.specs.declared.held.Held.{Held}
use Rattle.core_eval.specs.declared.held.Held.TheVariants as held
use Rattle.core_eval.specs.declared.value.Slot.{Slot}
use Rattle.core_eval.specs.declared.value.Value.{Value}
use Rattle.core_eval.specs.Values.{width_of, first_of, further_of, pointer_part, first_held, blanked, refilled, with_held, same_width, same_area}
use Rattle.core_eval.specs.Elements.{each_element}
use Rattle.core_eval.specs.Regions.{Kept, Regions, region_at, live_at, with_blocks}
use Rattle.core_eval.specs.Blocks.{Activation, Stored, position_of, slot_in, put_block}

-- ---- cells that lie as a layout's

-- whether there are as many words as others, and as many bytes behind them that hold nothing; more words have no such bytes in their midst
abbrev pub has_behind : List Value → (padding : ℕ) → List Value → ℕ → Bool
has_behind [] n [] m = nat_le m n
has_behind [] n (v ∷ vs) m = false
has_behind (u ∷ us) n [] m = nat_eq m 0
has_behind (u ∷ us) n (v ∷ vs) m = has_behind us n vs m

-- Whether what a cell holds has the parts that another has, where so many bytes lie behind the one, and so many behind the other, that hold nothing. What has
-- more words begins with the parts of what has fewer.
abbrev pub has_parts : Held → (padding : ℕ) → Held → ℕ → Bool
has_parts h n g m = same_width (width_of h) (width_of g) && has_behind (further_of h) n (further_of g) m

-- a cell lies where a layout has it, from a byte on, has its parts, and as many bytes behind them that hold nothing
abbrev pub is_cell : Option Slot → ℕ → CellLayout → Bool
is_cell None byte c = false
is_cell (Some s) byte c = nat_eq s.offset (byte + c.offset) && has_parts s.held s.padding (first_held c.cell) c.padding

-- so do the cells from the k-th on
abbrev pub are_cells : (ℕ → Option Slot) → (k byte : ℕ) → List CellLayout → Bool
are_cells slots k byte [] = true
are_cells slots k byte (c ∷ cs) = is_cell (slots k) byte c && are_cells slots (k + 1) byte cs

-- a cell may have a pointer in the same part as a layout's
abbrev pub is_alike : Option Slot → CellLayout → Bool
is_alike None c = false
is_alike (Some s) c = nat_eq (pointer_part s.held) (pointer_part (first_held c.cell))

-- so may the cells from the k-th on
abbrev pub are_alike : (ℕ → Option Slot) → (k : ℕ) → List CellLayout → Bool
are_alike slots k [] = true
are_alike slots k (c ∷ cs) = is_alike (slots k) c && are_alike slots (k + 1) cs

-- the cells of the object that a place leads to
abbrev pub slots_of : Stored → Place → ℕ → Option Slot
slots_of stored p k = slot_in stored p.area p.object k

abbrev pub is_found : Option ℕ → Bool
is_found None = false
is_found (Some position) = true

abbrev pub is_still : Option (List (List Slot)) → Bool
is_still None = false
is_still (Some objects) = true

-- whether an area isn't left, freed or closed
abbrev pub is_held : Stored → Area → Bool
is_held stored area.Globals = true
is_held stored (area.Region n) = is_still (live_at stored.regions n)
is_held stored (area.Block n) = is_found (position_of stored.blocks n)
is_held stored (area.Own n) = is_found (position_of stored.owns n)

-- whether a place leads to cells that lie as a layout's
abbrev pub are_laid : Stored → Place → List CellLayout → Bool
are_laid stored p cells = is_held stored p.area && are_cells (slots_of stored p) p.cell p.byte cells

-- the cells of so many elements lie as a layout's
abbrev pub are_elements : (ℕ → Option Slot) → (k byte : ℕ) → List CellLayout → (bytes count : ℕ) → Bool
are_elements slots k byte cells bytes zero = true
are_elements slots k byte cells bytes (suc n) =
    are_cells slots k byte cells && are_elements slots (k + length cells) (byte + bytes) cells bytes n

-- and may have pointers as those have
abbrev pub elements_alike : (ℕ → Option Slot) → (k : ℕ) → List CellLayout → (count : ℕ) → Bool
elements_alike slots k cells zero = true
elements_alike slots k cells (suc n) = are_alike slots k cells && elements_alike slots (k + length cells) cells n

-- whether a place leads to so many elements of a layout
abbrev pub has_elements : Stored → Place → Layout → ℕ → Bool
has_elements stored p l count = is_held stored p.area && are_elements (slots_of stored p) p.cell p.byte l.cells.items l.bytes count

abbrev pub same_object : Place → Place → Bool
same_object p q = same_area p.area q.area && nat_eq p.object q.object

-- ---- what cells hold

-- as much of what a cell holds as another has parts, where pointers are in the same part of both
abbrev pub held_as : Held → Held → Held
held_as (held.Byte v) h = held.Byte (first_of h)
held_as (held.Word v) h = held.Word (first_of h)
held_as (held.Fat u v w) h = h
held_as (held.Tagged t v) (held.Byte a) = held.Byte a
held_as (held.Tagged t v) (held.Word a) = held.Word a
held_as (held.Tagged t v) (held.Fat a b c) = held.Fat a b c
held_as (held.Tagged t v) (held.Tagged s a) = held.Tagged s a
held_as (held.Tagged t v) (held.TaggedFat s a b c) = held.Tagged s a
held_as (held.TaggedFat t u v w) h = h

abbrev pub held_by : CellLayout → Option Slot → Held
held_by c None = blanked (first_held c.cell)
held_by c (Some s) = held_as (first_held c.cell) s.held

-- what as many cells hold as a layout has, from the k-th on
abbrev pub values_from : (ℕ → Option Slot) → ℕ → List CellLayout → List Held
values_from slots k [] = []
values_from slots k (c ∷ cs) = held_by c (slots k) ∷ values_from slots (k + 1) cs

abbrev pub begins_as : CellLayout → Held
begins_as c = first_held c.cell

-- what the cells of so many elements begin as
abbrev pub first_elements : List CellLayout → ℕ → List Held
first_elements cells count = each_element (λ e. begins_as) cells 0 count

-- ---- cells that get other values

abbrev pub fill_slot : List Slot → ℕ → Held → Option Slot → List Slot
fill_slot cells k h None = cells
fill_slot cells k h (Some s) = slice_set cells k (with_held s (refilled s.held h))

-- the cells from the k-th on get these values
abbrev pub fill_cells : List Slot → ℕ → List Held → List Slot
fill_cells cells k [] = cells
fill_cells cells k (h ∷ hs) = fill_cells (fill_slot cells k h (slice_get cells k)) (k + 1) hs

abbrev pub fill_object : List (List Slot) → (i k : ℕ) → List Held → Option (List Slot) → List (List Slot)
fill_object objects i k hs None = objects
fill_object objects i k hs (Some cells) = slice_set objects i (fill_cells cells k hs)

-- those of the object i
abbrev pub fill_in : List (List Slot) → (i k : ℕ) → List Held → List (List Slot)
fill_in objects i k hs = fill_object objects i k hs (slice_get objects i)

abbrev pub fill_among : List Activation → (position i k : ℕ) → List Held → Option Activation → List Activation
fill_among blocks position i k hs None = blocks
fill_among blocks position i k hs (Some b) = put_block blocks position b (fill_in b.objects i k hs)

-- those of a local of the block that stands there
abbrev pub fill_through : List Activation → Option ℕ → (i k : ℕ) → List Held → List Activation
fill_through blocks None i k hs = blocks
fill_through blocks (Some position) i k hs = fill_among blocks position i k hs (slice_get blocks position)

-- those of an object of a region
abbrev pub fill_held : (i k : ℕ) → List Held → Option Kept → Option Kept
fill_held i k hs None = None
fill_held i k hs (Some kept) = Some (with_blocks kept (fill_in kept.objects i k hs))

abbrev pub fill_region : Regions → (n i k : ℕ) → List Held → Regions
fill_region regions n i k hs = slice_set regions n (fill_held i k hs (region_at regions n))

-- those of an object of an area
abbrev pub fill_to : Stored → Area → (i k : ℕ) → List Held → Stored
fill_to stored area.Globals i k hs = record stored { globals = fill_in stored.globals i k hs }
fill_to stored (area.Region n) i k hs = record stored { regions = fill_region stored.regions n i k hs }
fill_to stored (area.Block n) i k hs = record stored { blocks = fill_through stored.blocks (position_of stored.blocks n) i k hs }
fill_to stored (area.Own n) i k hs = record stored { owns = fill_through stored.owns (position_of stored.owns n) i k hs }
