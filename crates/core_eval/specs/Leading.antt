-- View of code: how far a pointer may go.
use Rattle.std.specs.Prelude.{ℕ, ◌+◌, ◌&&◌, ◌||◌, Bool, true, false, Option, Some, None, List, [], ◌∷◌, slice_get, nat_eq, nat_lt, if◌then◌else◌}
use Rattle.core_meaning.specs.Operations.{too_far}
use Rattle.cyc_core.specs.declared.layout.CellLayout.{CellLayout}
use Rattle.core_eval.specs.declared.value.Area.{Area}
use Rattle.core_eval.specs.declared.value.Area.TheVariants as area
use Rattle.core_eval.specs.declared.value.Place.{Place}
use Rattle.core_eval.specs.Elements.{elements_from}
use Rattle.core_eval.specs.LongBlocks.{LongBlock}
use Rattle.core_eval.specs.Blocks.{Stored, slot_in, is_there}
use Rattle.core_eval.specs.Whole.{is_held}

-- ---- whether a cell lies somewhere

-- the cell k of so many elements lies so many bytes on
abbrev pub lies_in : List CellLayout → (bytes count k byte : ℕ) → Bool
lies_in cells bytes count k byte = is_there byte (slice_get (elements_from false cells bytes 0 count) k)

-- the block i of the region n is one of these, and its cell k lies so many bytes on
abbrev pub lies_among : List LongBlock → (n i k byte : ℕ) → Bool
lies_among [] n i k byte = false
lies_among (b ∷ bs) n i k byte =
    (nat_eq b.region n && nat_eq b.object i && lies_in b.cells b.bytes b.count k byte) || lies_among bs n i k byte

-- A cell lies where a place leads, too far from where its object begins: of a region, also where it is closed or freed.
abbrev pub lies_far : Stored → Area → (i k byte : ℕ) → Bool
lies_far stored area.Globals i k byte = is_there byte (slot_in stored area.Globals i k)
lies_far stored (area.Region n) i k byte = lies_among stored.long_blocks n i k byte
lies_far stored (area.Block n) i k byte = is_there byte (slot_in stored (area.Block n) i k)
lies_far stored (area.Own n) i k byte = is_there byte (slot_in stored (area.Own n) i k)

-- whether that is known of an area's objects: of a block or a function until it is left
abbrev pub recalls : Stored → Area → Bool
recalls stored area.Globals = true
recalls stored (area.Region n) = true
recalls stored (area.Block n) = is_held stored (area.Block n)
recalls stored (area.Own n) = is_held stored (area.Own n)

-- ---- where a pointer leads

-- the place so many cells and so many bytes on
abbrev pub place_on : Place → (cells bytes : ℕ) → Place
place_on p cells bytes = record { area = p.area; object = p.object; byte = p.byte + bytes; cell = p.cell + cells }

-- a pointer may lead to what is less than too far from where its object begins, and to where a cell lies
abbrev pub may_lead : Stored → Place → Bool
may_lead stored q = nat_lt q.byte too_far || lies_far stored q.area q.object q.cell q.byte

-- the place so many cells and so many bytes on, if a pointer may lead there
abbrev pub lead_on : Stored → Place → (cells bytes : ℕ) → Option Place
lead_on stored p cells bytes = (if may_lead stored (place_on p cells bytes) then Some (place_on p cells bytes) else None)
