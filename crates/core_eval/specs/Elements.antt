-- View of code: the cells of objects, and how they begin: of many elements, or of one cell.
use Rattle.std.specs.Prelude.{ℕ, zero, suc, ◌+◌, ◌-◌, ◌*◌, Bool, true, false, List, [], ◌∷◌, ◌++◌, map, if◌then◌else◌}
use Rattle.cyc_core.specs.declared.operation.Cell.{Cell}
use Rattle.cyc_core.specs.declared.layout.CellLayout.{CellLayout}
use Rattle.cyc_core.specs.declared.layout.Layout.{Layout}
use Rattle.cyc_core.specs.declared.layout.Local.{Local}
use Rattle.cyc_core.specs.declared.layout.Local.TheVariants as local
use Rattle.cyc_core.specs.declared.program.Datum.{Datum}
use Rattle.cyc_core.specs.declared.program.Datum.TheVariants as datum
use Rattle.core_eval.specs.declared.value.Area.TheVariants as area
use Rattle.core_eval.specs.declared.value.Value.{Value}
use Rattle.core_eval.specs.declared.value.Value.TheVariants as value
use Rattle.core_eval.specs.declared.held.Bound.TheVariants as bound
use Rattle.core_eval.specs.declared.held.Held.{Held}
use Rattle.core_eval.specs.declared.held.Held.TheVariants as held
use Rattle.core_eval.specs.declared.value.Slot.{Slot}
use Rattle.core_eval.specs.declared.begun.Begun.{Begun}
use Rattle.core_eval.specs.declared.value.Object.{Object}
use Rattle.core_eval.specs.declared.value.Object.TheVariants as object
use Rattle.core_eval.specs.Values.{first_held, blanked}

-- something of each cell of so many elements, of which the first has the number e
abbrev pub each_element : {A : Type 0} → (ℕ → CellLayout → A) → List CellLayout → (e count : ℕ) → List A
each_element f cells e zero = []
each_element f cells e (suc n) = map (f e) cells ++ each_element f cells (suc e) n

-- what a cell holds at first: what it begins as, or nothing as yet
abbrev pub held_first : (begun : Bool) → Cell → Held
held_first begun c = (if begun then first_held c else blanked (first_held c))

-- a cell of an element that lies so many bytes on
abbrev pub slot_from : (begun : Bool) → ℕ → CellLayout → Slot
slot_from begun from c = record { offset = from + c.offset; padding = c.padding; held = held_first begun c.cell }

-- the cells of so many elements, of which the first has the number e
abbrev pub elements_from : (begun : Bool) → List CellLayout → (bytes e count : ℕ) → List Slot
elements_from begun cells bytes e count = each_element (λ n. slot_from begun (n * bytes)) cells e count

-- an object of so many elements of a layout
abbrev pub block_cells : (begun : Bool) → Layout → ℕ → List Slot
block_cells begun l count = elements_from begun l.cells.items l.bytes 0 count

-- the cells of a block of elements of a layout: those that are made, and behind them those of the other elements, which hold nothing as yet
abbrev pub begun_cells : Begun → List Slot
begun_cells b = b.slots.items ++ elements_from false b.layout.value.cells.items b.layout.value.bytes b.made (b.count - b.made)

-- the cell of an object of one word
abbrev pub word_slot : Value → Slot
word_slot v = record { offset = 0; padding = 0; held = held.Word v }

-- the cells of an object
abbrev pub cells_of : Object → List Slot
cells_of (object.Word v) = word_slot v ∷ []
cells_of (object.Scalar s) = s.value ∷ []
cells_of (object.Whole slots) = slots.items
cells_of (object.Begun b) = begun_cells b

-- an object of one cell
abbrev pub scalar : Held → List Slot
scalar h = record { offset = 0; padding = 0; held = h } ∷ []

-- a local holds nothing as yet
abbrev pub blank_object : Local → List Slot
blank_object (local.Scalar c) = scalar (blanked (first_held c))
blank_object (local.Whole l count) = block_cells false l.value count

-- a char of a string, so many bytes on
abbrev pub char_slot : (offset byte : ℕ) → Slot
char_slot offset byte = record { offset = offset; padding = 0; held = held.Byte (value.Word byte) }

-- those of a string from a byte on, and the 0 behind them
abbrev pub text_cells : ℕ → List ℕ → List Slot
text_cells k [] = char_slot k 0 ∷ []
text_cells k (b ∷ bs) = char_slot k b ∷ text_cells (suc k) bs

-- a pointer to the first element of the global or string of a number
abbrev pub first_element : ℕ → Value
first_element object = value.Pointer (record { area = area.Globals; object = object; byte = 0; cell = 0 })

-- what a global or a string begins as
abbrev pub first_object : Datum → List Slot
first_object (datum.Byte b) = scalar (held.Byte (value.Word b))
first_object (datum.Word w) = scalar (held.Word (value.Word w))
first_object datum.Null = scalar (held.Word value.Null)
first_object (datum.Text bytes) = text_cells 0 bytes.items
first_object (datum.Address object) = scalar (held.Word (first_element object))
first_object (datum.Bounds object count) = scalar (held.Fat (first_element object) (bound.Word count) (bound.Word 0))
first_object (datum.Whole l count) = block_cells true l.value count
