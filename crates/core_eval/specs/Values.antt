-- View of code: the values and objects that an evaluator has, as those of Core's memory.
use Rattle.std.specs.Prelude.{
  ◌≡◌,
  ℕ,
  zero,
  suc,
  ◌+◌,
  ◌*◌,
  ◌%◌,
  ◌&&◌,
  ◌||◌,
  Bool,
  true,
  false,
  Option,
  Some,
  None,
  List,
  [],
  ◌∷◌,
  map,
  slice_get,
  slice_set,
  nat_eq,
  nat_lt,
  not,
  option_map,
  if◌then◌else◌,
}
use Rattle.core_meaning.specs.Memory as memory
use Rattle.core_meaning.specs.Memory.{Region, Frame, Own, Born, Spot, Content, Pointer, Part, Memory, is_live}
use Rattle.core_meaning.specs.Meaning.{passed_in, values_of}
use Rattle.cyc_core.specs.declared.operation.Cell.{Cell}
use Rattle.cyc_core.specs.declared.operation.Width.{Width}
use Rattle.cyc_core.specs.declared.operation.Width.TheVariants as width
use Rattle.cyc_core.specs.declared.operation.Cell.TheVariants as cell
use Rattle.cyc_core.specs.Trees.{bytes_of}
use Rattle.core_eval.specs.declared.value.Area.{Area}
use Rattle.core_eval.specs.declared.value.Area.TheVariants as area
use Rattle.core_eval.specs.declared.value.Place.{Place}
use Rattle.core_eval.specs.declared.value.Value.{Value}
use Rattle.core_eval.specs.declared.value.Value.TheVariants as value
use Rattle.core_eval.specs.declared.held.Bound.{Bound}
use Rattle.core_eval.specs.declared.held.Bound.TheVariants as bound
use Rattle.core_eval.specs.declared.held.Held.{Held}
use Rattle.core_eval.specs.declared.held.Held.TheVariants as held
use Rattle.core_eval.specs.declared.value.Slot.{Slot}

-- ---- places

abbrev pub region_of : Area → Region
region_of area.Globals = Born 0
region_of (area.Region n) = Born (suc n)
region_of (area.Block k) = Frame k
region_of (area.Own k) = Own k

-- a cell of an object
abbrev pub spot_of : Region → (object cell : ℕ) → Spot
spot_of r object cell = record { region = r; object = object; cell = cell }

abbrev pub place_spot : Place → Spot
place_spot p = spot_of (region_of p.area) p.object p.cell

-- a pointer leads to a cell of a global, of a block of a region, of a local or of a temporary object
abbrev pub content_of : Value → Content
content_of value.Blank = memory.Blank
content_of (value.Word n) = memory.Word n
content_of value.Null = memory.Null
content_of (value.Pointer p) = Pointer (place_spot p) p.byte
content_of (value.Birth d) = memory.Birth d

-- what a temporary holds: those that got nothing as yet are blank
abbrev pub temp_of : List Value → ℕ → Content
temp_of vs = passed_in (map content_of vs)

-- ---- what cells hold

-- how wide each part of a cell is
abbrev pub width_of : Held → Width
width_of (held.Byte v) = width.Byte
width_of (held.Word v) = width.Word
width_of (held.Fat u v w) = width.Word
width_of (held.Tagged t v) = width.Word
width_of (held.TaggedFat t u v w) = width.Word

-- A count, an index or a tag is a word, or nothing as yet.
abbrev pub bound_value : Bound → Value
bound_value bound.Blank = value.Blank
bound_value (bound.Word n) = value.Word n

-- the same as one of these, if it is one
abbrev pub kept_of : Value → Option Bound
kept_of value.Blank = Some bound.Blank
kept_of (value.Word n) = Some (bound.Word n)
kept_of value.Null = None
kept_of (value.Pointer p) = None
kept_of (value.Birth d) = None

-- the part that may be a pointer or a handle: the first, or of a tagged union the one behind its tag
abbrev pub pointer_part : Held → ℕ
pointer_part (held.Byte v) = 0
pointer_part (held.Word v) = 0
pointer_part (held.Fat u v w) = 0
pointer_part (held.Tagged t v) = 1
pointer_part (held.TaggedFat t u v w) = 1

-- what its first part holds, and what those behind that do
abbrev pub first_of : Held → Value
first_of (held.Byte v) = v
first_of (held.Word v) = v
first_of (held.Fat u v w) = u
first_of (held.Tagged t v) = bound_value t
first_of (held.TaggedFat t u v w) = bound_value t

abbrev pub further_of : Held → List Value
further_of (held.Byte v) = []
further_of (held.Word v) = []
further_of (held.Fat u v w) = bound_value v ∷ bound_value w ∷ []
further_of (held.Tagged t v) = v ∷ []
further_of (held.TaggedFat t u v w) = u ∷ bound_value v ∷ bound_value w ∷ []

abbrev pub values_in : Held → List Value
values_in h = first_of h ∷ further_of h

-- with another value in one of its parts, if it has so many, and the value is kept there
abbrev pub put_part : Held → ℕ → Value → Option Held
put_part (held.Byte u) j v = (if nat_eq j 0 then Some (held.Byte v) else None)
put_part (held.Word u) j v = (if nat_eq j 0 then Some (held.Word v) else None)
put_part (held.Fat a b c) j v =
    (if nat_eq j 0 then Some (held.Fat v b c)
    else (if nat_eq j 1 then option_map (λ k. held.Fat a k c) (kept_of v)
    else (if nat_eq j 2 then option_map (held.Fat a b) (kept_of v) else None)))
put_part (held.Tagged t u) j v =
    (if nat_eq j 0 then option_map (λ k. held.Tagged k u) (kept_of v)
    else (if nat_eq j 1 then Some (held.Tagged t v) else None))
put_part (held.TaggedFat t a b c) j v =
    (if nat_eq j 0 then option_map (λ k. held.TaggedFat k a b c) (kept_of v)
    else (if nat_eq j 1 then Some (held.TaggedFat t v b c)
    else (if nat_eq j 2 then option_map (λ k. held.TaggedFat t a k c) (kept_of v)
    else (if nat_eq j 3 then option_map (held.TaggedFat t a b) (kept_of v) else None))))

-- with other values in as many of its parts as these are, where pointers are in the same part of both
abbrev pub refilled : Held → Held → Held
refilled (held.Byte u) h = held.Byte (first_of h)
refilled (held.Word u) h = held.Word (first_of h)
refilled (held.Fat a b c) (held.Byte v) = held.Fat v b c
refilled (held.Fat a b c) (held.Word v) = held.Fat v b c
refilled (held.Fat a b c) (held.Fat u v w) = held.Fat u v w
refilled (held.Fat a b c) (held.Tagged t v) = held.Fat (bound_value t) b c
refilled (held.Fat a b c) (held.TaggedFat t u v w) = held.Fat (bound_value t) b c
refilled (held.Tagged t a) (held.Byte v) = held.Tagged t a
refilled (held.Tagged t a) (held.Word v) = held.Tagged t a
refilled (held.Tagged t a) (held.Fat u v w) = held.Tagged t a
refilled (held.Tagged t a) (held.Tagged s v) = held.Tagged s v
refilled (held.Tagged t a) (held.TaggedFat s u v w) = held.Tagged t a
refilled (held.TaggedFat t a b c) (held.Byte v) = held.TaggedFat t a b c
refilled (held.TaggedFat t a b c) (held.Word v) = held.TaggedFat t a b c
refilled (held.TaggedFat t a b c) (held.Fat u v w) = held.TaggedFat t a b c
refilled (held.TaggedFat t a b c) (held.Tagged s v) = held.TaggedFat s v b c
refilled (held.TaggedFat t a b c) (held.TaggedFat s u v w) = held.TaggedFat s u v w

-- what a cell begins as
abbrev pub first_held : Cell → Held
first_held cell.Byte = held.Byte (value.Word 0)
first_held cell.Word = held.Word (value.Word 0)
first_held cell.Pointer = held.Word value.Null
first_held cell.Fat = held.Fat value.Null (bound.Word 0) (bound.Word 0)
first_held cell.Handle = held.Word value.Blank
first_held cell.Tagged = held.Tagged bound.Blank value.Blank
first_held cell.TaggedFat = held.TaggedFat bound.Blank value.Blank bound.Blank bound.Blank

-- a cell of the same parts, which hold nothing
abbrev pub blanked : Held → Held
blanked (held.Byte v) = held.Byte value.Blank
blanked (held.Word v) = held.Word value.Blank
blanked (held.Fat u v w) = held.Fat value.Blank bound.Blank bound.Blank
blanked (held.Tagged t v) = held.Tagged bound.Blank value.Blank
blanked (held.TaggedFat t u v w) = held.TaggedFat bound.Blank value.Blank bound.Blank bound.Blank

-- ---- objects

abbrev pub same_width : Width → Width → Bool
same_width width.Byte width.Byte = true
same_width width.Byte width.Word = false
same_width width.Word width.Byte = false
same_width width.Word width.Word = true

-- the parts of a cell from a byte on, each so wide and with its value, and behind them so many bytes that hold nothing
abbrev pub parts_from : (at wide padding : ℕ) → List Value → ℕ → Option Part
parts_from at wide n [] j = (if nat_lt j n then Some (record { offset = at + j; width = 1; content = memory.Blank }) else None)
parts_from at wide n (v ∷ vs) zero = Some (record { offset = at; width = wide; content = content_of v })
parts_from at wide n (v ∷ vs) (suc j) = parts_from (at + wide) wide n vs j

abbrev pub part_of : Slot → ℕ → Option Part
part_of s j = parts_from s.offset (bytes_of (width_of s.held)) s.padding (values_in s.held) j

abbrev pub part_in : Option Slot → ℕ → Option Part
part_in None j = None
part_in (Some s) j = part_of s j

abbrev pub cell_in : Option (List Slot) → ℕ → Option Slot
cell_in None k = None
cell_in (Some slots) k = slice_get slots k

-- the cell k of the object i
abbrev pub slot_at : List (List Slot) → (i k : ℕ) → Option Slot
slot_at objects i k = cell_in (slice_get objects i) k

-- a region has these objects
abbrev pub HasParts : Memory → Region → List (List Slot) → Type 0
HasParts m r objects = (i k j : ℕ) → m.parts (spot_of r i k) j ≡ part_in (slot_at objects i k) j

-- so has a live one
pub record Shows (m : Memory) (r : Region) (objects : List (List Slot)) : Type 0 where
  pub live : is_live (m.standing r) ≡ true
  pub holds : HasParts m r objects

-- what a part of a width can hold: a byte has the low bits of a word, and nothing else
abbrev pub low_byte : Value → Value
low_byte (value.Word n) = value.Word (n % 256)
low_byte _ = value.Blank

abbrev pub fitted : Width → Value → Value
fitted width.Byte v = low_byte v
fitted width.Word v = v

-- whether the part j of a cell lies so many bytes on, and is so wide
abbrev pub is_fit : (byte j : ℕ) → Width → Slot → Bool
is_fit byte j w s = nat_eq (s.offset + j * bytes_of (width_of s.held)) byte && same_width (width_of s.held) w

-- what it holds, where there is one, and it lies there and is so wide
abbrev pub value_of : (byte j : ℕ) → Width → Option Slot → Option Value
value_of byte j w None = None
value_of byte j w (Some s) = (if is_fit byte j w s then slice_get (values_in s.held) j else None)

-- whether a part may be one that has a value: behind the first part of a cell a byte is one that holds nothing
abbrev pub is_kept : ℕ → Width → Bool
is_kept j w = nat_eq j 0 || same_width w width.Word

-- the cell with other values
abbrev pub with_held : Slot → Held → Slot
with_held s h = record s { held = h }

-- the cell after a store to a part of it, if that lies there and is so wide
abbrev pub put_within : Slot → (byte j : ℕ) → Width → Value → Option Slot
put_within s byte j w v = (if is_fit byte j w s then option_map (with_held s) (put_part s.held j (fitted w v)) else None)

-- the cells after a store to a part of one of them, where there is one, and it lies there and is so wide
abbrev pub put_slot : List Slot → (k byte j : ℕ) → Width → Value → Option Slot → Option (List Slot)
put_slot cells k byte j w v None = None
put_slot cells k byte j w v (Some s) =
    (if is_fit byte j w s then option_map (λ h. slice_set cells k (with_held s h)) (put_part s.held j (fitted w v)) else None)

abbrev pub put_cell : List Slot → (k byte j : ℕ) → Width → Value → Option (List Slot)
put_cell cells k byte j w v = put_slot cells k byte j w v (slice_get cells k)

-- the objects after a store to a part of one of their cells
abbrev pub put_object : List (List Slot) → (i k byte j : ℕ) → Width → Value → Option (List Slot) → Option (List (List Slot))
put_object objects i k byte j w v None = None
put_object objects i k byte j w v (Some cells) = option_map (slice_set objects i) (put_cell cells k byte j w v)

abbrev pub put_in : List (List Slot) → (i k byte j : ℕ) → Width → Value → Option (List (List Slot))
put_in objects i k byte j w v = put_object objects i k byte j w v (slice_get objects i)

-- ---- what a condition and a call read

-- whether a value is true: 0 and NULL are false, and a blank or a handle is neither
abbrev pub truth_of : Value → Option Bool
truth_of value.Blank = None
truth_of (value.Word n) = Some (not (nat_eq n 0))
truth_of value.Null = Some false
truth_of (value.Pointer p) = Some true
truth_of (value.Birth d) = None

-- whether a pointer is NULL; what is no pointer is neither
abbrev pub null_of : Value → Option Bool
null_of value.Null = Some true
null_of (value.Pointer p) = Some false
null_of _ = None

abbrev pub same_area : Area → Area → Bool
same_area area.Globals area.Globals = true
same_area area.Globals (area.Region n) = false
same_area area.Globals (area.Block l) = false
same_area area.Globals (area.Own l) = false
same_area (area.Region n) area.Globals = false
same_area (area.Region n) (area.Region l) = nat_eq n l
same_area (area.Region n) (area.Block l) = false
same_area (area.Region n) (area.Own l) = false
same_area (area.Block k) area.Globals = false
same_area (area.Block k) (area.Region n) = false
same_area (area.Block k) (area.Block l) = nat_eq k l
same_area (area.Block k) (area.Own l) = false
same_area (area.Own k) area.Globals = false
same_area (area.Own k) (area.Region n) = false
same_area (area.Own k) (area.Block l) = false
same_area (area.Own k) (area.Own l) = nat_eq k l

-- whether two places are the same cell
abbrev pub same_cell : Place → Place → Bool
same_cell p q = same_area p.area q.area && (nat_eq p.object q.object && nat_eq p.cell q.cell)

-- values that are what some temporaries hold
abbrev pub AreRead : List Value → List ℕ → List Value → Type 0
AreRead temps ts values = values_of (temp_of temps) ts ≡ map content_of values
