-- Believed: where the cells of a shape lie in bytes, and the parts of a cell.
use Rattle.std.specs.Prelude.{ℕ, zero, suc, ◌+◌, ◌-◌, Bool, true, false, ◌||◌, List, [], ◌∷◌, ◌++◌, map, bytes_eq, if◌then◌else◌}
use Rattle.source_meaning.specs.Shapes.{Shape, IntShape, UnsignedShape, CharShape, ThinShape, FatShape, UnionShape, ArrayShape, Part, Layout, parts_of}
use Rattle.source_meaning.specs.Placing.{Placed, placed_by, struct_placed}
use Rattle.source_meaning.specs.Sizes.{Extent, rounded_up, extent_by, struct_extent, union_extent}
use Rattle.source_meaning.specs.Steps.{World}
use Rattle.core_meaning.specs.Memory as core
use Rattle.core_meaning.specs.Core.{Local}

-- the cells of a shape in a program
abbrev pub placed_of : World → Shape → List Placed
placed_of w s = placed_by (struct_placed w.unions w.structs) s

-- the bytes of a shape in a program
abbrev pub extent_of : World → Shape → Extent
extent_of w s = extent_by (struct_extent w.unions w.structs) (union_extent w.unions) s

-- a part of one cell: how many bytes before it, how many it takes, and what it holds where its type has a beginning: 0 or NULL
pub record Piece : Type 0 where
  pub offset : ℕ
  pub width : ℕ
  pub first : core.Content

abbrev pub piece : ℕ → ℕ → core.Content → Piece
piece offset width first = record { offset = offset; width = width; first = first }

-- A char has one byte, a fat pointer three words (its first element, how many it has, and its index), all else but a tagged union one word.
abbrev pub pieces_of : Shape → List Piece
pieces_of IntShape = piece 0 4 (core.Word 0) ∷ []
pieces_of UnsignedShape = piece 0 4 (core.Word 0) ∷ []
pieces_of CharShape = piece 0 1 (core.Word 0) ∷ []
pieces_of (ThinShape bound owner to) = piece 0 4 core.Null ∷ []
pieces_of (FatShape to) = piece 0 4 core.Null ∷ piece 4 4 (core.Word 0) ∷ piece 8 4 (core.Word 0) ∷ []
pieces_of s = piece 0 4 core.Blank ∷ []

-- whether one of these is a fat pointer
abbrev pub is_fat : Shape → Bool
is_fat (FatShape to) = true
is_fat s = false

abbrev pub has_fat : List Part → Bool
has_fat [] = false
has_fat (p ∷ ps) = is_fat p.shape || has_fat ps

-- A tagged union has a word for its tag, and then those of its largest member, a char's in a word too. It has no beginning.
abbrev pub union_pieces : Bool → List Piece
union_pieces false = piece 0 4 core.Blank ∷ piece 4 4 core.Blank ∷ []
union_pieces true = piece 0 4 core.Blank ∷ piece 4 4 core.Blank ∷ piece 8 4 core.Blank ∷ piece 12 4 core.Blank ∷ []

-- the parts of a cell, by the unions of a program
abbrev pub cell_pieces : List Layout → Shape → List Piece
cell_pieces unions (UnionShape tag) = union_pieces (has_fat (parts_of unions tag))
cell_pieces unions s = pieces_of s

-- what the first part of a value's cell holds at first
abbrev pub first_of : List Piece → core.Content
first_of [] = core.Blank
first_of (q ∷ qs) = q.first

abbrev pub first_part : Shape → core.Content
first_part s = first_of (pieces_of s)

abbrev pub part_shape_of : Placed → Piece → core.PartShape
part_shape_of p q = record { offset = p.offset + q.offset; width = q.width; first = q.first }

abbrev pub cell_parts : List Layout → Placed → List core.PartShape
cell_parts unions p = map (part_shape_of p) (cell_pieces unions p.shape)

-- bytes that hold nothing, from the one at `at` on
abbrev pub padding : ℕ → ℕ → List core.PartShape
padding at zero = []
padding at (suc n) = (record { offset = at; width = 1; first = core.Blank }) ∷ padding (at + 1) n

-- where the next cell begins, or the object ends
abbrev pub next_at : ℕ → List Placed → ℕ
next_at bytes [] = bytes
next_at bytes (p ∷ ps) = p.offset

-- a cell has its value's parts, and then a part for each byte up to the next cell, or to the object's end: each byte lies in one part
abbrev pub padded : List Layout → (Shape → Extent) → ℕ → List Placed → List (List core.PartShape)
padded unions extent bytes [] = []
padded unions extent bytes (p ∷ ps) =
    let end = p.offset + (extent p.shape).size in
    (cell_parts unions p ++ padding end (next_at bytes ps - end)) ∷ padded unions extent bytes ps

-- how Core lays an object of a shape out
abbrev pub layout_of : World → Shape → core.Layout
layout_of w s = record { cells = padded w.unions (extent_of w) (extent_of w s).size (placed_of w s); bytes = (extent_of w s).size }

-- a local of a shape: one object, of as many elements as an array has, and else of one
abbrev pub local_of : World → Shape → Local
local_of w (ArrayShape count of) = record { layout = layout_of w of; count = count }
local_of w s = record { layout = layout_of w s; count = 1 }

-- how many bytes lie before a part, where `so_far` are taken already
abbrev pub bytes_before : (Shape → Extent) → ℕ → List Part → List ℕ → ℕ
bytes_before extent so_far [] name = so_far
bytes_before extent so_far (p ∷ ps) name =
    let at = rounded_up so_far (extent p.shape).align in
    (if bytes_eq p.name name then at else bytes_before extent (at + (extent p.shape).size) ps name)

-- where parts end that begin behind `so_far` bytes
abbrev pub bytes_through : (Shape → Extent) → ℕ → List Part → ℕ
bytes_through extent so_far [] = so_far
bytes_through extent so_far (p ∷ ps) = bytes_through extent (rounded_up so_far (extent p.shape).align + (extent p.shape).size) ps
