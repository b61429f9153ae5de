-- View of code: what the code knows of a program's structs: their members, and where their cells lie, by its unions.
use Rattle.std.specs.Prelude.{◌≡◌, ℕ, ◌+◌, ◌-◌, ◌≤◌, false, true, List, [], ◌∷◌, ◌++◌, length, map, Option, Some, None, bytes_eq, is_some, option_map}
use Rattle.std.specs.Prelude.{All, IfSome}
use Rattle.indexmap.specs.IndexMap.{get_by}
use Rattle.cyc_tree.specs.View.{member_tree}
use Rattle.source_meaning.specs.Shapes.{Shape, CharShape, FatShape, StructShape, UnionShape, Part, Layout, part_of, parts_of, has_tag}
use Rattle.source_meaning.specs.Sizes.{Extent, rounded_up, struct_cells, struct_extent}
use Rattle.source_meaning.specs.Placing.{Placed, struct_placed}
use Rattle.source_lowering.specs.Lowerable.{AreStructs, AreUnions, IsStruct}
use Rattle.cyc_core.specs.Trees.{bytes_of, cell_bytes}
use Rattle.cyc_core.specs.declared.layout.CellLayout.{CellLayout}
use Rattle.cyc_core.specs.declared.operation.Cell.{Cell}
use Rattle.lower_checks.specs.Cells.{cell_for}
use Rattle.lower_checks.specs.Unions.{KnowsUnions, first_union, union_in, union_room}
use Rattle.lower_checks.specs.declared.layouts.Known.{Known}
use Rattle.lower_checks.specs.declared.layouts.Room.{Room}
use Rattle.lower_checks.specs.declared.layouts.Structs.{Structs}

-- a cell, so many bytes from the first
pub record CellAt : Type 0 where
  pub offset : ℕ
  pub cell : Option Cell

-- what a cell of a shape is made for, where these are the unions
abbrev pub cell_in : List Layout → Shape → Option Cell
cell_in unions (UnionShape tag) = option_map (λ u. u.cell) (first_union unions tag)
cell_in unions s = cell_for s

abbrev pub placed_cell : List Layout → Placed → CellAt
placed_cell unions p = record { offset = p.offset; cell = cell_in unions p.shape }

abbrev pub laid_cell : CellLayout → CellAt
laid_cell c = record { offset = c.offset; cell = Some c.cell }

abbrev pub moved_cell : ℕ → CellAt → CellAt
moved_cell by c = record { offset = by + c.offset; cell = c.cell }

abbrev pub bytes_and : ℕ → ℕ → Extent
bytes_and size align = record { size = size; align = align }

-- how many bytes there are, and how they are aligned
abbrev pub room_tree : Room → Extent
room_tree r = bytes_and r.size (bytes_of r.align)

-- where the next cell begins, or the object ends
abbrev pub next_cell : ℕ → List CellLayout → ℕ
next_cell bytes [] = bytes
next_cell bytes (c ∷ cs) = c.offset

-- a cell with the bytes up to a place
abbrev pub filled : CellLayout → ℕ → CellLayout
filled c next = record { offset = c.offset; cell = c.cell; padding = next - (c.offset + cell_bytes c.cell) }

-- cells with the bytes up to the next one, or to the object's end
abbrev pub all_filled : ℕ → List CellLayout → List CellLayout
all_filled bytes [] = []
all_filled bytes (c ∷ cs) = filled c (next_cell bytes cs) ∷ all_filled bytes cs

-- ---- what has room

-- an integer, a pointer, a handle, a key, or one of these unions and structs
abbrev pub HasRoom : (unions structs : List Layout) → Shape → Type 0
HasRoom unions structs (StructShape tag) = (has_tag structs tag ≡ true)
HasRoom unions structs s = (is_some (cell_in unions s) ≡ true)

abbrev pub HaveRoom : (unions structs : List Layout) → List Part → Type 0
HaveRoom unions structs [] = Unit {0}
HaveRoom unions structs (p ∷ ps) = HasRoom unions structs p.shape × HaveRoom unions structs ps

-- ---- what is known of one struct

abbrev pub member_parts : Known → List Part
member_parts k = map part_of (map member_tree k.members.now)

abbrev pub known_room : Known → Extent
known_room k = bytes_and k.layout.value.bytes (bytes_of k.align)

-- a struct in code is the one of this tag
pub record IsKnown (unions structs : List Layout) (tag : List ℕ) (k : Known) : Type 0 where
  pub has : has_tag structs tag ≡ true
  pub parts : parts_of structs tag ≡ member_parts k
  pub members : HaveRoom unions structs (member_parts k)
  pub count : length (struct_cells structs tag) ≡ length k.layout.value.cells.items
  pub room : struct_extent unions structs tag ≡ known_room k
  pub cells : map (placed_cell unions) (struct_placed unions structs tag) ≡ map laid_cell k.layout.value.cells.items
  -- between cells there are their bytes of padding
  pub filled : k.layout.value.cells.items ≡ all_filled k.layout.value.bytes k.layout.value.cells.items

-- what is found at a tag: nothing where no struct has it
abbrev pub IsFound : (unions structs : List Layout) → List ℕ → Option Known → Type 0
IsFound unions structs tag None = (has_tag structs tag ≡ false)
IsFound unions structs tag (Some k) = IsKnown unions structs tag k

-- what a table has at a tag
abbrev pub struct_in : Structs → List ℕ → Option Known
struct_in table tag = get_by (λ key. bytes_eq tag key.now) table.by_tag

-- the table has these unions and structs, and no others
pub record Knows (table : Structs) (unions structs : List Layout) : Type 0 where
  pub unions_are : KnowsUnions table.unions unions
  pub knows : (tag : List ℕ) → IsFound unions structs tag (struct_in table tag)

-- ---- what is known of a shape by the table

abbrev pub room_if : Option Known → Extent
room_if None = bytes_and 0 1
room_if (Some k) = known_room k

abbrev pub cells_if : Option Known → List CellAt
cells_if None = []
cells_if (Some k) = map laid_cell k.layout.value.cells.items

abbrev pub room_in : Structs → Shape → Extent
room_in table CharShape = bytes_and 1 1
room_in table (FatShape to) = bytes_and 12 4
room_in table (StructShape tag) = room_if (struct_in table tag)
room_in table (UnionShape tag) = union_room (union_in table.unions tag)
room_in table s = bytes_and 4 4

-- what the table says that a cell is made for
abbrev pub table_cell : Structs → Shape → Option Cell
table_cell table (UnionShape tag) = option_map (λ u. u.cell) (union_in table.unions tag)
table_cell table s = cell_for s

abbrev pub cells_in : Structs → Shape → List CellAt
cells_in table (StructShape tag) = cells_if (struct_in table tag)
cells_in table s = record { offset = 0; cell = table_cell table s } ∷ []

-- an integer, a pointer, a handle, a key, or a union or a struct of the table
abbrev pub IsLaid : Structs → Shape → Type 0
IsLaid table (StructShape tag) = (is_some (struct_in table tag) ≡ true)
IsLaid table s = (is_some (table_cell table s) ≡ true)

abbrev pub AreLaid : Structs → List Part → Type 0
AreLaid table [] = Unit {0}
AreLaid table (p ∷ ps) = IsLaid table p.shape × AreLaid table ps

-- the cells of members, from so many bytes on
abbrev pub laid_cells : Structs → ℕ → List Part → List CellAt
laid_cells table so_far [] = []
laid_cells table so_far (p ∷ ps) =
    let at = rounded_up so_far (room_in table p.shape).align in
    map (moved_cell at) (cells_in table p.shape) ++ laid_cells table (at + (room_in table p.shape).size) ps

-- ---- how far cells lie

-- none begins further on than 4,096 bytes
abbrev pub AreNear : List CellLayout → Type 0
AreNear cells = All (λ c. c.offset ≤ 4096) cells

-- none of any struct of a table
abbrev pub IsNear : Structs → Type 0
IsNear table = (tag : List ℕ) → IfSome (struct_in table tag) (λ k. AreNear k.layout.value.cells.items)

-- a struct comes behind those that a table knows, and is one as they are, by the rules
pub record IsNext (table : Structs) (l : Layout) : Type 0 where
  pub unions : List Layout
  pub structs : List Layout
  pub knows : Knows table unions structs
  pub values : AreUnions unions
  pub earlier : AreStructs unions structs
  pub next : IsStruct unions structs l
