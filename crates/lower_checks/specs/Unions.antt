-- View of code: what the code knows of a program's tagged unions: their members, and what their cells are made for.
use Rattle.std.specs.Prelude.{◌≡◌, ℕ, Bool, true, List, [], ◌∷◌, map, Option, Some, None, bytes_eq, option_map, is_some, if◌then◌else◌}
use Rattle.cyc_tree.specs.View.{member_tree}
use Rattle.source_meaning.specs.Shapes.{Shape, UnionShape, Part, Layout, part_of}
use Rattle.source_meaning.specs.Sizes.{Extent}
use Rattle.source_lowering.specs.Layouts.{has_fat}
use Rattle.source_lowering.specs.Lowerable.{HasMember}
use Rattle.cyc_core.specs.Trees.{bytes_of, cell_bytes, cell_width}
use Rattle.cyc_core.specs.declared.operation.Cell.{Cell}
use Rattle.cyc_core.specs.declared.operation.Cell.TheVariants as cell
use Rattle.lower_checks.specs.Cells.{cell_for}
use Rattle.lower_checks.specs.Firsts.{first_in}
use Rattle.lower_checks.specs.declared.first.Firsts.{Firsts}
use Rattle.lower_checks.specs.declared.unions.Union as code

-- what the cell of a union is made for, by whether a member is a fat pointer
abbrev pub cell_by : Bool → Cell
cell_by fat = (if fat then cell.TaggedFat else cell.Tagged)

-- how many words the cell of a union has
abbrev pub cell_words : Cell → ℕ
cell_words cell.TaggedFat = 4
cell_words c = 2

-- a union, as the code has it
pub record Union : Type 0 where
  pub parts : List Part
  pub cell : Cell

abbrev pub union_tree : code.Union → Union
union_tree u = record { parts = map part_of (map member_tree u.members.now); cell = u.cell }

-- a union of such members
abbrev pub union_with : List Part → Union
union_with ps = record { parts = ps; cell = cell_by (has_fat ps) }

-- the first union of a tag
abbrev pub first_union : List Layout → List ℕ → Option Union
first_union [] tag = None
first_union (l ∷ ls) tag = (if bytes_eq l.tag tag then Some (union_with l.parts) else first_union ls tag)

-- the union of a shape
abbrev pub union_by : List Layout → Shape → Option Union
union_by unions (UnionShape tag) = first_union unions tag
union_by unions s = None

-- what a table has at a tag
abbrev pub union_in : Firsts code.Union → List ℕ → Option Union
union_in unions tag = option_map union_tree (first_in unions tag)

-- each member is an integer, a pointer, a handle or a key
abbrev pub AreCells : List Part → Type 0
AreCells [] = Unit {0}
AreCells (p ∷ ps) = (is_some (cell_for p.shape) ≡ true) × AreCells ps

-- so it is, and there is one
abbrev pub HaveCells : List Part → Type 0
HaveCells ps = HasMember ps × AreCells ps

abbrev pub AreUnionsLaid : List Layout → Type 0
AreUnionsLaid [] = Unit {0}
AreUnionsLaid (l ∷ ls) = HaveCells l.parts × AreUnionsLaid ls

-- the table has the first of these unions of each tag, and each is in order
pub record KnowsUnions (table : Firsts code.Union) (unions : List Layout) : Type 0 where
  pub first : (tag : List ℕ) → union_in table tag ≡ first_union unions tag
  pub laid : AreUnionsLaid unions

-- the bytes of a union: where there is none, of a word for its tag
abbrev pub union_room : Option Union → Extent
union_room None = record { size = 4; align = 4 }
union_room (Some u) = record { size = cell_bytes u.cell; align = bytes_of (cell_width u.cell) }
