-- View of code: where the cells of types lie, by what is known of structs once they are declared.
use Rattle.std.specs.Prelude.{List, None, Option, Some, bytes_eq, false, map, true, ℕ, ◌+◌, if◌then◌else◌, [], ◌∷◌, ◌++◌}
use Rattle.source_meaning.specs.Placing.{Placed, placed_by, struct_placed}
use Rattle.source_meaning.specs.Sizes.{Extent, rounded_up}
use Rattle.source_typing.specs.Extents.{layouts_of}
use Rattle.source_typing.specs.Tables.{Part}
use Rattle.source_typing.specs.Types.{StaticType, Struct, shape_of}
use Rattle.cyc_types.specs.Known.{Entry}
use Rattle.cyc_types.specs.Measures.{bytes_and, part_extent, placed_after, quick_measure, stored}
use Rattle.cyc_types.specs.Scalars.{Kind, kind_in, kind_of, only_kind}
use Rattle.cyc_types.specs.Tags.{members_of}
use Rattle.cyc_types.specs.declared.cell.Cell.{Cell}
use Rattle.cyc_types.specs.declared.tag.Known.{Known}
use Rattle.source_typing.specs.Tables as rules

-- a cell by the kind of its shape, and its offset in bytes from the first
pub record KindAt : Type 0 where
  pub offset : ℕ
  pub kind : Option Kind

abbrev pub kind_placed : Placed → KindAt
kind_placed p = record { offset = p.offset; kind = kind_in p.shape }

-- the cells of a type, by the rules
abbrev pub cells_in : rules.Tables → StaticType → List KindAt
cells_in g t = map kind_placed (placed_by (struct_placed (layouts_of true g) (layouts_of false g)) (shape_of t))

abbrev pub scalar_at : ℕ → Kind → KindAt
scalar_at at k = record { offset = at; kind = Some k }

abbrev pub moved_by : ℕ → KindAt → KindAt
moved_by by c = record { offset = by + c.offset; kind = c.kind }

-- cells in code, as the rules say them
abbrev pub cell_of : Cell → KindAt
cell_of c = scalar_at c.offset (kind_of c.scalar)

abbrev pub cells_of : List Cell → List KindAt
cells_of cs = map cell_of cs

abbrev pub scalar_cells : Option Kind → List KindAt
scalar_cells None = []
scalar_cells (Some k) = scalar_at 0 k ∷ []

-- here the cells of a struct are given
abbrev pub quick_cells : (List ℕ → List KindAt) → StaticType → List KindAt
quick_cells of (Struct tag rs) = of tag
quick_cells of t = scalar_cells (only_kind t)

-- a member of no known type has none
abbrev pub part_cells : (StaticType → List KindAt) → Option StaticType → List KindAt
part_cells of None = []
part_cells of (Some t) = of t

-- a member's cells after others' bytes; None: too many
abbrev pub cells_after : Extent → Option Extent → List KindAt → List KindAt
cells_after s None cs = []
cells_after s (Some e) cs = map (moved_by (rounded_up s.size e.align)) cs

abbrev pub placed_onto : (StaticType → Option Extent) → (StaticType → List KindAt) → Option Extent → List Part → List KindAt
placed_onto of cells None ps = []
placed_onto of cells (Some s) [] = []
placed_onto of cells (Some s) (p ∷ ps) =
    cells_after s (part_extent of p.type) (part_cells cells p.type) ++ placed_onto of cells (placed_after s (part_extent of p.type)) ps

-- where the bytes of structs are known
abbrev pub struct_cells : List Entry → (List ℕ → List KindAt) → List Part → List KindAt
struct_cells es of ps = placed_onto (quick_measure es) (quick_cells of) (Some (bytes_and 0 1)) ps

-- none where the bytes are too many
abbrev pub kept_with : Option Extent → List KindAt → List KindAt
kept_with None cs = []
kept_with (Some e) cs = cs

-- the cells of a struct; a union has none of its own
abbrev pub known_cells : List Entry → (List ℕ → List KindAt) → Known → List KindAt
known_cells es of k = (if k.tag.is_union then [] else kept_with (stored k) (struct_cells es of (members_of k.tag.members.items)))

-- ---- struct by struct

-- what is found of one more struct or union
abbrev pub with_tag : {A : Type 0} → List ℕ → A → (List ℕ → A) → List ℕ → A
with_tag name own others tag = (if bytes_eq tag name then own else others tag)

-- what is found of each by what is found of those before it
abbrev pub spread : {A : Type 0} → ((List ℕ → A) → Known → A) → (List ℕ → A) → List Entry → List ℕ → A
spread of so_far [] = so_far
spread of so_far (e ∷ es) = spread of (with_tag e.0.now (of so_far e.1) so_far) es

-- what isn't declared has no cells
abbrev pub no_cells_of : List ℕ → List KindAt
no_cells_of tag = []

abbrev pub found_cells : List Entry → List ℕ → List KindAt
found_cells es = spread (known_cells es) no_cells_of es

abbrev pub cells_found : List Entry → StaticType → List KindAt
cells_found es t = quick_cells (found_cells es) t
