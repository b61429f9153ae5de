-- Believed: the scalar cells of a shape, and its bytes.
use Rattle.std.specs.Prelude.{ℕ, zero, suc, ◌+◌, ◌*◌, ◌/◌, List, [], ◌∷◌, ◌++◌, length, max, bytes_eq, if◌then◌else◌}
use Rattle.source_meaning.specs.Shapes.{Shape, CharShape, VoidShape, FatShape, StructShape, UnionShape, ArrayShape, Part, Layout, parts_of}

-- ---- cells

-- a list, repeated n times
abbrev pub repeated : {A : Type 0} → ℕ → List A → List A
repeated zero xs = []
repeated (suc n) xs = xs ++ repeated n xs

-- A scalar is an integer, a pointer, a handle, a key or a tagged union, and is one cell. Here the cells of a struct are given.
abbrev pub cells_by : (List ℕ → List Shape) → Shape → List Shape
cells_by of_struct (StructShape tag) = of_struct tag
cells_by of_struct VoidShape = []
cells_by of_struct (ArrayShape count of) = repeated count (cells_by of_struct of)
cells_by of_struct s = s ∷ []

-- the cells of all parts, in order
abbrev pub all_cells : (Shape → List Shape) → List Part → List Shape
all_cells cells [] = []
all_cells cells (p ∷ ps) = cells p.shape ++ all_cells cells ps

-- the latest struct comes first, and is made of earlier ones
abbrev pub struct_cells : List Layout → List ℕ → List Shape
struct_cells [] tag = []
struct_cells (l ∷ earlier) tag =
    (if bytes_eq l.tag tag then all_cells (cells_by (struct_cells earlier)) l.parts else struct_cells earlier tag)

-- how many cells stand before a part
abbrev pub cells_before : (Shape → List Shape) → List Part → List ℕ → ℕ
cells_before cells [] name = 0
cells_before cells (p ∷ ps) name = (if bytes_eq p.name name then 0 else length (cells p.shape) + cells_before cells ps name)

-- ---- bytes

-- a size and an alignment, in bytes
pub record Extent : Type 0 where
  pub size : ℕ
  pub align : ℕ

-- up to the next multiple of the second
abbrev pub rounded_up : ℕ → ℕ → ℕ
rounded_up x zero = x
rounded_up x (suc a) = (x + a) / suc a * suc a

-- A `char` has 1 byte; integers, thin pointers, handles and keys have 4, fat pointers 12. Only a `char` is aligned to 1.
-- Here the extents of structs and unions are given.
abbrev pub extent_by : (List ℕ → Extent) → (List ℕ → Extent) → Shape → Extent
extent_by of_struct of_union CharShape = record { size = 1; align = 1 }
extent_by of_struct of_union (FatShape to) = record { size = 12; align = 4 }
extent_by of_struct of_union (StructShape tag) = of_struct tag
extent_by of_struct of_union (UnionShape tag) = of_union tag
extent_by of_struct of_union VoidShape = record { size = 0; align = 1 }
extent_by of_struct of_union (ArrayShape count of) =
    let e = extent_by of_struct of_union of in record { size = count * e.size; align = e.align }
extent_by of_struct of_union s = record { size = 4; align = 4 }

-- a struct's members in order, each at its alignment, and the whole rounded up to its own
abbrev pub laid_out : (Shape → Extent) → Extent → List Part → Extent
laid_out extent so_far [] = record so_far { size = rounded_up so_far.size so_far.align }
laid_out extent so_far (p ∷ ps) =
    let e = extent p.shape in
    laid_out extent (record { size = rounded_up so_far.size e.align + e.size; align = max so_far.align e.align }) ps

-- the bytes of the largest part
abbrev pub largest : (Shape → Extent) → ℕ → List Part → ℕ
largest extent most [] = most
largest extent most (p ∷ ps) = let e = extent p.shape in largest extent (max most e.size) ps

-- no bytes: what is no struct or union of the program
abbrev pub no_extent : List ℕ → Extent
no_extent tag = record { size = 0; align = 1 }

-- 4 bytes and the largest member, rounded up to 4; the members are scalars, and no unions
abbrev pub union_extent : List Layout → List ℕ → Extent
union_extent unions tag =
    record { size = rounded_up (4 + largest (extent_by no_extent no_extent) 0 (parts_of unions tag)) 4; align = 4 }

-- the latest struct comes first, and is made of earlier ones
abbrev pub struct_extent : List Layout → List Layout → List ℕ → Extent
struct_extent unions [] tag = no_extent tag
struct_extent unions (l ∷ earlier) tag =
    (if bytes_eq l.tag tag
    then laid_out (extent_by (struct_extent unions earlier) (union_extent unions)) (no_extent tag) l.parts
    else struct_extent unions earlier tag)
