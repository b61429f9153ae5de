-- How far the members of a struct lie within it, and that nothing has more cells than bytes.
use Rattle.std.proofs.Common.{◌≡◌, ℕ, ◌+◌, ◌≤◌, List, [], ◌∷◌, length, length-append, max, Bool, true, false, refl, ap, arith}
use Rattle.std.specs.Prelude.{bytes_eq, if◌then◌else◌}
use Rattle.source_meaning.proofs.Layouts.{no_parts, rounded_above}
use Rattle.source_meaning.specs.Shapes.{
  Shape,
  IntShape,
  UnsignedShape,
  CharShape,
  VoidShape,
  ThinShape,
  FatShape,
  HandleShape,
  KeyShape,
  StructShape,
  UnionShape,
  ArrayShape,
  Part,
  Layout,
  has_tag,
  part_shape,
  part_shapes,
  parts_of,
}
use Rattle.source_meaning.specs.Sizes.{
  Extent,
  all_cells,
  cells_before,
  extent_by,
  laid_out,
  largest,
  no_extent,
  rounded_up,
  struct_cells,
  struct_extent,
  union_extent,
}
use Rattle.source_lowering.specs.Layouts.{bytes_before, bytes_through}
use Rattle.source_lowering.specs.Lowerable.{IsObject, AreObjects, AreUnions, AreStructs}
use Rattle.source_lowering.proofs.UnionSizes.{union_small}
use Rattle.source_lowering.proofs.Structs.{cells_in, extent_in}

-- ---- where parts end

-- no sooner than they begin
pub through_above : (extent : Shape → Extent) (n : ℕ) (ps : List Part) → n ≤ bytes_through extent n ps
through_above extent n [] = omega arith
through_above extent n (p ∷ ps) =
    let e = extent p.shape in
    let further : rounded_up n e.align + e.size ≤ bytes_through extent n (p ∷ ps) = through_above extent (rounded_up n e.align + e.size) ps in
    omega (arith, rounded_above n e.align, further)

-- no later than the whole
pub through_laid : (extent : Shape → Extent) (s : Extent) (ps : List Part) → bytes_through extent s.size ps ≤ (laid_out extent s ps).size
through_laid extent s [] = rounded_above s.size s.align
through_laid extent s (p ∷ ps) =
    let e = extent p.shape in
    through_laid extent (record { size = rounded_up s.size e.align + e.size; align = max s.align e.align }) ps

-- a part ends no later than all; what no part is ends where they do
pub part_through : (extent : Shape → Extent) (n : ℕ) (ps : List Part) (f : List ℕ) → (extent VoidShape).size ≡ 0
    → bytes_before extent n ps f + (extent (part_shape ps f)).size ≤ bytes_through extent n ps
part_through extent n [] f none = omega (arith, none)
part_through extent n (p ∷ ps) f none =
    by (bytes_eq p.name f) (part_through extent (rounded_up n (extent p.shape).align + (extent p.shape).size) ps f none)
  where
    at : ℕ
    at = rounded_up n (extent p.shape).align

    next : ℕ
    next = at + (extent p.shape).size

    by : (own : Bool) → bytes_before extent next ps f + (extent (part_shape ps f)).size ≤ bytes_through extent next ps
        → (if own then at else bytes_before extent next ps f) + (extent (if own then p.shape else part_shape ps f)).size ≤ bytes_through extent next ps
    by true more = through_above extent next ps
    by false more = more

-- ---- cells of parts

-- those before a part and its own are among all
pub part_cells : (cells : Shape → List Shape) (ps : List Part) (f : List ℕ) → length (cells VoidShape) ≡ 0
    → cells_before cells ps f + length (cells (part_shape ps f)) ≤ length (all_cells cells ps)
part_cells cells [] f none = omega (arith, none)
part_cells cells (p ∷ ps) f none = by (bytes_eq p.name f) (part_cells cells ps f none)
  where
    both : length (all_cells cells (p ∷ ps)) ≡ length (cells p.shape) + length (all_cells cells ps)
    both = length-append (cells p.shape) (all_cells cells ps)

    by : (own : Bool) → cells_before cells ps f + length (cells (part_shape ps f)) ≤ length (all_cells cells ps)
        → (if own then 0 else length (cells p.shape) + cells_before cells ps f) + length (cells (if own then p.shape else part_shape ps f))
        ≤ length (all_cells cells (p ∷ ps))
    by true more = omega (arith, both)
    by false more = omega (arith, both, more)

-- each of them has at most as many cells as bytes
abbrev AreFewer : (Shape → List Shape) → (Shape → Extent) → List Part → Type 0
AreFewer cells extent [] = Unit {0}
AreFewer cells extent (p ∷ ps) = (length (cells p.shape) ≤ (extent p.shape).size) × AreFewer cells extent ps

-- so have all
parts_fewer : (cells : Shape → List Shape) (extent : Shape → Extent) (n : ℕ) (ps : List Part) → AreFewer cells extent ps
    → n + length (all_cells cells ps) ≤ bytes_through extent n ps
parts_fewer cells extent n [] h = omega arith
parts_fewer cells extent n (p ∷ ps) h =
    let e = extent p.shape in
    let one = h.0 in
    let both : length (all_cells cells (p ∷ ps)) ≡ length (cells p.shape) + length (all_cells cells ps) =
    length-append (cells p.shape) (all_cells cells ps) in
    let more : rounded_up n e.align + e.size + length (all_cells cells ps) ≤ bytes_through extent n (p ∷ ps) =
    parts_fewer cells extent (rounded_up n e.align + e.size) ps h.1 in
    omega (arith, rounded_above n e.align, both, one, more)

-- ---- objects

-- no struct has more cells than bytes
abbrev EachFewer : List Layout → List Layout → Type 0
EachFewer unions structs = (tag : List ℕ) → length (struct_cells structs tag) ≤ (struct_extent unions structs tag).size

pub union_fewer : (unions : List Layout) (tag : List ℕ) → 1 ≤ (union_extent unions tag).size
union_fewer unions tag =
    let most = largest (extent_by no_extent no_extent) 0 (parts_of unions tag) in
    let more : 4 + most ≤ (union_extent unions tag).size = rounded_above (4 + most) 4 in
    omega (arith, more)

object_fewer : (unions structs : List Layout) (s : Shape) → EachFewer unions structs → IsObject unions structs s
    → length (cells_in structs s) ≤ (extent_in unions structs s).size
object_fewer unions structs (StructShape tag) each o = each tag
object_fewer unions structs IntShape each o = omega arith
object_fewer unions structs UnsignedShape each o = omega arith
object_fewer unions structs CharShape each o = omega arith
object_fewer unions structs VoidShape each o = absurd o
object_fewer unions structs (ThinShape may_be_null owner to) each o = omega arith
object_fewer unions structs (FatShape to) each o = omega arith
object_fewer unions structs HandleShape each o = omega arith
object_fewer unions structs KeyShape each o = omega arith
object_fewer unions structs (UnionShape tag) each o = union_fewer unions tag
object_fewer unions structs (ArrayShape count of) each o = absurd o

objects_fewer : (unions structs : List Layout) (ps : List Part) → EachFewer unions structs → AreObjects unions structs (part_shapes ps)
    → AreFewer (cells_in structs) (extent_in unions structs) ps
objects_fewer unions structs [] each h = tt
objects_fewer unions structs (p ∷ ps) each h = (object_fewer unions structs p.shape each h.0, objects_fewer unions structs ps each h.1)

pub struct_fewer : (unions structs : List Layout) → AreStructs unions structs → (tag : List ℕ)
    → length (struct_cells structs tag) ≤ (struct_extent unions structs tag).size
struct_fewer unions [] h tag = omega arith
struct_fewer unions (l ∷ earlier) h tag = by (bytes_eq l.tag tag) (struct_fewer unions earlier h.1)
  where
    by : (own : Bool) → EachFewer unions earlier
        → length (if own then all_cells (cells_in earlier) l.parts else struct_cells earlier tag)
        ≤ (if own then laid_out (extent_in unions earlier) (no_extent tag) l.parts else struct_extent unions earlier tag).size
    by true each =
        let fewer = parts_fewer (cells_in earlier) (extent_in unions earlier) 0 l.parts (objects_fewer unions earlier l.parts each h.0.members) in
        let ends = through_laid (extent_in unions earlier) (no_extent tag) l.parts in
        omega (arith, fewer, ends)
    by false each = each tag

-- the bytes of a union, or of a tag where there is none
pub any_union_small : (unions : List Layout) (tag : List ℕ) → AreUnions unions → (union_extent unions tag).size ≤ 16
any_union_small unions tag h = by (has_tag unions tag) refl
  where
    by : (has : Bool) → has_tag unions tag ≡ has → (union_extent unions tag).size ≤ 16
    by true is = union_small unions tag h is
    by false is =
        let none : (union_extent unions tag).size ≡ 4 =
        ap (λ (ps : List Part). rounded_up (4 + largest (extent_by no_extent no_extent) 0 ps) 4) (no_parts unions tag is) in
        omega (arith, none)
