-- Objects are small, and members lie within them.
use Rattle.std.proofs.Common.{◌≡◌, ℕ, ◌+◌, ◌≤◌, List, ◌∷◌, length, length-append, refl, sym, ap, subst, arith}
use Rattle.source_meaning.specs.Shapes.{Part, Shape, StructShape, parts_of}
use Rattle.source_meaning.specs.Sizes.{Extent, all_cells, cells_before, no_extent, rounded_up}
use Rattle.source_meaning.specs.Steps.{World}
use Rattle.source_meaning.specs.Conversions.{cells_of}
use Rattle.source_meaning.specs.Places.{struct_parts}
use Rattle.source_lowering.specs.Layouts.{bytes_before, bytes_through, extent_of}
use Rattle.source_lowering.specs.Lowered.{member_shape}
use Rattle.source_lowering.proofs.Structs.{struct_made}
use Rattle.source_lowering.proofs.Sizes.{any_union_small, part_cells, part_through, struct_fewer, through_above, through_laid, union_fewer}
use Rattle.source_meaning.proofs.Layouts.{rounded_above}
use Rattle.lower_checks.specs.Reaching.{Place, member_place, place_at_once, reached_place}
use Rattle.lower_checks.specs.Structs.{IsKnown, member_parts}
use Rattle.lower_checks.specs.Views.{shape_tree}
use Rattle.lower_checks.specs.Within.{AreSmall, AreWithin, IsWithin}
use Rattle.lower_checks.specs.declared.layouts.Known.{Known}
use Rattle.lower_checks.specs.declared.member.Reached.{Reached}
use Rattle.lower_checks.specs.declared.shape.Shape as code
use Rattle.lower_checks.specs.declared.shape.Shape.TheVariants as shape

-- ---- objects of the code's shapes

-- none takes more than 4,096 bytes
pub small_bytes : (w : World) (s : code.Shape) → AreSmall w → (extent_of w (shape_tree s)).size ≤ 4096
small_bytes w shape.Int small = omega arith
small_bytes w shape.Unsigned small = omega arith
small_bytes w shape.Char small = omega arith
small_bytes w shape.Void small = omega arith
small_bytes w (shape.Thin bound owner to) small = omega arith
small_bytes w (shape.Address owner signs to) small = omega arith
small_bytes w (shape.Fat to) small = omega arith
small_bytes w shape.Handle small = omega arith
small_bytes w shape.Key small = omega arith
small_bytes w (shape.Struct tag) small = (struct_made w.unions w.structs tag.now small.structs).small
small_bytes w (shape.Union tag) small = let few = any_union_small w.unions tag.now small.unions in omega (arith, few)

-- none has more cells than bytes
pub fewer_cells : (w : World) (s : code.Shape) → AreSmall w → length (cells_of w (shape_tree s)) ≤ (extent_of w (shape_tree s)).size
fewer_cells w shape.Int small = omega arith
fewer_cells w shape.Unsigned small = omega arith
fewer_cells w shape.Char small = omega arith
fewer_cells w shape.Void small = omega arith
fewer_cells w (shape.Thin bound owner to) small = omega arith
fewer_cells w (shape.Address owner signs to) small = omega arith
fewer_cells w (shape.Fat to) small = omega arith
fewer_cells w shape.Handle small = omega arith
fewer_cells w shape.Key small = omega arith
fewer_cells w (shape.Struct tag) small = struct_fewer w.unions w.structs small.structs tag.now
fewer_cells w (shape.Union tag) small = union_fewer w.unions tag.now

-- a struct of the code has at most 4,096 cells
pub known_cells : (w : World) (tag : List ℕ) (k : Known) → AreSmall w → IsKnown w.unions w.structs tag k
    → length k.layout.value.cells.items ≤ 4096
known_cells w tag k small is =
    let fewer = struct_fewer w.unions w.structs small.structs tag in
    let bytes = (struct_made w.unions w.structs tag small.structs).small in
    omega (arith, is.count, fewer, bytes)

-- ---- where members lie

-- a struct's members end within it, and have its cells
record EndWithin (w : World) (tag : List ℕ) (ps : List Part) : Type 0 where
  bytes : bytes_through (extent_of w) 0 ps ≤ (extent_of w (StructShape tag)).size
  cells : length (all_cells (cells_of w) ps) ≡ length (cells_of w (StructShape tag))

members_end : (w : World) (tag : List ℕ) → AreSmall w → EndWithin w tag (parts_of w.structs tag)
members_end w tag small =
    let made = struct_made w.unions w.structs tag small.structs in
    let parts : List Part = parts_of w.structs tag in
    record {
      bytes = subst (λ (e : Extent). bytes_through (extent_of w) 0 parts ≤ e.size) (sym made.extent) (through_laid (extent_of w) (no_extent tag) parts);
      cells = ap length (sym made.cells);
    }

-- so they end within 4,096 bytes and cells
pub members_within : (w : World) (tag : List ℕ) (k : Known) → AreSmall w → IsKnown w.unions w.structs tag k → AreWithin w 0 0 (member_parts k)
members_within w tag k small is =
    let end = members_end w tag small in
    let bytes = (struct_made w.unions w.structs tag small.structs).small in
    let fewer = struct_fewer w.unions w.structs small.structs tag in
    subst (AreWithin w 0 0) is.parts (record {
      ends = omega (arith, end.bytes, bytes);
      few = omega (arith, end.cells, bytes, fewer);
    })

-- ---- members one after the other

-- so many bytes lie before the next member, and behind it
pub record IsNextWithin (w : World) (bytes cells : ℕ) (p : Part) (ps : List Part) : Type 0 where
  pub before : bytes ≤ 4096
  pub at : rounded_up bytes (extent_of w p.shape).align ≤ 4096
  pub behind : rounded_up bytes (extent_of w p.shape).align + (extent_of w p.shape).size ≤ 4096
  pub few : cells + length (cells_of w p.shape) ≤ 4096
  pub others : AreWithin w (rounded_up bytes (extent_of w p.shape).align + (extent_of w p.shape).size) (cells + length (cells_of w p.shape)) ps

pub next_within : (w : World) (bytes cells : ℕ) (p : Part) (ps : List Part) → AreWithin w bytes cells (p ∷ ps) → IsNextWithin w bytes cells p ps
next_within w bytes cells p ps within =
    let e = extent_of w p.shape in
    let begins = rounded_above bytes e.align in
    let most : rounded_up bytes e.align + e.size ≤ bytes_through (extent_of w) bytes (p ∷ ps) =
    through_above (extent_of w) (rounded_up bytes e.align + e.size) ps in
    let ends = within.ends in
    let few = within.few in
    let both : length (all_cells (cells_of w) (p ∷ ps)) ≡ length (cells_of w p.shape) + length (all_cells (cells_of w) ps) =
    length-append (cells_of w p.shape) (all_cells (cells_of w) ps) in
    record {
      before = omega (arith, begins, most, ends);
      at = omega (arith, most, ends);
      behind = omega (arith, most, ends);
      few = omega (arith, few, both);
      others = record { ends = ends; few = omega (arith, few, both) };
    }

-- ---- places

-- a member lies within its struct
record IsMemberOf (w : World) (s : Shape) (f : List ℕ) : Type 0 where
  bytes : bytes_before (extent_of w) 0 (struct_parts w s) f + (extent_of w (member_shape w s f)).size ≤ (extent_of w s).size
  cells : cells_before (cells_of w) (struct_parts w s) f + length (cells_of w (member_shape w s f)) ≤ length (cells_of w s)

member_of : (w : World) (s : code.Shape) (f : List ℕ) → AreSmall w → IsMemberOf w (shape_tree s) f
member_of w (shape.Struct tag) f small =
    let end = members_end w tag.now small in
    let bytes = part_through (extent_of w) 0 (parts_of w.structs tag.now) f refl in
    let cells = part_cells (cells_of w) (parts_of w.structs tag.now) f refl in
    record { bytes = omega (arith, end.bytes, bytes); cells = omega (arith, end.cells, cells) }
member_of w shape.Int f small = record { bytes = omega arith; cells = omega arith }
member_of w shape.Unsigned f small = record { bytes = omega arith; cells = omega arith }
member_of w shape.Char f small = record { bytes = omega arith; cells = omega arith }
member_of w shape.Void f small = record { bytes = omega arith; cells = omega arith }
member_of w (shape.Thin bound owner to) f small = record { bytes = omega arith; cells = omega arith }
member_of w (shape.Address owner signs to) f small = record { bytes = omega arith; cells = omega arith }
member_of w (shape.Fat to) f small = record { bytes = omega arith; cells = omega arith }
member_of w shape.Handle f small = record { bytes = omega arith; cells = omega arith }
member_of w shape.Key f small = record { bytes = omega arith; cells = omega arith }
member_of w (shape.Union tag) f small = record { bytes = omega arith; cells = omega arith }

-- an object lies within itself
pub at_once_within : (w : World) (r : Reached) → reached_place r ≡ place_at_once (shape_tree r.shape) → IsWithin w (reached_place r)
at_once_within w r is =
    let bytes : r.bytes ≡ 0 = ap (λ (p : Place). p.bytes) is in
    let cells : r.cells ≡ 0 = ap (λ (p : Place). p.cells) is in
    record {
      whole = r.shape;
      inside = record { bytes = omega (arith, bytes); cells = omega (arith, cells) };
      near = omega (arith, bytes);
      few = omega (arith, cells);
    }

-- a member of what lies within an object does so too
pub member_within : (w : World) (r : Reached) (f : List ℕ) → AreSmall w → IsWithin w (reached_place r)
    → IsWithin w (member_place w (reached_place r) f)
member_within w r f small within =
    let member = member_of w r.shape f small in
    let bytes = small_bytes w within.whole small in
    let fewer = fewer_cells w within.whole small in
    let inside = within.inside in
    record {
      whole = within.whole;
      inside = record { bytes = omega (arith, member.bytes, inside.bytes); cells = omega (arith, member.cells, inside.cells) };
      near = omega (arith, member.bytes, inside.bytes, bytes);
      few = omega (arith, member.cells, inside.cells, fewer, bytes);
    }
