-- The tables of structs: what a struct is made of, where its members lie, and that it begins at its first byte.
use Rattle.std.proofs.Common.{◌≡◌, ℕ, zero, suc, ◌+◌, ◌*◌, ◌/◌, ◌<◌, ◌≤◌, List, [], ◌∷◌, ◌++◌, map, max, Bool, true, false, refl, sym, ap, ◌∙◌, subst, arith}
use Rattle.std.specs.Prelude.{bytes_eq, if◌then◌else◌}
use Rattle.std.proofs.Math.Nat.{div-eq_of_lt}
use Rattle.std.proofs.lemmas.Slice.Eq.{bytes_eq-Decides}
use Rattle.std.proofs.lemmas.Bool.{false≢true, true≢false}
use Rattle.source_meaning.specs.Shapes.{
  Shape,
  IntShape,
  UnsignedShape,
  CharShape,
  VoidShape,
  ThinShape,
  FatShape,
  HandleShape,
  KeyShape,
  StructShape,
  UnionShape,
  ArrayShape,
  Part,
  Layout,
  parts_of,
  part_shapes,
  has_tag,
}
use Rattle.source_meaning.specs.Sizes.{Extent, rounded_up, all_cells, struct_cells, laid_out, no_extent, struct_extent}
use Rattle.source_meaning.specs.Placing.{Placed, moved, all_placed, struct_placed}
use Rattle.source_lowering.specs.Lowerable.{IsObject, AreObjects, HasMember, AreUnions, IsStruct, AreStructs}
use Rattle.source_lowering.proofs.UnionSizes.{union_small}
pub use Rattle.source_lowering.specs.ObjectCells.{cells_in, placed_in, extent_in}

-- another struct's tag is another
other_tag : (structs : List Layout) (tag new : List ℕ) → has_tag structs tag ≡ true → has_tag structs new ≡ false → bytes_eq new tag ≡ false
other_tag structs tag new e f = by (bytes_eq new tag) refl
  where
    by : (b : Bool) → bytes_eq new tag ≡ b → bytes_eq new tag ≡ false
    by false g = g
    by true g =
        let same : new ≡ tag = (bytes_eq-Decides new tag).0 g in
        absurd (true≢false (sym e ∙ ap (has_tag structs) (sym same) ∙ f))

-- one more struct changes nothing of what is made of earlier ones
record IsStill (unions earlier : List Layout) (l : Layout) (s : Shape) : Type 0 where
  cells : cells_in (l ∷ earlier) s ≡ cells_in earlier s
  placed : placed_in unions (l ∷ earlier) s ≡ placed_in unions earlier s
  extent : extent_in unions (l ∷ earlier) s ≡ extent_in unions earlier s

still : (unions earlier : List Layout) (l : Layout) (s : Shape) → has_tag earlier l.tag ≡ false → IsObject unions earlier s → IsStill unions earlier l s
still unions earlier l (StructShape tag) new h =
    let other = other_tag earlier tag l.tag h new in
    record {
      cells = ap (λ b. if b then all_cells (cells_in earlier) l.parts else struct_cells earlier tag) other;
      placed = ap (λ b. if b then all_placed (placed_in unions earlier) (extent_in unions earlier) 0 l.parts else struct_placed unions earlier tag) other;
      extent = ap (λ b. if b then laid_out (extent_in unions earlier) (no_extent tag) l.parts else struct_extent unions earlier tag) other;
    }
still unions earlier l IntShape new h = record { cells = refl; placed = refl; extent = refl }
still unions earlier l UnsignedShape new h = record { cells = refl; placed = refl; extent = refl }
still unions earlier l CharShape new h = record { cells = refl; placed = refl; extent = refl }
still unions earlier l VoidShape new h = absurd h
still unions earlier l (ThinShape may_be_null owner to) new h = record { cells = refl; placed = refl; extent = refl }
still unions earlier l (FatShape to) new h = record { cells = refl; placed = refl; extent = refl }
still unions earlier l HandleShape new h = record { cells = refl; placed = refl; extent = refl }
still unions earlier l KeyShape new h = record { cells = refl; placed = refl; extent = refl }
still unions earlier l (UnionShape tag) new h = record { cells = refl; placed = refl; extent = refl }
still unions earlier l (ArrayShape count of) new h = absurd h

cells_still : (unions earlier : List Layout) (l : Layout) (ps : List Part) → has_tag earlier l.tag ≡ false → AreObjects unions earlier (part_shapes ps)
    → all_cells (cells_in (l ∷ earlier)) ps ≡ all_cells (cells_in earlier) ps
cells_still unions earlier l [] new h = refl
cells_still unions earlier l (p ∷ ps) new h =
    ap (λ z. z ++ all_cells (cells_in (l ∷ earlier)) ps) (still unions earlier l p.shape new h.0).cells ∙
    ap (λ z. cells_in earlier p.shape ++ z) (cells_still unions earlier l ps new h.1)

-- the cells of a member and of those after it
abbrev placed_one : List Placed → Extent → (ℕ → List Placed) → ℕ → List Placed
placed_one placed extent others so_far =
    let at = rounded_up so_far extent.align in map (moved at) placed ++ others (at + extent.size)

placed_still : (unions earlier : List Layout) (l : Layout) (ps : List Part) (so_far : ℕ) → has_tag earlier l.tag ≡ false
    → AreObjects unions earlier (part_shapes ps)
    → all_placed (placed_in unions (l ∷ earlier)) (extent_in unions (l ∷ earlier)) so_far ps
    ≡ all_placed (placed_in unions earlier) (extent_in unions earlier) so_far ps
placed_still unions earlier l [] so_far new h = refl
placed_still unions earlier l (p ∷ ps) so_far new h =
    let one = still unions earlier l p.shape new h.0 in
    let more : List Layout → ℕ → List Placed = λ ls n. all_placed (placed_in unions ls) (extent_in unions ls) n ps in
    let e = extent_in unions earlier p.shape in
    ap (λ z. placed_one z (extent_in unions (l ∷ earlier) p.shape) (more (l ∷ earlier)) so_far) one.placed ∙
    ap (λ z. placed_one (placed_in unions earlier p.shape) z (more (l ∷ earlier)) so_far) one.extent ∙
    ap (λ z. map (moved (rounded_up so_far e.align)) (placed_in unions earlier p.shape) ++ z)
    (placed_still unions earlier l ps (rounded_up so_far e.align + e.size) new h.1)

abbrev laid_one : Extent → Extent → Extent
laid_one e so_far = record { size = rounded_up so_far.size e.align + e.size; align = max so_far.align e.align }

extent_still : (unions earlier : List Layout) (l : Layout) (ps : List Part) (so_far : Extent) → has_tag earlier l.tag ≡ false
    → AreObjects unions earlier (part_shapes ps) → laid_out (extent_in unions (l ∷ earlier)) so_far ps ≡ laid_out (extent_in unions earlier) so_far ps
extent_still unions earlier l [] so_far new h = refl
extent_still unions earlier l (p ∷ ps) so_far new h =
    ap (λ z. laid_out (extent_in unions (l ∷ earlier)) (laid_one z so_far) ps) (still unions earlier l p.shape new h.0).extent ∙
    extent_still unions earlier l ps (laid_one (extent_in unions earlier p.shape) so_far) new h.1

-- ---- the members of a struct are declared

object_still : (unions : List Layout) (l : Layout) (earlier : List Layout) (s : Shape) → IsObject unions earlier s → IsObject unions (l ∷ earlier) s
object_still unions l earlier (StructShape tag) h = by (bytes_eq l.tag tag) refl
  where
    by : (b : Bool) → bytes_eq l.tag tag ≡ b → has_tag (l ∷ earlier) tag ≡ true
    by true e = ap (λ b. if b then true else has_tag earlier tag) e
    by false e = ap (λ b. if b then true else has_tag earlier tag) e ∙ h
object_still unions l earlier IntShape h = tt
object_still unions l earlier UnsignedShape h = tt
object_still unions l earlier CharShape h = tt
object_still unions l earlier VoidShape h = h
object_still unions l earlier (ThinShape may_be_null owner to) h = h
object_still unions l earlier (FatShape to) h = h
object_still unions l earlier HandleShape h = h
object_still unions l earlier KeyShape h = h
object_still unions l earlier (UnionShape tag) h = h
object_still unions l earlier (ArrayShape count of) h = h

objects_still : (unions : List Layout) (l : Layout) (earlier : List Layout) (ss : List Shape) → AreObjects unions earlier ss
    → AreObjects unions (l ∷ earlier) ss
objects_still unions l earlier [] h = tt
objects_still unions l earlier (s ∷ ss) h = (object_still unions l earlier s h.0, objects_still unions l earlier ss h.1)

-- what is known of the struct of a tag
pub record IsMade (unions structs : List Layout) (tag : List ℕ) : Type 0 where
  pub members : AreObjects unions structs (part_shapes (parts_of structs tag))
  pub some : has_tag structs tag ≡ true → HasMember (parts_of structs tag)
  pub cells : struct_cells structs tag ≡ all_cells (cells_in structs) (parts_of structs tag)
  pub placed : struct_placed unions structs tag ≡ all_placed (placed_in unions structs) (extent_in unions structs) 0 (parts_of structs tag)
  pub extent : struct_extent unions structs tag ≡ laid_out (extent_in unions structs) (no_extent tag) (parts_of structs tag)
  pub small : (struct_extent unions structs tag).size ≤ 4096

abbrev parts_by : Bool → Layout → List Layout → List ℕ → List Part
parts_by b l earlier tag = (if b then l.parts else parts_of earlier tag)

pub struct_made : (unions structs : List Layout) (tag : List ℕ) → AreStructs unions structs → IsMade unions structs tag
struct_made unions [] tag h = record {
  members = tt;
  some = λ e. absurd (false≢true e);
  cells = refl;
  placed = refl;
  extent = refl;
  small = omega arith;
}
struct_made unions (l ∷ earlier) tag h = by (bytes_eq l.tag tag) refl (struct_made unions earlier tag h.1)
  where
    structs : List Layout
    structs = l ∷ earlier

    one : IsStruct unions earlier l
    one = h.0

    by : (b : Bool) → bytes_eq l.tag tag ≡ b → IsMade unions earlier tag → IsMade unions structs tag
    by true e more =
        let parts : l.parts ≡ parts_of structs tag = sym (ap (λ b. parts_by b l earlier tag) e) in
        let same : l.tag ≡ tag = (bytes_eq-Decides l.tag tag).0 e in
        record {
          members = subst (λ z. AreObjects unions structs (part_shapes z)) parts (objects_still unions l earlier (part_shapes l.parts) one.members);
          some = λ f. subst HasMember parts one.some;
          cells = ap (λ b. if b then all_cells (cells_in earlier) l.parts else struct_cells earlier tag) e ∙
              sym (cells_still unions earlier l l.parts one.new one.members) ∙ ap (all_cells (cells_in structs)) parts;
          placed = ap (λ b. if b then all_placed (placed_in unions earlier) (extent_in unions earlier) 0 l.parts else struct_placed unions earlier tag) e ∙
              sym (placed_still unions earlier l l.parts 0 one.new one.members) ∙
              ap (all_placed (placed_in unions structs) (extent_in unions structs) 0) parts;
          extent = ap (λ b. if b then laid_out (extent_in unions earlier) (no_extent tag) l.parts else struct_extent unions earlier tag) e ∙
              sym (extent_still unions earlier l l.parts (no_extent tag) one.new one.members) ∙
              ap (laid_out (extent_in unions structs) (no_extent tag)) parts;
          small = subst (λ z. (struct_extent unions structs z).size ≤ 4096) same one.small;
        }
    by false e more =
        let parts : parts_of earlier tag ≡ parts_of structs tag = sym (ap (λ b. parts_by b l earlier tag) e) in
        let tags : has_tag structs tag ≡ has_tag earlier tag = ap (λ b. if b then true else has_tag earlier tag) e in
        let extent : struct_extent unions structs tag ≡ struct_extent unions earlier tag =
        ap (λ b. if b then laid_out (extent_in unions earlier) (no_extent tag) l.parts else struct_extent unions earlier tag) e in
        record {
          members = subst (λ z. AreObjects unions structs (part_shapes z)) parts
              (objects_still unions l earlier (part_shapes (parts_of earlier tag)) more.members);
          some = λ f. subst HasMember parts (more.some (sym tags ∙ f));
          cells = ap (λ b. if b then all_cells (cells_in earlier) l.parts else struct_cells earlier tag) e ∙ more.cells ∙
              sym (cells_still unions earlier l (parts_of earlier tag) one.new more.members) ∙ ap (all_cells (cells_in structs)) parts;
          placed = ap (λ b. if b then all_placed (placed_in unions earlier) (extent_in unions earlier) 0 l.parts else struct_placed unions earlier tag) e ∙
              more.placed ∙ sym (placed_still unions earlier l (parts_of earlier tag) 0 one.new more.members) ∙
              ap (all_placed (placed_in unions structs) (extent_in unions structs) 0) parts;
          extent = extent ∙ more.extent ∙ sym (extent_still unions earlier l (parts_of earlier tag) (no_extent tag) one.new more.members) ∙
              ap (laid_out (extent_in unions structs) (no_extent tag)) parts;
          small = subst (λ z. z.size ≤ 4096) (sym extent) more.small;
        }

-- ---- sizes

pub object_small : (unions structs : List Layout) (s : Shape) → AreUnions unions → AreStructs unions structs → IsObject unions structs s
    → (extent_in unions structs s).size ≤ 4096
object_small unions structs (StructShape tag) all h o = (struct_made unions structs tag h).small
object_small unions structs IntShape all h o = omega arith
object_small unions structs UnsignedShape all h o = omega arith
object_small unions structs CharShape all h o = omega arith
object_small unions structs VoidShape all h o = absurd o
object_small unions structs (ThinShape may_be_null owner to) all h o = omega arith
object_small unions structs (FatShape to) all h o = omega arith
object_small unions structs HandleShape all h o = omega arith
object_small unions structs KeyShape all h o = omega arith
object_small unions structs (UnionShape tag) all h o = let small = union_small unions tag all o in omega (arith, small)
object_small unions structs (ArrayShape count of) all h o = absurd o

pub rounded_zero : (a : ℕ) → rounded_up 0 a ≡ 0
rounded_zero zero = refl
rounded_zero (suc a) =
    let less : 0 + a < suc a = omega arith in
    let none : (0 + a) / suc a ≡ 0 = div-eq_of_lt less in
    ap (λ z. z * suc a) none ∙ omega arith
