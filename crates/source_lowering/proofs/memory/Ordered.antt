-- The cells of an object lie one after the other, words at multiples of 4.
use Rattle.std.proofs.Common.{◌≡◌, ⊎_elim, ◌⊎◌, ℕ, ◌+◌, ◌%◌, ◌≤◌, inl, inr, List, [], ◌∷◌, ◌++◌, map, max, Bool, true, false, refl, sym, ap, ◌∙◌, subst, arith}
use Rattle.std.specs.Prelude.{bytes_eq, if◌then◌else◌}
use Rattle.std.proofs.lemmas.Bool.{false≢true}
use Rattle.source_meaning.specs.Shapes.{
  Shape,
  IntShape,
  UnsignedShape,
  CharShape,
  VoidShape,
  ThinShape,
  FatShape,
  HandleShape,
  KeyShape,
  StructShape,
  UnionShape,
  ArrayShape,
  Part,
  Layout,
  parts_of,
  part_shapes,
  has_tag,
}
use Rattle.source_meaning.specs.Sizes.{Extent, rounded_up, laid_out, no_extent, struct_extent}
use Rattle.source_meaning.specs.Placing.{Placed, moved, all_placed, struct_placed}
use Rattle.source_lowering.specs.Layouts.{has_fat, next_at}
use Rattle.source_lowering.specs.Lowered.{width_of}
use Rattle.source_lowering.specs.Lowerable.{IsObject, AreObjects, AreUnions, IsStruct, AreStructs}
use Rattle.source_lowering.proofs.UnionSizes.{union_bytes, union_size}
use Rattle.source_lowering.proofs.Structs.{placed_in, extent_in}
use Rattle.source_lowering.proofs.memory.StructCells.{AllHaveCells}
use Rattle.source_lowering.proofs.memory.Members.{next_after, have_cells}
use Rattle.source_lowering.proofs.memory.MovedParts.{next_moved}

-- ---- cells one after the other

-- how many bytes a cell takes: a fat pointer three words, a union its tag and the words of its largest member
abbrev pub bytes_taken : List Layout → Shape → ℕ
bytes_taken unions (FatShape to) = 12
bytes_taken unions (UnionShape tag) = union_bytes (has_fat (parts_of unions tag))
bytes_taken unions s = width_of s

-- each ends where the next begins, or before, the last within so many bytes
abbrev pub AreOrdered : List Layout → ℕ → List Placed → Type 0
AreOrdered unions end [] = Unit {0}
AreOrdered unions end (p ∷ ps) = (p.offset + bytes_taken unions p.shape ≤ next_at end ps) × AreOrdered unions end ps

-- a word lies at a multiple of 4, in an object that is aligned to 4
abbrev pub AreEven : ℕ → List Placed → Type 0
AreEven align [] = Unit {0}
AreEven align (p ∷ ps) = ((p.shape ≡ CharShape) ⊎ ((p.offset % 4 ≡ 0) × (align ≡ 4))) × AreEven align ps

-- aligned to 1 or to 4, and as long as that asks for
pub record HasAlign (e : Extent) : Type 0 where
  pub one : (e.align ≡ 1) ⊎ (e.align ≡ 4)
  pub even : e.align ≡ 4 → e.size % 4 ≡ 0

pub record IsOrdered (unions structs : List Layout) (s : Shape) : Type 0 where
  pub ordered : AreOrdered unions (extent_in unions structs s).size (placed_in unions structs s)
  pub aligned : HasAlign (extent_in unions structs s)
  pub even : AreEven (extent_in unions structs s).align (placed_in unions structs s)

abbrev AllOrdered : List Layout → List Layout → List Part → Type 0
AllOrdered unions structs [] = Unit {0}
AllOrdered unions structs (p ∷ ps) = IsOrdered unions structs p.shape × AllOrdered unions structs ps

ordered_moved : (unions : List Layout) (size bytes a : ℕ) (ps qs : List Placed) → AreOrdered unions size ps → a + size ≤ next_at bytes qs
    → AreOrdered unions bytes qs
    → AreOrdered unions bytes (map (moved a) ps ++ qs)
ordered_moved unions size bytes a [] qs h room others = others
ordered_moved unions size bytes a (p ∷ ps) qs h room others =
    let more = next_moved size bytes a ps qs room in
    let one = h.0 in
    (omega (arith, more, one), ordered_moved unions size bytes a ps qs h.1 room others)

parts_ordered : (unions structs : List Layout) (bytes : ℕ) (so_far : Extent) (ps : List Part) → AllOrdered unions structs ps → AllHaveCells unions structs ps
    → (laid_out (extent_in unions structs) so_far ps).size ≤ bytes
    → AreOrdered unions bytes (all_placed (placed_in unions structs) (extent_in unions structs) so_far.size ps)
parts_ordered unions structs bytes so_far [] h cells room = tt
parts_ordered unions structs bytes so_far (p ∷ ps) h cells room =
    let e = extent_in unions structs p.shape in
    let a = rounded_up so_far.size e.align in
    let next : Extent = record { size = a + e.size; align = max so_far.align e.align } in
    ordered_moved unions e.size bytes a (placed_in unions structs p.shape) _ h.0.ordered (next_after unions structs bytes next ps cells.1 room)
    (parts_ordered unions structs bytes next ps h.1 cells.1 room)

-- ---- alignment

abbrev IsOneOrFour : ℕ → Type 0
IsOneOrFour a = (a ≡ 1) ⊎ (a ≡ 4)

most : (a b : ℕ) → IsOneOrFour a → IsOneOrFour b → IsOneOrFour (max a b)
most a b h g =
    ⊎_elim (λ (e : a ≡ 1). ⊎_elim (λ (f : b ≡ 1). inl (omega (arith, e, f))) (λ (f : b ≡ 4). inr (omega (arith, e, f))) g)
    (λ (e : a ≡ 4). ⊎_elim (λ (f : b ≡ 1). inr (omega (arith, e, f))) (λ (f : b ≡ 4). inr (omega (arith, e, f))) g) h

first_four : (a b : ℕ) → IsOneOrFour b → a ≡ 4 → max a b ≡ 4
first_four a b h e = ⊎_elim (λ (f : b ≡ 1). omega (arith, e, f)) (λ (f : b ≡ 4). omega (arith, e, f)) h

second_four : (a b : ℕ) → IsOneOrFour a → b ≡ 4 → max a b ≡ 4
second_four a b h e = ⊎_elim (λ (f : a ≡ 1). omega (arith, e, f)) (λ (f : a ≡ 4). omega (arith, e, f)) h

rounded_even : (x a : ℕ) → a ≡ 4 → rounded_up x a % 4 ≡ 0
rounded_even x a e = subst (λ z. rounded_up x z % 4 ≡ 0) (sym e) (omega arith)

-- a struct's alignment is at least that of what was laid out before
pub record IsAligned (before : ℕ) (e : Extent) : Type 0 where
  pub aligned : HasAlign e
  pub kept : before ≡ 4 → e.align ≡ 4

parts_aligned : (unions structs : List Layout) (so_far : Extent) (ps : List Part) → IsOneOrFour so_far.align → AllOrdered unions structs ps
    → IsAligned so_far.align (laid_out (extent_in unions structs) so_far ps)
parts_aligned unions structs so_far [] h all = record {
  aligned = record { one = h; even = λ e. rounded_even so_far.size so_far.align e };
  kept = λ e. e;
}
parts_aligned unions structs so_far (p ∷ ps) h all =
    let e = extent_in unions structs p.shape in
    let next : Extent = record { size = rounded_up so_far.size e.align + e.size; align = max so_far.align e.align } in
    let more = parts_aligned unions structs next ps (most so_far.align e.align h all.0.aligned.one) all.1 in
    record { aligned = more.aligned; kept = λ f. more.kept (first_four so_far.align e.align all.0.aligned.one f) }

even_moved : (align final a : ℕ) (ps qs : List Placed) → (align ≡ 4 → (a % 4 ≡ 0) × (final ≡ 4)) → AreEven align ps → AreEven final qs
    → AreEven final (map (moved a) ps ++ qs)
even_moved align final a [] qs h even others = others
even_moved align final a (p ∷ ps) qs h even others = (
  ⊎_elim (λ (f : p.shape ≡ CharShape). inl f)
      (λ (f : (p.offset % 4 ≡ 0) × (align ≡ 4)).
      let two = h f.1 in
      let at_four = two.0 in
      let at = f.0 in
      inr (omega (arith, at_four, at), two.1)) even.0,
  even_moved align final a ps qs h even.1 others,
)

parts_even : (unions structs : List Layout) (final : ℕ) (so_far : Extent) (ps : List Part) → IsOneOrFour so_far.align → AllOrdered unions structs ps
    → (laid_out (extent_in unions structs) so_far ps).align ≡ final
    → AreEven final (all_placed (placed_in unions structs) (extent_in unions structs) so_far.size ps)
parts_even unions structs final so_far [] h all same = tt
parts_even unions structs final so_far (p ∷ ps) h all same =
    let e = extent_in unions structs p.shape in
    let next : Extent = record { size = rounded_up so_far.size e.align + e.size; align = max so_far.align e.align } in
    let one = most so_far.align e.align h all.0.aligned.one in
    let more = parts_aligned unions structs next ps one all.1 in
    even_moved e.align final (rounded_up so_far.size e.align) (placed_in unions structs p.shape) _
    (λ f. (rounded_even so_far.size e.align f, sym same ∙ more.kept (second_four so_far.align e.align h f))) all.0.even
    (parts_even unions structs final next ps one all.1 same)

-- ---- objects

word_ordered : (unions structs : List Layout) (s : Shape) → placed_in unions structs s ≡ (record { offset = 0; shape = s }) ∷ []
    → (extent_in unions structs s).size ≡ 4 → (extent_in unions structs s).align ≡ 4 → bytes_taken unions s ≡ 4 → IsOrdered unions structs s
word_ordered unions structs s placed size align width = record {
  ordered = subst (λ z. AreOrdered unions (extent_in unions structs s).size z) (sym placed) (omega (arith, size, width), tt);
  aligned = record { one = inr align; even = λ e. ap (λ z. z % 4) size };
  even = subst (λ z. AreEven (extent_in unions structs s).align z) (sym placed) (inr (refl, align), tt);
}

object_by : (unions structs : List Layout) (s : Shape) → AreUnions unions
    → ((tag : List ℕ) → has_tag structs tag ≡ true → IsOrdered unions structs (StructShape tag))
    → IsObject unions structs s → IsOrdered unions structs s
object_by unions structs (StructShape tag) us all o = all tag o
object_by unions structs IntShape us all o = word_ordered unions structs IntShape refl refl refl refl
object_by unions structs UnsignedShape us all o = word_ordered unions structs UnsignedShape refl refl refl refl
object_by unions structs CharShape us all o = record {
  ordered = (omega arith, tt);
  aligned = record { one = inl refl; even = λ e. absurd (omega (arith, e)) };
  even = (inl refl, tt);
}
object_by unions structs VoidShape us all o = absurd o
object_by unions structs (ThinShape b owner to) us all o = word_ordered unions structs (ThinShape b owner to) refl refl refl refl
object_by unions structs (FatShape to) us all o = record {
  ordered = (omega arith, tt);
  aligned = record { one = inr refl; even = λ e. refl };
  even = (inr (refl, refl), tt);
}
object_by unions structs HandleShape us all o = word_ordered unions structs HandleShape refl refl refl refl
object_by unions structs KeyShape us all o = word_ordered unions structs KeyShape refl refl refl refl
object_by unions structs (UnionShape tag) us all o =
    let size = union_size unions tag us o in
    record {
      ordered = (subst (λ z. 0 + union_bytes (has_fat (parts_of unions tag)) ≤ z) (sym size) (omega arith), tt);
      aligned = record { one = inr refl; even = λ e. ap (λ z. z % 4) size ∙ by (has_fat (parts_of unions tag)) };
      even = (inr (refl, refl), tt);
    }
  where
    by : (b : Bool) → union_bytes b % 4 ≡ 0
    by true = refl
    by false = refl
object_by unions structs (ArrayShape count of) us all o = absurd o

members_by : (unions structs : List Layout) (ps : List Part) → AreUnions unions
    → ((tag : List ℕ) → has_tag structs tag ≡ true → IsOrdered unions structs (StructShape tag))
    → AreObjects unions structs (part_shapes ps) → AllOrdered unions structs ps
members_by unions structs [] us all h = tt
members_by unions structs (p ∷ ps) us all h = (object_by unions structs p.shape us all h.0, members_by unions structs ps us all h.1)

-- a struct, as it is placed and as large as it is
struct_as : (unions structs : List Layout) (tag : List ℕ) (placed : List Placed) (extent : Extent) → struct_placed unions structs tag ≡ placed
    → struct_extent unions structs tag ≡ extent → AreOrdered unions extent.size placed → HasAlign extent → AreEven extent.align placed
    → IsOrdered unions structs (StructShape tag)
struct_as unions structs tag placed extent p e ordered aligned even = record {
  ordered = subst (λ z. AreOrdered unions z.size (struct_placed unions structs tag)) (sym e) (subst (λ z. AreOrdered unions extent.size z) (sym p) ordered);
  aligned = subst HasAlign (sym e) aligned;
  even = subst (λ z. AreEven z.align (struct_placed unions structs tag)) (sym e) (subst (λ z. AreEven extent.align z) (sym p) even);
}

struct_ordered : (unions structs : List Layout) → AreUnions unions → AreStructs unions structs → (tag : List ℕ) → has_tag structs tag ≡ true
    → IsOrdered unions structs (StructShape tag)
struct_ordered unions [] us h tag o = absurd (false≢true o)
struct_ordered unions (l ∷ earlier) us h tag o = by (bytes_eq l.tag tag) refl (λ t e. struct_ordered unions earlier us h.1 t e)
  where
    one : IsStruct unions earlier l
    one = h.0

    extent : Extent
    extent = laid_out (extent_in unions earlier) (no_extent tag) l.parts

    by : (b : Bool) → bytes_eq l.tag tag ≡ b → ((t : List ℕ) → has_tag earlier t ≡ true → IsOrdered unions earlier (StructShape t))
        → IsOrdered unions (l ∷ earlier) (StructShape tag)
    by true e all =
        let members = members_by unions earlier l.parts us all one.members in
        struct_as unions (l ∷ earlier) tag (all_placed (placed_in unions earlier) (extent_in unions earlier) 0 l.parts) extent
        (ap (λ b. if b then all_placed (placed_in unions earlier) (extent_in unions earlier) 0 l.parts else struct_placed unions earlier tag) e)
        (ap (λ b. if b then laid_out (extent_in unions earlier) (no_extent tag) l.parts else struct_extent unions earlier tag) e)
        (parts_ordered unions earlier extent.size (no_extent tag) l.parts members (have_cells unions earlier l.parts h.1 one.members) (omega arith))
        (parts_aligned unions earlier (no_extent tag) l.parts (inl refl) members).aligned
        (parts_even unions earlier extent.align (no_extent tag) l.parts (inl refl) members refl)
    by false e all =
        let more = all tag (sym (ap (λ b. if b then true else has_tag earlier tag) e) ∙ o) in
        struct_as unions (l ∷ earlier) tag (struct_placed unions earlier tag) (struct_extent unions earlier tag)
        (ap (λ b. if b then all_placed (placed_in unions earlier) (extent_in unions earlier) 0 l.parts else struct_placed unions earlier tag) e)
        (ap (λ b. if b then laid_out (extent_in unions earlier) (no_extent tag) l.parts else struct_extent unions earlier tag) e)
        more.ordered more.aligned more.even

pub object_ordered : (unions structs : List Layout) (s : Shape) → AreUnions unions → AreStructs unions structs → IsObject unions structs s
    → IsOrdered unions structs s
object_ordered unions structs s us h o = object_by unions structs s us (λ tag e. struct_ordered unions structs us h tag e) o
