-- Where the cells of long blocks lie, as Core has them.
use Rattle.std.specs.Prelude.{if◌then◌else◌, ◌&&◌, ◌||◌, nat_eq, nat_lt, nat_le, slice_get, option_map}
use Rattle.std.proofs.Common.{
  ◌≡◌,
  ℕ,
  zero,
  suc,
  ◌+◌,
  ◌*◌,
  ◌/◌,
  ◌%◌,
  ◌<◌,
  ◌≤◌,
  Bool,
  true,
  false,
  Option,
  Some,
  None,
  List,
  [],
  ◌∷◌,
  ◌++◌,
  length,
  refl,
  ap,
  ◌∙◌,
  sym,
  arith,
}
use Rattle.std.proofs.lemmas.Bool.{and_parts}
use Rattle.std.proofs.lemmas.Bool.Decides.{nat_tests}
use Rattle.std.proofs.Math.Nat.{mul-le-mul_right}
use Rattle.core_meaning.specs.Memory.{Born, Memory, with_object, blanks}
use Rattle.core_meaning.specs.Operations.{too_far, lies_at}
use Rattle.cyc_core.specs.declared.layout.CellLayout.{CellLayout}
use Rattle.cyc_core.specs.declared.layout.Layout.{Layout}
use Rattle.cyc_core.specs.Trees.{layout_tree}
use Rattle.core_eval.specs.declared.value.Slot.{Slot}
use Rattle.core_eval.specs.Values.{spot_of, part_in}
use Rattle.core_eval.specs.Elements.{slot_from, block_cells}
use Rattle.core_eval.specs.LongBlocks.{LongBlock, has_far, is_long, with_long_block}
use Rattle.core_eval.specs.Blocks.{is_there}
use Rattle.core_eval.specs.Leading.{lies_in, lies_among}
use Rattle.core_eval.specs.Standing.{AreKept}
use Rattle.core_eval.proofs.Elements.{element_at, no_element, block_parts}

-- ---- where the cells of one lie

pub lies_is : (byte : ℕ) (o : Option Slot) → lies_at (part_in o 0) byte ≡ is_there byte o
lies_is byte None = refl
lies_is byte (Some s) = refl

-- a cell of an element that lies so many bytes on
abbrev pub lies_from : (before byte : ℕ) → Option CellLayout → Bool
lies_from before byte None = false
lies_from before byte (Some c) = nat_eq (before + c.offset) byte

from_there : (before byte : ℕ) (o : Option CellLayout) → is_there byte (option_map (slot_from false before) o) ≡ lies_from before byte o
from_there before byte None = refl
from_there before byte (Some c) = refl

module _ (cells : List CellLayout) (bytes count k byte : ℕ) where
  -- a block whose elements have no cells has none
  pub lies_nowhere : cells ≡ [] → lies_in cells bytes count k byte ≡ false
  lies_nowhere none =
      ap (λ slots. is_there byte (slice_get slots k)) (no_element (λ n. slot_from false (n * bytes)) cells 0 count none)

  -- else one is in its element
  pub lies_within : 0 < length cells
      → lies_in cells bytes count k byte
      ≡ (if nat_lt (k / length cells) count then lies_from (k / length cells * bytes) byte (slice_get cells (k % length cells)) else false)
  lies_within some =
      ap (is_there byte) (element_at (λ n. slot_from false (n * bytes)) cells 0 count k some)
      ∙ by (nat_lt (k / length cells) count)
    where
      by : (b : Bool)
          → is_there byte (if b then option_map (slot_from false ((0 + k / length cells) * bytes)) (slice_get cells (k % length cells)) else None)
          ≡ (if b then lies_from (k / length cells * bytes) byte (slice_get cells (k % length cells)) else false)
      by true =
          let first : 0 + k / length cells ≡ k / length cells = omega arith in
          ap (λ (e : ℕ). is_there byte (option_map (slot_from false (e * bytes)) (slice_get cells (k % length cells)))) first
          ∙ from_there (k / length cells * bytes) byte (slice_get cells (k % length cells))
      by false = refl

-- one of no element
pub lies_none : (cells : List CellLayout) (bytes count k byte : ℕ) → length cells ≡ 0 → false ≡ lies_in cells bytes count k byte
lies_none [] bytes count k byte none = sym (lies_nowhere [] bytes count k byte refl)
lies_none (c ∷ cells) bytes count k byte none = absurd (omega (arith, none))

module _ (cells : List CellLayout) (bytes count k byte size : ℕ) (counted : size ≡ length cells) (some : size ≡ 0 → ⊥) where
  abbrev said : (q r : ℕ) → Bool
  said q r = (if nat_lt q count then lies_from (q * bytes) byte (slice_get cells r) else false)

  lies_said : lies_in cells bytes count k byte ≡ said (k / size) (k % size)
  lies_said =
      lies_within cells bytes count k byte (let filled : 0 < size = pos_of_ne size some in omega (arith, counted, filled))
      ∙ ap (λ (n : ℕ). said (k / n) (k % n)) (sym counted)
    where
      pos_of_ne : (n : ℕ) → (n ≡ 0 → ⊥) → 0 < n
      pos_of_ne zero other = absurd (other refl)
      pos_of_ne (suc n) other = omega arith

  -- one behind the last element
  pub lies_past : count ≤ k / size → false ≡ lies_in cells bytes count k byte
  lies_past past =
      let later : nat_lt (k / size) count ≡ false = grind (arith, nat_tests, past) in
      sym (lies_said ∙ ap (λ b. if b then lies_from (k / size * bytes) byte (slice_get cells (k % size)) else false) later)

  -- one that its element doesn't have
  pub lies_missing : slice_get cells (k % size) ≡ None → false ≡ lies_in cells bytes count k byte
  lies_missing none =
      sym (lies_said ∙ ap (λ o. if nat_lt (k / size) count then lies_from (k / size * bytes) byte o else false) none ∙ by (nat_lt (k / size) count))
    where
      by : (b : Bool) → (if b then false else false) ≡ false
      by true = refl
      by false = refl

  -- one of an element
  pub lies_here : (element : ℕ) (c : CellLayout) → element ≡ k / size → element < count → slice_get cells (k % size) ≡ Some c
      → nat_eq (element * bytes + c.offset) byte ≡ lies_in cells bytes count k byte
  lies_here element c is less at =
      let within : nat_lt element count ≡ true = grind (arith, nat_tests, less) in
      sym (lies_said ∙ ap (λ (q : ℕ). said q (k % size)) (sym is)
      ∙ ap (λ b. if b then lies_from (element * bytes) byte (slice_get cells (k % size)) else false) within
      ∙ ap (lies_from (element * bytes) byte) at)

-- ---- one that isn't long

near : (from : ℕ) (cells : List CellLayout) (r : ℕ) (c : CellLayout) → has_far from cells ≡ false → slice_get cells r ≡ Some c → from + c.offset < too_far
near from [] r c none at = absurd (cc at)
near from (x ∷ cells) zero c none at =
    let same : x ≡ c = cc at in
    let less : nat_le too_far (from + x.offset) ≡ false = first_false (nat_le too_far (from + x.offset)) (has_far from cells) none in
    let less' : nat_le too_far (from + c.offset) ≡ false = ap (λ (y : CellLayout). nat_le too_far (from + y.offset)) (sym same) ∙ less in
    grind (arith, nat_tests, less')
  where
    first_false : (a b : Bool) → (a || b) ≡ false → a ≡ false
    first_false true b e = absurd (cc e)
    first_false false b e = refl
near from (x ∷ cells) (suc r) c none at = near from cells r c (later_false (nat_le too_far (from + x.offset)) (has_far from cells) none) at
  where
    later_false : (a b : Bool) → (a || b) ≡ false → b ≡ false
    later_false true b e = absurd (cc e)
    later_false false b e = e

-- no cell of such a block lies too far on
pub not_long : (cells : List CellLayout) (bytes count k byte : ℕ) → is_long cells bytes count ≡ false → nat_lt byte too_far ≡ false
    → lies_in cells bytes count k byte ≡ false
not_long cells bytes zero k byte short far = refl
not_long cells bytes (suc last) k byte short far = by cells refl
  where
    within : (b : Bool) (o : Option CellLayout) → nat_lt (k / length cells) (suc last) ≡ b → slice_get cells (k % length cells) ≡ o
        → (if b then lies_from (k / length cells * bytes) byte o else false) ≡ false
    within false o less at = refl
    within true None less at = refl
    within true (Some c) less at =
        let before : k / length cells ≤ last = grind (arith, nat_tests, less) in
        let times = mul-le-mul_right bytes before in
        let reach = near (last * bytes) cells (k % length cells) c short at in
        let further : too_far ≤ byte = grind (arith, nat_tests, far) in
        let less' : k / length cells * bytes + c.offset < byte = omega (arith, times, reach, further) in
        grind (arith, nat_tests, less')

    by : (cs : List CellLayout) → cells ≡ cs → lies_in cells bytes (suc last) k byte ≡ false
    by [] none = lies_nowhere cells bytes (suc last) k byte none
    by (c ∷ cs) some =
        let long : length cells ≡ suc (length cs) = ap length some in
        lies_within cells bytes (suc last) k byte (omega (arith, long))
        ∙ within (nat_lt (k / length cells) (suc last)) (slice_get cells (k % length cells)) refl refl

-- ---- a block more

-- whether a cell of this block lies so many bytes on
abbrev lies_of : LongBlock → (n i k byte : ℕ) → Bool
lies_of b n i k byte = nat_eq b.region n && nat_eq b.object i && lies_in b.cells b.bytes b.count k byte

among_more : (bs : List LongBlock) (b : LongBlock) (n i k byte : ℕ)
    → lies_among (bs ++ b ∷ []) n i k byte ≡ (lies_among bs n i k byte || lies_of b n i k byte)
among_more [] b n i k byte = by (lies_of b n i k byte)
  where
    by : (t : Bool) → (t || false) ≡ t
    by true = refl
    by false = refl
among_more (x ∷ bs) b n i k byte =
    ap (λ t. lies_of x n i k byte || t) (among_more bs b n i k byte)
    ∙ by (lies_of x n i k byte)
  where
    by : (t : Bool)
        → (t || (lies_among bs n i k byte || lies_of b n i k byte)) ≡ ((t || lies_among bs n i k byte) || lies_of b n i k byte)
    by true = refl
    by false = refl

module _ (bs : List LongBlock) (region object : ℕ) (l : Layout) (count k byte : ℕ) where
  abbrev new_block : LongBlock
  new_block = record { region = region; object = object; cells = l.cells.items; bytes = l.bytes; count = count }

  -- of another block nothing changes
  among_other : (n i : ℕ) → nat_eq n region && nat_eq i object ≡ false
      → lies_among (with_long_block bs region object l count) n i k byte ≡ lies_among bs n i k byte
  among_other n i other = by (is_long l.cells.items l.bytes count)
    where
      unlike : nat_eq region n && nat_eq object i ≡ false
      unlike = grind (arith, nat_tests, other)

      none : lies_of new_block n i k byte ≡ false
      none = ap (λ t. t && lies_in l.cells.items l.bytes count k byte) unlike

      last_false : (a : Bool) → (a || false) ≡ a
      last_false true = refl
      last_false false = refl

      by : (t : Bool) → lies_among (if t then bs ++ new_block ∷ [] else bs) n i k byte ≡ lies_among bs n i k byte
      by true = among_more bs new_block n i k byte ∙ ap (λ t. lies_among bs n i k byte || t) none ∙ last_false (lies_among bs n i k byte)
      by false = refl

  -- its own cells are kept, if one lies too far on
  among_new : nat_lt byte too_far ≡ false → lies_among bs region object k byte ≡ false
      → lies_among (with_long_block bs region object l count) region object k byte ≡ lies_in l.cells.items l.bytes count k byte
  among_new far before = by (is_long l.cells.items l.bytes count) refl
    where
      own : lies_of new_block region object k byte ≡ lies_in l.cells.items l.bytes count k byte
      own =
          let first : nat_eq region region ≡ true = grind (arith, nat_tests) in
          let second : nat_eq object object ≡ true = grind (arith, nat_tests) in
          rw (first, second) refl

      by : (t : Bool) → is_long l.cells.items l.bytes count ≡ t
          → lies_among (if t then bs ++ new_block ∷ [] else bs) region object k byte ≡ lies_in l.cells.items l.bytes count k byte
      by true long =
          among_more bs new_block region object k byte ∙ ap (λ t. t || lies_of new_block region object k byte) before ∙ own
      by false short = before ∙ sym (not_long l.cells.items l.bytes count k byte short far)

-- all is kept where a region gets a block
pub kept_grown : (m : Memory) (bs : List LongBlock) → AreKept m bs → (n object : ℕ) → m.objects (Born (suc n)) ≡ object
    → ((k : ℕ) → m.parts (spot_of (Born (suc n)) object k) 0 ≡ None) → (l : Layout) (count : ℕ)
    → AreKept (with_object m (Born (suc n)) (blanks (layout_tree l) count)) (with_long_block bs n object l count)
kept_grown m bs kept n object counted none l count q i k byte far =
    ap (λ b. lies_at (if b && nat_eq i (m.objects (Born (suc n))) then blanks (layout_tree l) count k 0 else m.parts (spot_of (Born (suc q)) i k) 0) byte) same
    ∙ ap (λ (x : ℕ). lies_at (if nat_eq q n && nat_eq i x then blanks (layout_tree l) count k 0 else m.parts (spot_of (Born (suc q)) i k) 0) byte) counted
    ∙ by (nat_eq q n && nat_eq i object) refl
  where
    same : nat_eq (suc q) (suc n) ≡ nat_eq q n
    same = grind (arith, nat_tests)

    by : (b : Bool) → nat_eq q n && nat_eq i object ≡ b
        → lies_at (if b then blanks (layout_tree l) count k 0 else m.parts (spot_of (Born (suc q)) i k) 0) byte
        ≡ lies_among (with_long_block bs n object l count) q i k byte
    by true here =
        let both = and_parts (nat_eq q n) (nat_eq i object) here in
        let first : q ≡ n = (let e = both.0 in grind (arith, nat_tests, e)) in
        let second : i ≡ object = (let e = both.1 in grind (arith, nat_tests, e)) in
        let before : lies_among bs n object k byte ≡ false = sym (kept n object k byte far) ∙ ap (λ p. lies_at p byte) (none k) in
        ap (λ p. lies_at p byte) (block_parts l count k 0)
        ∙ lies_is byte (slice_get (block_cells false l count) k)
        ∙ sym (among_new bs n object l count k byte far before)
        ∙ ap (λ (x : ℕ). lies_among (with_long_block bs n object l count) x object k byte) (sym first)
        ∙ ap (λ (x : ℕ). lies_among (with_long_block bs n object l count) q x k byte) (sym second)
    by false other = kept q i k byte far ∙ sym (among_other bs n object l count k byte q i other)
