-- Cells that lie as a layout's, as Core tests it.
use Rattle.std.specs.Prelude.{if◌then◌else◌, ◌&&◌, nat_eq, nat_le, nat_lt, map, slice_get, option_map}
use Rattle.std.proofs.Common.{
  ◌≡◌,
  ℕ,
  zero,
  suc,
  ◌+◌,
  ◌≤◌,
  Bool,
  true,
  false,
  Option,
  Some,
  None,
  List,
  [],
  ◌∷◌,
  length,
  refl,
  ap,
  ◌∙◌,
  sym,
  arith,
}
use Rattle.std.proofs.Math.Bool.{and-false}
use Rattle.std.proofs.Math.Dec.{eqb-suc-zero}
use Rattle.std.proofs.lemmas.Bool.Decides.{nat_tests}
use Rattle.std.proofs.lemmas.List.{length-map}
use Rattle.core_meaning.specs.Memory as memory
use Rattle.core_meaning.specs.Memory.{Region, Frame, Own, Born, Spot, PartShape, Memory, is_live}
use Rattle.core_meaning.specs.Steps.{Config}
use Rattle.core_meaning.specs.Operations.{is_part, are_parts, is_there}
use Rattle.core_meaning.specs.Operations as operations
use Rattle.cyc_core.specs.declared.layout.CellLayout.{CellLayout}
use Rattle.cyc_core.specs.declared.layout.Layout.{Layout}
use Rattle.cyc_core.specs.declared.operation.Width.{Width}
use Rattle.cyc_core.specs.declared.operation.Width.TheVariants as width
use Rattle.cyc_core.specs.Trees.{bytes_of, cell_parts, padding_parts, layout_tree}
use Rattle.core_eval.specs.declared.value.Area.{Area}
use Rattle.core_eval.specs.declared.value.Area.TheVariants as area
use Rattle.core_eval.specs.declared.value.Place.{Place}
use Rattle.core_eval.specs.declared.value.Value.{Value}
use Rattle.core_eval.specs.declared.value.Slot.{Slot}
use Rattle.core_eval.specs.declared.held.Held.{Held}
use Rattle.core_eval.specs.declared.held.Held.TheVariants as held
use Rattle.core_eval.specs.Values.{region_of, spot_of, place_spot, content_of, width_of, first_of, further_of, first_held, same_width, parts_from, part_in}
use Rattle.core_eval.specs.Blocks.{Activation, position_of, slot_in}
use Rattle.core_eval.specs.Regions.{region_at}
use Rattle.core_eval.specs.Whole.{has_behind, has_parts, is_cell, are_cells, are_elements, slots_of, is_found, is_held, are_laid, has_elements}
use Rattle.core_eval.specs.Pendings.{Wait, Mark}
use Rattle.core_eval.specs.Standing.{Known, Agrees}
use Rattle.core_eval.proofs.Parts.{nothing_at, shape_of, shapes_from, shapes_by, cell_shapes, parts_as}
use Rattle.core_eval.proofs.Born.{still_is}
use Rattle.core_eval.proofs.Nested.{position_there}
use Rattle.core_eval.proofs.Changes.{stored_in}
use Rattle.core_eval.proofs.MemoryMoves.{shown, shown_values, area_part}

-- ---- one cell

module _ (m : Memory) (t : Spot) (b : ℕ) where
  -- bytes that hold nothing, from the j-th behind some part on
  paddings_are : (up : ℕ → ℕ) → ((j : ℕ) → up (suc j) ≡ suc (up j)) → (from n : ℕ) → ((q : ℕ) → m.parts t (up q) ≡ nothing_at (nat_lt q n) (from + q))
      → (k j at : ℕ) → b + at ≡ from + j → j ≤ n → are_parts m t b (up j) (padding_parts at k) ≡ nat_le (j + k) n
  paddings_are up next from n there zero j at starts le = let e : nat_le (j + 0) n ≡ true = grind (arith, nat_tests, le) in sym e
  paddings_are up next from n there (suc k) j at starts le =
      ap (λ o. is_part o b (record { offset = at; width = 1; first = memory.Blank }) && are_parts m t b (suc (up j)) (padding_parts (at + 1) k)) (there j)
      ∙ ap (λ x. is_part (nothing_at (nat_lt j n) (from + j)) b (record { offset = at; width = 1; first = memory.Blank })
      && are_parts m t b x (padding_parts (at + 1) k)) (sym (next j))
      ∙ by (are_parts m t b (up (suc j)) (padding_parts (at + 1) k))
      (λ more. paddings_are up next from n there k (suc j) (at + 1) (omega (arith, starts)) more)
      (nat_lt j n) refl
    where
      by : (rest : Bool) → (suc j ≤ n → rest ≡ nat_le (suc j + k) n) → (is : Bool) → nat_lt j n ≡ is
          → (is_part (nothing_at is (from + j)) b (record { offset = at; width = 1; first = memory.Blank }) && rest) ≡ nat_le (j + suc k) n
      by rest others true less =
          let same : nat_eq (from + j) (b + at) ≡ true = grind (arith, nat_tests, starts) in
          let more : suc j ≤ n = grind (arith, nat_tests, less) in
          let one : suc j + k ≡ j + suc k = omega arith in
          ap (λ t. (t && true) && rest) same ∙ others more ∙ ap (λ k. nat_le k n) one
      by rest others false none = let e : nat_le (j + suc k) n ≡ false = grind (arith, nat_tests, none) in sym e

  -- all of them
  paddings_all : (up : ℕ → ℕ) → ((j : ℕ) → up (suc j) ≡ suc (up j)) → (from n : ℕ) → ((q : ℕ) → m.parts t (up q) ≡ nothing_at (nat_lt q n) (from + q))
      → (k at : ℕ) → b + at ≡ from → are_parts m t b (up 0) (padding_parts at k) ≡ nat_le k n
  paddings_all up next from n there k at starts =
      paddings_are up next from n there k 0 at (omega (arith, starts)) (omega arith) ∙ ap (λ x. nat_le x n) (let z : 0 + k ≡ k = omega arith in z)

  -- a first part that lies there, and what is behind it
  heads_same : (rest enough : Bool) (offset at : ℕ) → (offset ≡ b + at → rest ≡ enough)
      → ((nat_eq offset (b + at) && true) && rest) ≡ (nat_eq offset (b + at) && enough)
  heads_same rest enough offset at others = by (nat_eq offset (b + at)) refl
    where
      by : (is : Bool) → nat_eq offset (b + at) ≡ is → ((is && true) && rest) ≡ (is && enough)
      by true e = others (let same : offset ≡ b + at = grind (arith, nat_tests, e) in same)
      by false e = refl

  heads_differ : (is rest : Bool) → ((is && false) && rest) ≡ (is && false)
  heads_differ true rest = refl
  heads_differ false rest = refl

  -- no byte that holds nothing is as wide as a word, and no word as narrow
  nothing_wide : (is : Bool) (x at : ℕ) (v : Value) (rest : Bool) → (is_part (nothing_at is x) b (shape_of at 4 v) && rest) ≡ false
  nothing_wide true x at v rest = ap (λ t. t && rest) (and-false (nat_eq x (b + at)))
  nothing_wide false x at v rest = refl

  word_there : (x at : ℕ) → x ≡ b + at → nat_eq x (b + at) ≡ true
  word_there x at e = grind (arith, nat_tests, e)

  one_is : (wide offset n at k : ℕ) (v u : Value) → nat_eq wide wide ≡ true → ((j : ℕ) → m.parts t j ≡ parts_from offset wide n (v ∷ []) j)
      → are_parts m t b 0 (shape_of at wide u ∷ padding_parts (at + wide) k) ≡ (nat_eq offset (b + at) && nat_le k n)
  one_is wide offset n at k v u same there =
      ap (λ o. is_part o b (shape_of at wide u) && are_parts m t b 1 (padding_parts (at + wide) k)) (there 0)
      ∙ ap (λ w. (nat_eq offset (b + at) && w) && are_parts m t b 1 (padding_parts (at + wide) k)) same
      ∙ heads_same (are_parts m t b 1 (padding_parts (at + wide) k)) (nat_le k n) offset at
      (λ starts. paddings_all suc (λ j. refl) (offset + wide) n (λ q. there (suc q)) k (at + wide) (omega (arith, starts)))

  -- where the first parts have other widths
  other_width : (wide own offset at : ℕ) (v u : Value) (rest : List PartShape) → nat_eq own wide ≡ false
      → m.parts t 0 ≡ Some (record { offset = offset; width = own; content = content_of v })
      → are_parts m t b 0 (shape_of at wide u ∷ rest) ≡ (nat_eq offset (b + at) && false)
  other_width wide own offset at v u rest differ there =
      ap (λ o. is_part o b (shape_of at wide u) && are_parts m t b 1 rest) there
      ∙ ap (λ w. (nat_eq offset (b + at) && w) && are_parts m t b 1 rest) differ
      ∙ heads_differ (nat_eq offset (b + at)) (are_parts m t b 1 rest)

  -- words, and the bytes behind them
  words_are : (up : ℕ → ℕ) → ((j : ℕ) → up (suc j) ≡ suc (up j)) → (us vs : List Value) (from n at k : ℕ)
      → ((q : ℕ) → m.parts t (up q) ≡ parts_from from 4 n us q) → b + at ≡ from
      → are_parts m t b (up 0) (shapes_from at 4 k vs) ≡ has_behind us n vs k
  words_are up next [] [] from n at k there starts = paddings_all up next from n there k at starts
  words_are up next [] (v ∷ vs) from n at k there starts =
      let rest = are_parts m t b (suc (up 0)) (shapes_from (at + 4) 4 k vs) in
      ap (λ o. is_part o b (shape_of at 4 v) && rest) (there 0) ∙ nothing_wide (nat_lt 0 n) (from + 0) at v rest
  words_are up next (u ∷ us) [] from n at zero there starts = refl
  words_are up next (u ∷ us) [] from n at (suc k) there starts =
      let rest = are_parts m t b (suc (up 0)) (padding_parts (at + 1) k) in
      let narrow : PartShape = record { offset = at; width = 1; first = memory.Blank } in
      ap (λ o. is_part o b narrow && rest) (there 0) ∙ ap (λ x. x && rest) (and-false (nat_eq from (b + at))) ∙ sym (eqb-suc-zero k)
  words_are up next (u ∷ us) (v ∷ vs) from n at k there starts =
      ap (λ o. is_part o b (shape_of at 4 v) && are_parts m t b (suc (up 0)) (shapes_from (at + 4) 4 k vs)) (there 0)
      ∙ ap (λ e. (e && true) && are_parts m t b (suc (up 0)) (shapes_from (at + 4) 4 k vs)) (word_there from at (sym starts))
      ∙ ap (λ x. are_parts m t b x (shapes_from (at + 4) 4 k vs)) (sym (next 0))
      ∙ words_are (λ j. up (suc j)) (λ j. next (suc j)) us vs (from + 4) n (at + 4) k (λ q. there (suc q)) (omega (arith, starts))

  -- parts of one width each
  parts_are : (w x : Width) (u v : Value) (us vs : List Value) (offset n at k : ℕ) → (w ≡ width.Byte → us ≡ []) → (x ≡ width.Byte → vs ≡ [])
      → ((j : ℕ) → m.parts t j ≡ parts_from offset (bytes_of w) n (u ∷ us) j)
      → are_parts m t b 0 (shapes_from at (bytes_of x) k (v ∷ vs)) ≡ (nat_eq offset (b + at) && (same_width w x && has_behind us n vs k))
  parts_are width.Byte width.Byte u v [] [] offset n at k alone alone_too there = one_is 1 offset n at k u v refl there
  parts_are width.Byte width.Byte u v [] (y ∷ vs) offset n at k alone alone_too there = absurd (let no : y ∷ vs ≡ [] = alone_too refl in cc)
  parts_are width.Byte width.Byte u v (y ∷ us) vs offset n at k alone alone_too there = absurd (let no : y ∷ us ≡ [] = alone refl in cc)
  parts_are width.Byte width.Word u v us vs offset n at k alone alone_too there = other_width 4 1 offset at u v (shapes_from (at + 4) 4 k vs) refl (there 0)
  parts_are width.Word width.Byte u v us vs offset n at k alone alone_too there = other_width 1 4 offset at u v (shapes_from (at + 1) 1 k vs) refl (there 0)
  parts_are width.Word width.Word u v us vs offset n at k alone alone_too there =
      ap (λ o. is_part o b (shape_of at 4 v) && are_parts m t b 1 (shapes_from (at + 4) 4 k vs)) (there 0)
      ∙ heads_same (are_parts m t b 1 (shapes_from (at + 4) 4 k vs)) (has_behind us n vs k) offset at
      (λ starts. words_are suc (λ j. refl) us vs (offset + 4) n (at + 4) k (λ q. there (suc q)) (omega (arith, starts)))

  -- a byte has one part
  byte_alone : (h : Held) → width_of h ≡ width.Byte → further_of h ≡ []
  byte_alone (held.Byte v) e = refl
  byte_alone (held.Word v) e = cc
  byte_alone (held.Fat u v w) e = cc
  byte_alone (held.Tagged s v) e = cc
  byte_alone (held.TaggedFat s u v w) e = cc

  cell_is : (h g : Held) (offset n at k : ℕ) → ((j : ℕ) → m.parts t j ≡ parts_as h offset n j)
      → are_parts m t b 0 (shapes_by at g k) ≡ (nat_eq offset (b + at) && has_parts h n g k)
  cell_is h g offset n at k there =
      parts_are (width_of h) (width_of g) (first_of h) (first_of g) (further_of h) (further_of g) offset n at k (byte_alone h) (byte_alone g) there

  no_cell : (g : Held) (at k : ℕ) → m.parts t 0 ≡ None → are_parts m t b 0 (shapes_by at g k) ≡ false
  no_cell g at k none =
      let wide = bytes_of (width_of g) in
      ap (λ o. is_part o b (shape_of at wide (first_of g)) && are_parts m t b 1 (shapes_from (at + wide) wide k (further_of g))) none

  one_cell : (o : Option Slot) (c : CellLayout) → ((j : ℕ) → m.parts t j ≡ part_in o j) → are_parts m t b 0 (cell_parts c) ≡ is_cell o b c
  one_cell None c there = ap (are_parts m t b 0) (cell_shapes c) ∙ no_cell (first_held c.cell) c.offset c.padding (there 0)
  one_cell (Some s) c there = ap (are_parts m t b 0) (cell_shapes c) ∙ cell_is s.held (first_held c.cell) s.offset s.padding c.offset c.padding there

-- ---- the cells of an object

cells_are : (m : Memory) (r : Region) (i b : ℕ) (slots : ℕ → Option Slot) (cs : List CellLayout) (k : ℕ)
    → ((x j : ℕ) → m.parts (spot_of r i x) j ≡ part_in (slots x) j)
    → operations.are_laid m (spot_of r i k) b (map cell_parts cs) ≡ are_cells slots k b cs
cells_are m r i b slots [] k there = refl
cells_are m r i b slots (c ∷ cs) k there =
    ap (λ t. t && operations.are_laid m (spot_of r i (k + 1)) b (map cell_parts cs)) (one_cell m (spot_of r i k) b (slots k) c (there k))
    ∙ ap (λ t. is_cell (slots k) b c && t) (cells_are m r i b slots cs (k + 1) there)

-- and those of so many elements
elements_are : (m : Memory) (r : Region) (i : ℕ) (slots : ℕ → Option Slot) (l : Layout) (n k b : ℕ)
    → ((x j : ℕ) → m.parts (spot_of r i x) j ≡ part_in (slots x) j)
    → operations.are_elements m (spot_of r i k) b (layout_tree l) n ≡ are_elements slots k b l.cells.items l.bytes n
elements_are m r i slots l zero k b there = refl
elements_are m r i slots l (suc n) k b there =
    ap (λ t. t && operations.are_elements m (spot_of r i (k + length (map cell_parts l.cells.items))) (b + l.bytes) (layout_tree l) n)
    (cells_are m r i b slots l.cells.items k there)
    ∙ ap (λ x. are_cells slots k b l.cells.items && operations.are_elements m (spot_of r i (k + x)) (b + l.bytes) (layout_tree l) n)
    (length-map l.cells.items cell_parts)
    ∙ ap (λ t. are_cells slots k b l.cells.items && t) (elements_are m r i slots l n (k + length l.cells.items) (b + l.bytes) there)

module _ (known : Known) (ws : List Wait) (marks : List Mark) (c : Config) (h : Agrees known ws marks c) where
  block_at : (n p : ℕ) (o : Option Activation) → position_of known.blocks n ≡ Some p → slice_get known.blocks p ≡ o
      → is_live (c.memory.standing (Frame n)) ≡ true
  block_at n p None at e =
      let number = position_there known.blocks n p at in
      let none : option_map (λ (b : Activation). b.number) None ≡ Some n = ap (option_map (λ b. b.number)) (sym e) ∙ number in cc
  block_at n p (Some b) at e =
      let number = position_there known.blocks n p at in
      let some : Some b.number ≡ Some n = ap (option_map (λ b. b.number)) (sym e) ∙ number in
      let same : b.number ≡ n = cc in
      ap (λ k. is_live (c.memory.standing (Frame k))) (sym same) ∙ (shown known ws marks c h p b e).live

  values_at : (n p : ℕ) (o : Option Activation) → position_of known.owns n ≡ Some p → slice_get known.owns p ≡ o → is_live (c.memory.standing (Own n)) ≡ true
  values_at n p None at e =
      let number = position_there known.owns n p at in
      let none : option_map (λ (b : Activation). b.number) None ≡ Some n = ap (option_map (λ b. b.number)) (sym e) ∙ number in cc
  values_at n p (Some b) at e =
      let number = position_there known.owns n p at in
      let some : Some b.number ≡ Some n = ap (option_map (λ b. b.number)) (sym e) ∙ number in
      let same : b.number ≡ n = cc in
      ap (λ k. is_live (c.memory.standing (Own k))) (sym same) ∙ (shown_values known ws marks c h p b e).live

  -- which areas are live
  pub live_is : (a : Area) → is_live (c.memory.standing (region_of a)) ≡ is_held (stored_in known) a
  live_is area.Globals = h.globals.live
  live_is (area.Region n) = still_is c.memory (Born (suc n)) (region_at known.regions n) (h.born.each n)
  live_is (area.Block n) = by (position_of known.blocks n) refl
    where
      by : (o : Option ℕ) → position_of known.blocks n ≡ o → is_live (c.memory.standing (Frame n)) ≡ is_found o
      by None e = h.live n e
      by (Some p) e = block_at n p (slice_get known.blocks p) e refl
  live_is (area.Own n) = by (position_of known.owns n) refl
    where
      by : (o : Option ℕ) → position_of known.owns n ≡ o → is_live (c.memory.standing (Own n)) ≡ is_found o
      by None e = h.values_live n e
      by (Some p) e = values_at n p (slice_get known.owns p) e refl

  -- what a live area's memory has
  pub held_part : (a : Area) (i k j : ℕ) → is_held (stored_in known) a ≡ true
      → c.memory.parts (spot_of (region_of a) i k) j ≡ part_in (slot_in (stored_in known) a i k) j
  held_part a i k j held =
      sym (ap (λ b. if b then c.memory.parts (spot_of (region_of a) i k) j else None) (live_is a ∙ held)) ∙ area_part known ws marks c h a i k j

  pub laid_is : (p : Place) (cs : List CellLayout) (bytes : ℕ)
      → is_there c.memory (record { cells = map cell_parts cs; bytes = bytes }) (place_spot p) p.byte ≡ are_laid (stored_in known) p cs
  laid_is p cs bytes =
      ap (λ b. b && operations.are_laid c.memory (place_spot p) p.byte (map cell_parts cs)) (live_is p.area) ∙ by (is_held (stored_in known) p.area) refl
    where
      by : (b : Bool) → is_held (stored_in known) p.area ≡ b
          → b && operations.are_laid c.memory (place_spot p) p.byte (map cell_parts cs) ≡ b && are_cells (slots_of (stored_in known) p) p.cell p.byte cs
      by true held =
          cells_are c.memory (region_of p.area) p.object p.byte (slots_of (stored_in known) p) cs p.cell (λ x j. held_part p.area p.object x j held)
      by false gone = refl

  pub elements_is : (p : Place) (l : Layout) (count : ℕ)
      → (is_live (c.memory.standing (region_of p.area)) && operations.are_elements c.memory (place_spot p) p.byte (layout_tree l) count)
      ≡ has_elements (stored_in known) p l count
  elements_is p l count =
      ap (λ b. b && operations.are_elements c.memory (place_spot p) p.byte (layout_tree l) count) (live_is p.area) ∙ by (is_held (stored_in known) p.area) refl
    where
      by : (b : Bool) → is_held (stored_in known) p.area ≡ b
          → b && operations.are_elements c.memory (place_spot p) p.byte (layout_tree l) count
          ≡ b && are_elements (slots_of (stored_in known) p) p.cell p.byte l.cells.items l.bytes count
      by true held =
          elements_are c.memory (region_of p.area) p.object (slots_of (stored_in known) p) l count p.cell p.byte
          (λ x j. held_part p.area p.object x j held)
      by false gone = refl
