-- Blocks of which the last elements aren't made yet.
use Rattle.std.specs.Prelude.{slice_get, slice_set, option_map, nat_lt, if◌then◌else◌}
use Rattle.std.proofs.Common.{
  ◌≡◌,
  ℕ,
  zero,
  suc,
  ◌+◌,
  ◌-◌,
  ◌*◌,
  ◌/◌,
  ◌%◌,
  ◌<◌,
  ◌≤◌,
  true,
  false,
  Option,
  None,
  List,
  [],
  ◌∷◌,
  ◌++◌,
  length,
  refl,
  ap,
  ◌∙◌,
  sym,
  append-nil,
  arith,
}
use Rattle.std.proofs.lemmas.Bool.Decides.{nat_tests}
use Rattle.std.proofs.lemmas.List.{set-append_left}
use Rattle.cyc_core.specs.declared.layout.CellLayout.{CellLayout}
use Rattle.core_eval.specs.declared.value.Slot.{Slot}
use Rattle.core_eval.specs.declared.begun.Begun.{Begun}
use Rattle.core_eval.specs.Elements.{begun_cells, elements_from, slot_from}
use Rattle.core_eval.proofs.Elements.{element_at, in_element, no_element}

-- ---- a cell of elements that aren't made

module _ (cells : List CellLayout) (bytes first left before size : ℕ) (counted : size ≡ length cells) where
  abbrev of : ℕ → CellLayout → Slot
  of n = slot_from false (n * bytes)

  -- elements that have no cell
  pub blank_nowhere : size ≡ 0 → None ≡ slice_get (elements_from false cells bytes first left) before
  blank_nowhere none = by cells refl
    where
      by : (cs : List CellLayout) → cells ≡ cs → None ≡ slice_get (elements_from false cells bytes first left) before
      by [] is = sym (ap (λ (l : List Slot). slice_get l before) (no_element of cells first left is))
      by (c ∷ cs) is = let long : length cells ≡ suc (length cs) = ap (λ (l : List CellLayout). length l) is in absurd (omega (arith, counted, none, long))

  module _ (some : size ≡ 0 → ⊥) where
    blank_said : slice_get (elements_from false cells bytes first left) before ≡ in_element of cells first left (before / size) (before % size)
    blank_said =
        element_at of cells first left before (let filled : 0 < size = pos_of_ne size some in omega (arith, counted, filled))
        ∙ ap (λ (n : ℕ). in_element of cells first left (before / n) (before % n)) (sym counted)
      where
        pos_of_ne : (n : ℕ) → (n ≡ 0 → ⊥) → 0 < n
        pos_of_ne zero other = absurd (other refl)
        pos_of_ne (suc n) other = omega arith

    -- one behind the last element
    pub blank_past : left ≤ before / size → None ≡ slice_get (elements_from false cells bytes first left) before
    blank_past past =
        let later : nat_lt (before / size) left ≡ false = grind (arith, nat_tests, past) in
        sym (blank_said ∙ ap (λ b. if b then option_map (of (first + before / size)) (slice_get cells (before % size)) else None) later)

    -- one of an element
    pub blank_here : (o : Option CellLayout) → before / size < left → slice_get cells (before % size) ≡ o
        → option_map (of (first + before / size)) o ≡ slice_get (elements_from false cells bytes first left) before
    blank_here o less at =
        let within : nat_lt (before / size) left ≡ true = grind (arith, nat_tests, less) in
        sym (blank_said
        ∙ ap (λ b. if b then option_map (of (first + before / size)) (slice_get cells (before % size)) else None) within
        ∙ ap (option_map (of (first + before / size))) at)

-- ---- the cells of a block

-- one that is made is set
pub made_set : (b : Begun) (k : ℕ) (s : Slot) → k < length b.slots.items
    → slice_set b.slots.items k s ++ elements_from false b.layout.value.cells.items b.layout.value.bytes b.made (b.count - b.made)
    ≡ slice_set (begun_cells b) k s
made_set b k s less =
    sym (set-append_left b.slots.items (elements_from false b.layout.value.cells.items b.layout.value.bytes b.made (b.count - b.made)) k s less)

-- elements that have no cell need not be made
pub none_made : (b : Begun) → length b.layout.value.cells.items ≡ 0 → begun_cells b ≡ b.slots.items
none_made b none =
    ap (λ (l : List Slot). b.slots.items ++ l)
    (no_element (λ n. slot_from false (n * b.layout.value.bytes)) b.layout.value.cells.items b.made (b.count - b.made)
    (nothing b.layout.value.cells.items none))
    ∙ append-nil b.slots.items
  where
    nothing : (cs : List CellLayout) → length cs ≡ 0 → cs ≡ []
    nothing [] is = refl
    nothing (c ∷ cs) is = absurd (omega (arith, is))
