-- Cells of an object that get other values, and what Core's memory shows then.
use Rattle.std.specs.Prelude.{if◌then◌else◌, slice_get, ◌&&◌, nat_eq, nat_le, nat_lt}
use Rattle.std.proofs.Common.{
  ◌≡◌,
  ℕ,
  zero,
  suc,
  ◌+◌,
  ◌-◌,
  ◌<◌,
  ◌≤◌,
  Bool,
  true,
  false,
  Option,
  Some,
  None,
  List,
  [],
  ◌∷◌,
  length,
  refl,
  ap,
  ◌∙◌,
  sym,
  subst,
  arith,
}
use Rattle.std.proofs.lemmas.Bool.Decides.{nat_tests}
use Rattle.std.proofs.lemmas.List.{length-set}
use Rattle.core_meaning.specs.Memory.{Region, Part}
use Rattle.core_meaning.specs.Operations.{cells_on}
use Rattle.core_eval.specs.declared.held.Held.{Held}
use Rattle.core_eval.specs.declared.value.Slot.{Slot}
use Rattle.core_eval.specs.Values.{spot_of, part_in, cell_in, slot_at, refilled, with_held}
use Rattle.core_eval.specs.Whole.{fill_slot, fill_cells, fill_object, fill_in}
use Rattle.core_eval.proofs.Lists.{get_set, get_past}
use Rattle.core_meaning.proofs.Spots.{region_self}

-- the value for a cell, of values from the k-th cell on
abbrev pub value_on : ℕ → List Held → ℕ → Option Held
value_on k vs y = (if nat_le k y then slice_get vs (y - k) else None)

-- a cell with a value, if there is one for it
abbrev pub filled_slot : Option Held → Option Slot → Option Slot
filled_slot None o = o
filled_slot (Some v) None = None
filled_slot (Some v) (Some s) = Some (with_held s (refilled s.held v))

-- ---- what the cells are

no_value : (k y : ℕ) → value_on k [] y ≡ None
no_value k y = by (nat_le k y)
  where
    by : (b : Bool) → (if b then slice_get {X = Held} [] (y - k) else None) ≡ None
    by true = refl
    by false = refl

one_filled : (cells : List Slot) (k y : ℕ) (v : Held) (o : Option Slot) → slice_get cells k ≡ o
    → slice_get (fill_slot cells k v o) y ≡ (if nat_eq y k then filled_slot (Some v) (slice_get cells y) else slice_get cells y)
one_filled cells k y v None e = by (nat_eq y k) refl
  where
    by : (b : Bool) → nat_eq y k ≡ b → slice_get cells y ≡ (if b then filled_slot (Some v) (slice_get cells y) else slice_get cells y)
    by true t =
        let same : y ≡ k = grind (arith, nat_tests, t) in
        let none : slice_get cells y ≡ None = ap (slice_get cells) same ∙ e in none ∙ sym (ap (filled_slot (Some v)) none)
    by false t = refl
one_filled cells k y v (Some s) e = get_set cells k (with_held s (refilled s.held v)) s y e ∙ by (nat_eq y k) refl
  where
    by : (b : Bool) → nat_eq y k ≡ b
        → (if b then Some (with_held s (refilled s.held v)) else slice_get cells y)
        ≡ (if b then filled_slot (Some v) (slice_get cells y) else slice_get cells y)
    by true t =
        let same : y ≡ k = grind (arith, nat_tests, t) in
        sym (ap (filled_slot (Some v)) (ap (slice_get cells) same ∙ e))
    by false t = refl

-- a value more in front
value_more : (k y : ℕ) (v : Held) (vs : List Held) (o : Option Slot)
    → filled_slot (value_on (k + 1) vs y) (if nat_eq y k then filled_slot (Some v) o else o) ≡ filled_slot (value_on k (v ∷ vs) y) o
value_more k y v vs o = by (nat_eq y k) refl
  where
    behind : (b : Bool) → nat_le k y ≡ b → nat_eq y k ≡ false
        → filled_slot (value_on (k + 1) vs y) o ≡ filled_slot (if b then slice_get (v ∷ vs) (y - k) else None) o
    behind true le other =
        let next : nat_le (k + 1) y ≡ true = grind (arith, nat_tests, le, other) in
        let less : k < y = grind (arith, nat_tests, le, other) in
        let one : y - k ≡ suc (y - (k + 1)) = omega (arith, less) in
        ap (λ b. filled_slot (if b then slice_get vs (y - (k + 1)) else None) o) next
        ∙ sym (ap (λ n. filled_slot (slice_get (v ∷ vs) n) o) one)
    behind false more other =
        let next : nat_le (k + 1) y ≡ false = grind (arith, nat_tests, more) in
        ap (λ b. filled_slot (if b then slice_get vs (y - (k + 1)) else None) o) next

    by : (b : Bool) → nat_eq y k ≡ b
        → filled_slot (value_on (k + 1) vs y) (if b then filled_slot (Some v) o else o) ≡ filled_slot (value_on k (v ∷ vs) y) o
    by true t =
        let same : y ≡ k = grind (arith, nat_tests, t) in
        let next : nat_le (k + 1) y ≡ false = grind (arith, nat_tests, same) in
        let here : nat_le k y ≡ true = grind (arith, nat_tests, same) in
        let none : y - k ≡ 0 = omega (arith, same) in
        ap (λ b. filled_slot (if b then slice_get vs (y - (k + 1)) else None) (filled_slot (Some v) o)) next
        ∙ sym (ap (λ b. filled_slot (if b then slice_get (v ∷ vs) (y - k) else None) o) here ∙ ap (λ n. filled_slot (slice_get (v ∷ vs) n) o) none)
    by false t = behind (nat_le k y) refl t

cells_filled : (vs : List Held) (cells : List Slot) (k y : ℕ) → slice_get (fill_cells cells k vs) y ≡ filled_slot (value_on k vs y) (slice_get cells y)
cells_filled [] cells k y = sym (ap (λ o. filled_slot o (slice_get cells y)) (no_value k y))
cells_filled (v ∷ vs) cells k y =
    cells_filled vs (fill_slot cells k v (slice_get cells k)) (k + 1) y
    ∙ ap (filled_slot (value_on (k + 1) vs y)) (one_filled cells k y v (slice_get cells k) refl)
    ∙ value_more k y v vs (slice_get cells y)

filled_none : (o : Option Held) → filled_slot o None ≡ None
filled_none None = refl
filled_none (Some v) = refl

-- a cell of an object, of which cells get other values
slot_filled : (objects : List (List Slot)) (i k : ℕ) (vs : List Held) (x y : ℕ)
    → slot_at (fill_in objects i k vs) x y ≡ (if nat_eq x i then filled_slot (value_on k vs y) (slot_at objects x y) else slot_at objects x y)
slot_filled objects i k vs x y = by (slice_get objects i) refl
  where
    same_object : nat_eq x i ≡ true → (o : Option (List Slot)) → slice_get objects i ≡ o → slot_at objects x y ≡ cell_in o y
    same_object t o e = let same : x ≡ i = grind (arith, nat_tests, t) in ap (λ n. slot_at objects n y) same ∙ ap (λ p. cell_in p y) e

    nothing : (b : Bool) → nat_eq x i ≡ b → slice_get objects i ≡ None
        → slot_at objects x y ≡ (if b then filled_slot (value_on k vs y) (slot_at objects x y) else slot_at objects x y)
    nothing true t e =
        let none = same_object t None e in none ∙ sym (ap (filled_slot (value_on k vs y)) none ∙ filled_none (value_on k vs y))
    nothing false t e = refl

    there : (cells : List Slot) (b : Bool) → nat_eq x i ≡ b → slice_get objects i ≡ Some cells
        → cell_in (if b then Some (fill_cells cells k vs) else slice_get objects x) y
        ≡ (if b then filled_slot (value_on k vs y) (slot_at objects x y) else slot_at objects x y)
    there cells true t e = cells_filled vs cells k y ∙ sym (ap (filled_slot (value_on k vs y)) (same_object t (Some cells) e))
    there cells false t e = refl

    by : (o : Option (List Slot)) → slice_get objects i ≡ o
        → slot_at (fill_object objects i k vs o) x y
        ≡ (if nat_eq x i then filled_slot (value_on k vs y) (slot_at objects x y) else slot_at objects x y)
    by None e = nothing (nat_eq x i) refl e
    by (Some cells) e = ap (λ o. cell_in o y) (get_set objects i (fill_cells cells k vs) cells x e) ∙ there cells (nat_eq x i) refl e

-- as many objects as before
pub fill_length : (objects : List (List Slot)) (i k : ℕ) (vs : List Held) → length (fill_in objects i k vs) ≡ length objects
fill_length objects i k vs = by (slice_get objects i)
  where
    by : (o : Option (List Slot)) → length (fill_object objects i k vs o) ≡ length objects
    by None = refl
    by (Some cells) = length-set objects i (fill_cells cells k vs)

-- ---- what Core's memory shows

past : (vs : List Held) (q : ℕ) → slice_get vs q ≡ None → length vs ≤ q
past [] q e = omega arith
past (v ∷ vs) zero e = cc
past (v ∷ vs) (suc q) e = let h = past vs q e in omega (arith, h)

-- a change of the parts of n cells of an object that gives each of them its value
module _ (change : Option ℕ → ℕ → Option Part → Option Part) (n : ℕ) (vs : List Held) (long : length vs ≡ n)
    (none : (j : ℕ) (o : Option Part) → change None j o ≡ o) (objects : List (List Slot)) (i k : ℕ)
    (some : (q j : ℕ) (v : Held) → slice_get vs q ≡ Some v
    → change (Some q) j (part_in (slot_at objects i (k + q)) j) ≡ part_in (filled_slot (Some v) (slot_at objects i (k + q))) j) where
  within : (q j : ℕ) (v : Option Held) → slice_get vs q ≡ v → q < n
      → change (Some q) j (part_in (slot_at objects i (k + q)) j) ≡ part_in (filled_slot v (slot_at objects i (k + q))) j
  within q j None e less = absurd (let h = past vs q e in omega (arith, h, long, less))
  within q j (Some v) e less = some q j v e

  cells_changed : (y j : ℕ)
      → change (if nat_le k y && nat_lt y (k + n) then Some (y - k) else None) j (part_in (slot_at objects i y) j)
      ≡ part_in (filled_slot (value_on k vs y) (slot_at objects i y)) j
  cells_changed y j = by (nat_le k y) refl
    where
      behind : (b : Bool) → nat_lt y (k + n) ≡ b → nat_le k y ≡ true
          → change (if b then Some (y - k) else None) j (part_in (slot_at objects i y) j)
          ≡ part_in (filled_slot (slice_get vs (y - k)) (slot_at objects i y)) j
      behind true less le =
          let inside : y - k < n = grind (arith, nat_tests, less, le) in
          let low : k ≤ y = grind (arith, nat_tests, le) in
          let back : k + (y - k) ≡ y = omega (arith, low) in
          subst
          (λ (x : ℕ). change (Some (y - k)) j (part_in (slot_at objects i x) j) ≡ part_in (filled_slot (slice_get vs (y - k)) (slot_at objects i x)) j)
          back (within (y - k) j (slice_get vs (y - k)) refl inside)
      behind false more le =
          let outside : length vs ≤ y - k = grind (arith, nat_tests, more, le, long) in
          none j (part_in (slot_at objects i y) j) ∙ sym (ap (λ v. part_in (filled_slot v (slot_at objects i y)) j) (get_past vs (y - k) outside))

      by : (b : Bool) → nat_le k y ≡ b
          → change (if b && nat_lt y (k + n) then Some (y - k) else None) j (part_in (slot_at objects i y) j)
          ≡ part_in (filled_slot (if b then slice_get vs (y - k) else None) (slot_at objects i y)) j
      by true le = behind (nat_lt y (k + n)) refl le
      by false more = none j (part_in (slot_at objects i y) j)

  pub object_changed : (r : Region) (x y j : ℕ)
      → change (cells_on n (spot_of r i k) (spot_of r x y)) j (part_in (slot_at objects x y) j) ≡ part_in (slot_at (fill_in objects i k vs) x y) j
  object_changed r x y j =
      ap (λ b. change (if (b && nat_eq x i) && (nat_le k y && nat_lt y (k + n)) then Some (y - k) else None) j (part_in (slot_at objects x y) j))
      (region_self r)
      ∙ by (nat_eq x i) refl ∙ ap (λ o. part_in o j) (sym (slot_filled objects i k vs x y))
    where
      by : (b : Bool) → nat_eq x i ≡ b
          → change (if b && (nat_le k y && nat_lt y (k + n)) then Some (y - k) else None) j (part_in (slot_at objects x y) j)
          ≡ part_in (if b then filled_slot (value_on k vs y) (slot_at objects x y) else slot_at objects x y) j
      by true e =
          let same : i ≡ x = grind (arith, nat_tests, e) in
          subst
          (λ (z : ℕ). change (if nat_le k y && nat_lt y (k + n) then Some (y - k) else None) j (part_in (slot_at objects z y) j)
          ≡ part_in (filled_slot (value_on k vs y) (slot_at objects z y)) j)
          same (cells_changed y j)
      by false e = none j (part_in (slot_at objects x y) j)
