-- The names in scope outside of functions, and where a function's body begins, are those of the rules.
use Rattle.std.specs.Prelude.{length, nat_eq, nat_lt, slice_get, ◌||◌, ◌<◌, ◌++◌, if◌then◌else◌}
use Rattle.std.proofs.Common.{◌≡◌, ℕ, zero, suc, ◌≤◌, Bool, true, false, Option, Some, None, List, [], ◌∷◌, refl, sym, ◌∙◌, ap, subst, arith}
use Rattle.std.proofs.lemmas.Bool.Decides.{nat_tests}
use Rattle.std.proofs.lemmas.Option.{slice_get_past}
use Rattle.cyc_types.specs.declared.region.RegionId.{RegionId}
use Rattle.source_typing.specs.Named.{AllBelow, Below, BoundsBelow}
use Rattle.source_typing.specs.Regions.{Level, Region, TheHeap, any_of, by_bounds, entry_regions, is_among, no_regions, reaches, same_id}
use Rattle.check_regions.specs.Begun.{begins_live, is_over_heap, is_over_later}
use Rattle.check_regions.specs.Fields.{scoped}
use Rattle.check_regions.specs.Entered.{variable_at, variables_at}
use Rattle.check_regions.specs.Reached.{has, is_near, outlives_by, reaches_any}
use Rattle.check_regions.specs.Scopes.{AreThose, Scoped, live_in, of_name, outlives_in, over_earlier, over_later_in, over_this}
use Rattle.check_regions.specs.declared.begun.Begun.{Begun}
use Rattle.check_regions.proofs.Extending.{got_last, got_other, not_among, not_reached, one_longer}
use Rattle.check_regions.proofs.Rounds.{reaches_each, reaches_heap}

abbrev with_bounds : List Begun → List (Region × Region) → Scoped
with_bounds begun bounds = record { begun = begun; opened = []; bounds = bounds }

-- ---- outside of functions

pub none_in_scope : AreThose (with_bounds [] []) no_regions
none_in_scope = record {
  count = refl;
  live = live;
  order = order;
  lasts = lasts;
  opened = tt;
  bounds = tt;
}
  where
    live : (r : Region) → live_in (with_bounds [] []) r ≡ no_regions.live r
    live TheHeap = refl
    live (Level k) = refl

    -- two names, by whether they are the same one, and whether one is the later
    names : (t u : Bool) → (if t then true else if u then over_this None None t else over_earlier None t) ≡ t
    names true u = refl
    names false true = refl
    names false false = refl

    order : (a b : Region) → outlives_in (with_bounds [] []) a b ≡ no_regions.order a b
    order TheHeap b = refl
    order (Level j) TheHeap = refl
    order (Level j) (Level k) = names (nat_eq j k) (nat_lt j k)

    lasts : (a : Region) → over_later_in (with_bounds [] []) a ≡ no_regions.lasts a
    lasts TheHeap = refl
    lasts (Level k) = refl

-- ---- the variables of a function

module _ (live heap later : List Bool) where
  so_many_variables : (n : ℕ) → length (variables_at live heap later n) ≡ n
  so_many_variables zero = refl
  so_many_variables (suc n) =
      let e = one_longer (variables_at live heap later n) (variable_at live heap later n) in
      let h = so_many_variables n in
      grind (arith, e, h)

  at_its_place : (n k : ℕ) → k < n → slice_get (variables_at live heap later n) k ≡ Some (variable_at live heap later k)
  at_its_place zero k l = absurd (grind (arith, l))
  at_its_place (suc n) k l = by (nat_lt k n) refl (λ h. at_its_place n k h)
    where
      by : (t : Bool) → nat_lt k n ≡ t → (k < n → slice_get (variables_at live heap later n) k ≡ Some (variable_at live heap later k))
          → slice_get (variables_at live heap later n ++ variable_at live heap later n ∷ []) k ≡ Some (variable_at live heap later k)
      by true e before =
          let h : k < n = grind (arith, nat_tests, e) in
          let o : nat_eq k n ≡ false = grind (arith, nat_tests, h) in
          got_other (variables_at live heap later n) (variable_at live heap later n) k (subst (λ m. nat_eq k m ≡ false) (sym (so_many_variables n)) o)
          ∙ before h
      by false e before =
          let h : k ≡ n = grind (arith, nat_tests, e, l) in
          subst (λ m. slice_get (variables_at live heap later n ++ variable_at live heap later n ∷ []) m ≡ Some (variable_at live heap later m)) (sym h)
          (subst (λ m. slice_get (variables_at live heap later n ++ variable_at live heap later n ∷ []) m ≡ Some (variable_at live heap later n))
          (so_many_variables n) (got_last (variables_at live heap later n) (variable_at live heap later n)))

-- ---- what reaches

from_heap : (n : ℕ) (bs : List (Region × Region)) (b : Region) → reaches n bs TheHeap b ≡ true
from_heap zero bs b = refl
from_heap (suc n) bs b = refl

to_itself : (n : ℕ) (bs : List (Region × Region)) (k : ℕ) → reaches n bs (Level k) (Level k) ≡ true
to_itself zero bs k = grind (arith, nat_tests)
to_itself (suc n) bs k =
    let same : nat_eq k k ≡ true = grind (arith, nat_tests) in
    ap (λ t. t || by_bounds bs (Level k) (λ c. reaches n bs c (Level k))) same

-- what the marks are
pub record AreMarks (count : ℕ) (effect : List Region) (bs : List (Region × Region)) (live heap later : List Bool) : Type 0 where
  pub of_effect : (a : Region) → Below count a → has live a ≡ is_near effect a
  pub of_heap : (a : Region) → Below count a → has heap a ≡ reaches_any [] bs a
  pub of_all : (a : Region) → Below count a → has later a ≡ reaches_any effect bs a

module _ (count : ℕ) (effect : List Region) (bs : List (Region × Region)) (live heap later : List Bool) (m : AreMarks count effect bs live heap later)
    (effect_below : AllBelow count effect) (bounds_below : BoundsBelow count bs) where
  abbrev s : Scoped
  s = with_bounds (variables_at live heap later count) bs

  -- at a level that is in scope stands its variable, and at the others none
  abbrev entered : Bool → ℕ → Option Begun
  entered true k = Some (variable_at live heap later k)
  entered false k = None

  at : (k : ℕ) → slice_get s.begun k ≡ entered (nat_lt k count) k
  at k = by (nat_lt k count) refl
    where
      by : (t : Bool) → nat_lt k count ≡ t → slice_get s.begun k ≡ entered t k
      by true e = at_its_place live heap later count k (grind (arith, nat_tests, e))
      by false e =
          let l : count ≤ k = grind (arith, nat_tests, e) in
          slice_get_past s.begun k (subst (λ n. n ≤ k) (sym (so_many_variables live heap later count)) l)

  live_there : (r : Region) → live_in s r ≡ (entry_regions count effect bs).live r
  live_there TheHeap = refl
  live_there (Level k) = ap (λ o. of_name begins_live o || false) (at k) ∙ by (nat_lt k count) refl
    where
      or_no : (c : Bool) → c || false ≡ c
      or_no true = refl
      or_no false = refl

      by : (t : Bool) → nat_lt k count ≡ t → of_name begins_live (entered t k) || false ≡ is_among effect (Level k)
      by true e = or_no (has live (Level k)) ∙ m.of_effect (Level k) (grind (arith, nat_tests, e))
      by false e = let l : count ≤ k = grind (arith, nat_tests, e) in sym (not_among count effect effect_below k l)

  over_heap_there : (j : ℕ) → of_name is_over_heap (slice_get s.begun j) ≡ reaches (length bs) bs (Level j) TheHeap
  over_heap_there j = ap (λ o. of_name is_over_heap o) (at j) ∙ by (nat_lt j count) refl
    where
      by : (t : Bool) → nat_lt j count ≡ t → of_name is_over_heap (entered t j) ≡ reaches (length bs) bs (Level j) TheHeap
      by true e =
          let l : j < count = grind (arith, nat_tests, e) in
          m.of_heap (Level j) l ∙ reaches_heap bs (length bs) (Level j)
      by false e =
          let l : count ≤ j = grind (arith, nat_tests, e) in
          sym (not_reached count bs bounds_below (length bs) j TheHeap l refl)

  -- of two names the bounds say it, also where one or both aren't in scope
  names_there : (j k : ℕ) → outlives_in s (Level j) (Level k) ≡ reaches (length bs) bs (Level j) (Level k)
  names_there j k =
      ap (λ o. (if nat_eq j k then true else if nat_lt j k then over_this o (slice_get s.begun k) x else over_earlier o x)) (at j)
      ∙ ap (λ o. (if nat_eq j k then true else if nat_lt j k then over_this (entered (nat_lt j count) j) o x else over_earlier (entered (nat_lt j count) j) x))
      (at k)
      ∙ by (nat_eq j k) (nat_lt j k) refl
    where
      x : Bool
      x = outlives_by bs (Level j) (Level k)

      over_that : (t u : Bool) → over_this (entered t j) (entered u k) x ≡ x
      over_that t true = refl
      over_that t false = refl

      over_other : (t : Bool) → over_earlier (entered t j) x ≡ x
      over_other true = refl
      over_other false = refl

      by : (t u : Bool) → nat_eq j k ≡ t
          → (if t then true
          else if u then over_this (entered (nat_lt j count) j) (entered (nat_lt k count) k) x else over_earlier (entered (nat_lt j count) j) x)
          ≡ reaches (length bs) bs (Level j) (Level k)
      by true u e =
          let q : j ≡ k = grind (arith, nat_tests, e) in
          subst (λ n. true ≡ reaches (length bs) bs (Level j) (Level n)) q (sym (to_itself (length bs) bs j))
      by false true e = over_that (nat_lt j count) (nat_lt k count)
      by false false e = over_other (nat_lt j count)

  order_there : (a b : Region) → outlives_in s a b ≡ (entry_regions count effect bs).order a b
  order_there TheHeap b = sym (from_heap (length bs) bs b)
  order_there (Level j) TheHeap = over_heap_there j
  order_there (Level j) (Level k) = names_there j k

  -- one that isn't in scope outlives none of those that are
  over_none : (k : ℕ) → count ≤ k → (rs : List Region) → AllBelow count rs → any_of rs (reaches (length bs) bs (Level k)) ≡ false
  over_none k l [] h = refl
  over_none k l (r ∷ rs) h =
      ap (λ c. c || any_of rs (reaches (length bs) bs (Level k))) (not_reached count bs bounds_below (length bs) k r l (other r h.0)) ∙ over_none k l rs h.1
    where
      other : (r : Region) → Below count r → same_id (Level k) r ≡ false
      other TheHeap i = refl
      other (Level j) i = grind (arith, nat_tests, i, l)

  lasts_there : (a : Region) → over_later_in s a ≡ (entry_regions count effect bs).lasts a
  lasts_there TheHeap = ap (λ c. c || any_of effect (reaches (length bs) bs TheHeap)) (sym (from_heap (length bs) bs TheHeap))
  lasts_there (Level k) = ap (λ o. of_name is_over_later o) (at k) ∙ by (nat_lt k count) refl
    where
      by : (t : Bool) → nat_lt k count ≡ t
          → of_name is_over_later (entered t k) ≡ reaches (length bs) bs (Level k) TheHeap || any_of effect (reaches (length bs) bs (Level k))
      by true e =
          let l : k < count = grind (arith, nat_tests, e) in
          m.of_all (Level k) l ∙ reaches_each effect bs (length bs) (Level k)
      by false e =
          let l : count ≤ k = grind (arith, nat_tests, e) in
          sym (ap (λ c. c || any_of effect (reaches (length bs) bs (Level k))) (not_reached count bs bounds_below (length bs) k TheHeap l refl)
          ∙ over_none k l effect effect_below)

  pub enters : AreThose s (entry_regions count effect bs)
  enters = record {
    count = so_many_variables live heap later count;
    live = live_there;
    order = order_there;
    lasts = lasts_there;
    opened = tt;
    bounds = bounds_below;
  }

  -- as they stand in code
  pub enters_as : (begun : List Begun) (opened : List RegionId) (bounds : List (Region × Region))
      → begun ≡ variables_at live heap later count → opened ≡ [] → bounds ≡ bs
      → AreThose (scoped begun opened bounds) (entry_regions count effect bs)
  enters_as begun opened bounds v o b =
      subst (λ l. AreThose (scoped l opened bounds) (entry_regions count effect bs)) (sym v)
      (subst (λ l. AreThose (scoped (variables_at live heap later count) l bounds) (entry_regions count effect bs)) (sym o)
      (subst (λ l. AreThose (with_bounds (variables_at live heap later count) l) (entry_regions count effect bs)) (sym b) enters))
