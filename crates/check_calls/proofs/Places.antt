-- The regions of two types at the same places, by their pointers in code.
use Rattle.std.specs.Prelude.{nat_eq, option_map, ◌++◌, ◌-◌, ◌&&◌, if◌then◌else◌, min, slice_get, ◌+◌}
use Rattle.std.proofs.Common.{◌≡◌, ℕ, zero, suc, Bool, true, false, Option, Some, None}
use Rattle.std.proofs.Common.{List, [], ◌∷◌, refl, sym, ◌∙◌, ap, arith, take, drop, length, true≢false}
use Rattle.std.proofs.lemmas.List.{append_assoc, append-nil, length-drop, length-take, take-append-drop}
use Rattle.std.proofs.lemmas.Bool.Decides.{nat_tests}
use Rattle.cyc_types.proofs.Outermost.{base_leads, base_outer}
use Rattle.cyc_types.specs.Bases.{base_type}
use Rattle.cyc_types.specs.Layers.{pointed, pointer_to}
use Rattle.cyc_types.specs.Regions.{region_of, regions_of}
use Rattle.cyc_types.specs.Types.{static_type}
use Rattle.cyc_types.specs.declared.base.BaseType.{BaseType}
use Rattle.cyc_types.specs.declared.base.BaseType.TheVariants as base
use Rattle.cyc_types.specs.declared.ctype.CType.{CType}
use Rattle.cyc_types.specs.declared.region.RegionId.{RegionId}
use Rattle.cyc_types.specs.declared.layer.Layer.{Layer}
use Rattle.cyc_types.specs.declared.layer.Layer.TheVariants as pointer
use Rattle.source_typing.specs.Fixing.{Fit, fit, fit_all, fits_of}
use Rattle.source_typing.specs.Missing.{outer_region, pointee_of}
use Rattle.source_typing.specs.Regions.{Level, Region, same_id}
use Rattle.source_typing.specs.Types.{Char, Fat, Handle, Int, Key, Null, StaticType, Struct, Thin, Union, Unique, Unsigned, Void}
use Rattle.source_typing.specs.Written.{Missing}
use Rattle.check_operators.specs.declared.value.Value.{Value}
use Rattle.check_operators.proofs.Renamed.{pointed_both}
use Rattle.check_calls.specs.Fitted.{base_fits, fits_all, layer_fits, parameter_fits, place_fits, pointer_fits}
use Rattle.check_calls.specs.Fixings.{Fixing, first_fixing, fixed_with, of_fit, or_else}
use Rattle.check_calls.proofs.Fixes.{Alike, first_both, with_alike, with_both}

-- ---- where nothing stands at the same place

pub fit_none : (at : ℕ) (rs : List Region) → fit_all at rs [] ≡ []
fit_none at [] = refl
fit_none at (r ∷ rs) = refl

missing_fixes_none : (at k : ℕ) (r : Region) → first_fixing (fit at r Missing ∷ []) k ≡ None
missing_fixes_none at k r = by (same_id r (Level k))
  where
    by : (b : Bool) → option_map of_fit (if b && false then Some (fit at r Missing) else None) ≡ None
    by true = refl
    by false = refl

pub none_of : (at : ℕ) (t : StaticType) (k : ℕ) → first_fixing (fits_of at t None) k ≡ None
none_of at Int k = refl
none_of at Unsigned k = refl
none_of at Char k = refl
none_of at Void k = refl
none_of at Null k = refl
none_of at (Thin n r t) k =
    first_both (fits_of at t None) (fit at r Missing ∷ []) k
    ∙ ap (λ o. or_else o (first_fixing (fit at r Missing ∷ []) k)) (none_of at t k) ∙ missing_fixes_none at k r
none_of at (Fat r t) k =
    first_both (fits_of at t None) (fit at r Missing ∷ []) k
    ∙ ap (λ o. or_else o (first_fixing (fit at r Missing ∷ []) k)) (none_of at t k) ∙ missing_fixes_none at k r
none_of at (Unique n t) k = none_of at t k
none_of at (Handle r) k = refl
none_of at (Key r) k = refl
none_of at (Struct tag rs) k = ap (λ fs. first_fixing fs k) (fit_none at rs)
none_of at (Union tag rs) k = ap (λ fs. first_fixing fs k) (fit_none at rs)

-- a pointer's places in what is none
module _ (at : ℕ) (c : BaseType) (t : StaticType) (k : ℕ) where
  with_region : (r : Region)
      → first_fixing (fits_of at t (pointee_of (Some (base_type c))) ++ fit at r (outer_region (Some (base_type c))) ∷ []) k ≡ None
  with_region r =
      ap (λ o. first_fixing (fits_of at t o ++ fit at r (outer_region (Some (base_type c))) ∷ []) k) (base_leads c)
      ∙ ap (λ f. first_fixing (fits_of at t None ++ fit at r f ∷ []) k) (base_outer c)
      ∙ first_both (fits_of at t None) (fit at r Missing ∷ []) k
      ∙ ap (λ o. or_else o (first_fixing (fit at r Missing ∷ []) k)) (none_of at t k) ∙ missing_fixes_none at k r

  pointer_in_base : (l : Layer) → first_fixing (fits_of at (pointer_to l t) (Some (base_type c))) k ≡ None
  pointer_in_base (pointer.Thin n r) = with_region (region_of r)
  pointer_in_base (pointer.Fat r) = with_region (region_of r)
  pointer_in_base (pointer.Unique n) = ap (λ o. first_fixing (fits_of at t o) k) (base_leads c) ∙ none_of at t k

base_in_pointer : (at : ℕ) (b : BaseType) (l : Layer) (u : StaticType) → fits_of at (base_type b) (Some (pointer_to l u)) ≡ []
base_in_pointer at base.Int l u = refl
base_in_pointer at base.Unsigned l u = refl
base_in_pointer at base.Char l u = refl
base_in_pointer at base.Void l u = refl
base_in_pointer at base.Null l u = refl
base_in_pointer at (base.Handle r) (pointer.Thin n q) u = refl
base_in_pointer at (base.Handle r) (pointer.Fat q) u = refl
base_in_pointer at (base.Handle r) (pointer.Unique n) u = refl
base_in_pointer at (base.Key r) (pointer.Thin n q) u = refl
base_in_pointer at (base.Key r) (pointer.Fat q) u = refl
base_in_pointer at (base.Key r) (pointer.Unique n) u = refl
base_in_pointer at (base.Struct tag rs) (pointer.Thin n q) u = fit_none at (regions_of rs.items)
base_in_pointer at (base.Struct tag rs) (pointer.Fat q) u = fit_none at (regions_of rs.items)
base_in_pointer at (base.Struct tag rs) (pointer.Unique n) u = fit_none at (regions_of rs.items)
base_in_pointer at (base.Union tag rs) (pointer.Thin n q) u = fit_none at (regions_of rs.items)
base_in_pointer at (base.Union tag rs) (pointer.Fat q) u = fit_none at (regions_of rs.items)
base_in_pointer at (base.Union tag rs) (pointer.Unique n) u = fit_none at (regions_of rs.items)

-- ---- as many pointers on both

pointer_in_pointer : (at : ℕ) (l k : Layer) (t u : StaticType)
    → fits_of at (pointer_to l t) (Some (pointer_to k u)) ≡ fits_of at t (Some u) ++ layer_fits at l k
pointer_in_pointer at (pointer.Thin n r) (pointer.Thin m q) t u = refl
pointer_in_pointer at (pointer.Thin n r) (pointer.Fat q) t u = refl
pointer_in_pointer at (pointer.Thin n r) (pointer.Unique m) t u = refl
pointer_in_pointer at (pointer.Fat r) (pointer.Thin m q) t u = refl
pointer_in_pointer at (pointer.Fat r) (pointer.Fat q) t u = refl
pointer_in_pointer at (pointer.Fat r) (pointer.Unique m) t u = refl
pointer_in_pointer at (pointer.Unique n) (pointer.Thin m q) t u = sym (append-nil (fits_of at t (Some u)))
pointer_in_pointer at (pointer.Unique n) (pointer.Fat q) t u = sym (append-nil (fits_of at t (Some u)))
pointer_in_pointer at (pointer.Unique n) (pointer.Unique m) t u = sym (append-nil (fits_of at t (Some u)))

under_both : (at : ℕ) (ls ks : List Layer) (t u : StaticType) → length ls ≡ length ks
    → fits_of at (pointed t ls) (Some (pointed u ks)) ≡ fits_of at t (Some u) ++ pointer_fits at ls ks
under_both at [] [] t u h = sym (append-nil (fits_of at t (Some u)))
under_both at [] (k ∷ ks) t u h = grind (arith, h)
under_both at (l ∷ ls) [] t u h = grind (arith, h)
under_both at (l ∷ ls) (k ∷ ks) t u h =
    under_both at ls ks (pointer_to l t) (pointer_to k u) (omega (arith, h))
    ∙ ap (λ fs. fs ++ pointer_fits at ls ks) (pointer_in_pointer at l k t u)
    ∙ append_assoc (fits_of at t (Some u)) (layer_fits at l k) (pointer_fits at ls ks)

-- ---- any

nat_same : (m n : ℕ) → m ≡ n → nat_eq m n ≡ true
nat_same m n e = grind (arith, e)

split_at : (n : ℕ) (ls : List Layer) (t : StaticType) → pointed t ls ≡ pointed (pointed t (take n ls)) (drop n ls)
split_at n ls t = ap (λ xs. pointed t xs) (sym (take-append-drop n ls)) ∙ pointed_both (take n ls) (drop n ls) t

last_pointer : (l : Layer) (ls : List Layer) (t : StaticType) → (k : Layer) × ((u : StaticType) × (pointed t (l ∷ ls) ≡ pointer_to k u))
last_pointer l [] t = (l, (t, refl))
last_pointer l (k ∷ ks) t = last_pointer k ks (pointer_to l t)

-- what is left of one of them where the other has no pointers left
left_over : (at : ℕ) (ls ks : List Layer) (b c : BaseType) (k : ℕ) → (length ls ≡ length ks → ⊥) → min (length ls) (length ks) ≡ 0
    → first_fixing (fits_of at (pointed (base_type b) ls) (Some (pointed (base_type c) ks))) k ≡ None
left_over at [] [] b c k h e = absurd (h refl)
left_over at [] (m ∷ ks) b c k h e =
    let p : (l : Layer) × ((u : StaticType) × (pointed (base_type c) (m ∷ ks) ≡ pointer_to l u)) = last_pointer m ks (base_type c) in
    ap (λ u. first_fixing (fits_of at (base_type b) (Some u)) k) p.1.1 ∙ ap (λ fs. first_fixing fs k) (base_in_pointer at b p.0 p.1.0)
left_over at (l ∷ ls) [] b c k h e =
    let p : (k : Layer) × ((u : StaticType) × (pointed (base_type b) (l ∷ ls) ≡ pointer_to k u)) = last_pointer l ls (base_type b) in
    ap (λ t. first_fixing (fits_of at t (Some (base_type c))) k) p.1.1 ∙ pointer_in_base at c p.1.0 k p.0
left_over at (l ∷ ls) (m ∷ ks) b c k h e = absurd (omega (arith, e))

module _ (at : ℕ) (t u : CType) (count k : ℕ) (h : count ≡ min (length t.layers.items) (length u.layers.items)) where
  abbrev mine : List Layer
  mine = t.layers.items

  abbrev theirs : List Layer
  theirs = u.layers.items

  abbrev here : ℕ
  here = length t.layers.items - count

  abbrev there : ℕ
  there = length u.layers.items - count

  abbrev rest : List Fit
  rest = pointer_fits at (drop here mine) (drop there theirs)

  abbrev inner : List Fit
  inner = fits_of at (pointed (base_type t.base) (take here mine)) (Some (pointed (base_type u.base) (take there theirs)))

  inner_is : first_fixing (base_fits at t u) k ≡ first_fixing inner k
  inner_is = by (nat_eq (length t.layers.items) (length u.layers.items)) refl
    where
      by : (b : Bool) → nat_eq (length t.layers.items) (length u.layers.items) ≡ b
          → first_fixing (if b then fits_of at (base_type t.base) (Some (base_type u.base)) else []) k ≡ first_fixing inner k
      by true e =
          let same : length t.layers.items ≡ length u.layers.items = grind (arith, nat_tests, e) in
          let none : here ≡ 0 = omega (arith, same, h) in
          let other : there ≡ 0 = omega (arith, same, h) in
          sym (ap (λ n. first_fixing (fits_of at (pointed (base_type t.base) (take n mine)) (Some (pointed (base_type u.base) (take there theirs)))) k) none
          ∙ ap (λ n. first_fixing (fits_of at (base_type t.base) (Some (pointed (base_type u.base) (take n theirs)))) k) other)
      by false e =
          let apart : nat_eq (length t.layers.items) (length u.layers.items) ≡ false = e in
          sym (left_over at (take here mine) (take there theirs) t.base u.base k
          (λ s. true≢false (sym (nat_same (length t.layers.items) (length u.layers.items)
          (omega (arith, s, h, length-take here mine, length-take there theirs))) ∙ apart))
          (omega (arith, h, length-take here mine, length-take there theirs)))

  fixes_as_pointers : first_fixing (base_fits at t u ++ rest) k ≡ first_fixing (fits_of at (static_type t) (Some (static_type u))) k
  fixes_as_pointers =
      first_both (base_fits at t u) rest k
      ∙ ap (λ o. or_else o (first_fixing rest k)) inner_is
      ∙ sym (first_both inner rest k)
      ∙ sym (ap (λ x. first_fixing (fits_of at x (Some (static_type u))) k) (split_at here mine (base_type t.base))
      ∙ ap (λ x. first_fixing (fits_of at (pointed (pointed (base_type t.base) (take here mine)) (drop here mine)) (Some x)) k)
      (split_at there theirs (base_type u.base))
      ∙ ap (λ fs. first_fixing fs k)
      (under_both at (drop here mine) (drop there theirs) (pointed (base_type t.base) (take here mine)) (pointed (base_type u.base) (take there theirs))
      (omega (arith, h, length-drop here mine, length-drop there theirs))))

pub fits_by_pointers : (at : ℕ) (t u : CType) (count : ℕ) → count ≡ min (length t.layers.items) (length u.layers.items)
    → Alike (base_fits at t u ++ pointer_fits at (drop (length t.layers.items - count) t.layers.items) (drop (length u.layers.items - count) u.layers.items))
    (fits_of at (static_type t) (Some (static_type u)))
fits_by_pointers at t u count h = record { fixes = λ k. fixes_as_pointers at t u count k h }

-- the last so many, as code has them
abbrev last_of : ℕ → List Layer → List Layer
last_of count ls = drop (length ls - count) ls

pub last_is : (count many : ℕ) (ls all last : List Layer) → last ≡ drop (many - count) all → many ≡ length all → all ≡ ls → last ≡ last_of count ls
last_is count many ls all last d m e = d ∙ ap (λ n. drop (n - count) all) m ∙ ap (λ l. last_of count l) e

pub type_fixes : (at : ℕ) (t u : CType) (first second : List Layer) (count : ℕ) (before middle after : List (Option Fixing))
    → count ≡ min (length t.layers.items) (length u.layers.items) → first ≡ last_of count t.layers.items → second ≡ last_of count u.layers.items
    → middle ≡ fixed_with (base_fits at t u) 0 before → after ≡ fixed_with (pointer_fits at first second) 0 middle
    → after ≡ fixed_with (fits_of at (static_type t) (Some (static_type u))) 0 before
type_fixes at t u first second count before middle after h p q m a =
    let ls = t.layers.items in
    let ks = u.layers.items in
    let fits = pointer_fits at (last_of count ls) (last_of count ks) in
    a
    ∙ ap (λ l. fixed_with (pointer_fits at l second) 0 middle) p
    ∙ ap (λ l. fixed_with (pointer_fits at (last_of count ls) l) 0 middle) q
    ∙ ap (fixed_with fits 0) m
    ∙ with_both (base_fits at t u) fits 0 before
    ∙ with_alike (base_fits at t u ++ fits) (fits_of at (static_type t) (Some (static_type u))) 0 before (fits_by_pointers at t u count h)

-- ---- lists of them

pub no_pointer_fits : (at : ℕ) (ls : List Layer) → pointer_fits at ls [] ≡ []
no_pointer_fits at [] = refl
no_pointer_fits at (l ∷ ls) = refl

no_place_fits : (at : ℕ) (o : Option Layer) → place_fits at o None ≡ []
no_place_fits at None = refl
no_place_fits at (Some l) = refl

places_from : (at i : ℕ) (ls ks : List Layer)
    → pointer_fits at (drop i ls) (drop i ks) ≡ place_fits at (slice_get ls i) (slice_get ks i) ++ pointer_fits at (drop (suc i) ls) (drop (suc i) ks)
places_from at zero [] ks = refl
places_from at zero (l ∷ ls) [] = sym (no_pointer_fits at ls)
places_from at zero (l ∷ ls) (k ∷ ks) = refl
places_from at (suc i) [] ks = refl
places_from at (suc i) (l ∷ ls) [] =
    no_pointer_fits at (drop i ls)
    ∙ sym (no_pointer_fits at (drop (suc i) ls))
    ∙ ap (λ fs. fs ++ pointer_fits at (drop (suc i) ls) []) (sym (no_place_fits at (slice_get ls i)))
places_from at (suc i) (l ∷ ls) (k ∷ ks) = places_from at i ls ks

-- what stands at one place of both, and then the rest of them
pub next_places : (at i : ℕ) (ls ks : List Layer)
    → pointer_fits at (drop i ls) (drop i ks) ≡ place_fits at (slice_get ls i) (slice_get ks i) ++ pointer_fits at (drop (i + 1) ls) (drop (i + 1) ks)
next_places at i ls ks =
    let next : suc i ≡ i + 1 = omega arith in
    places_from at i ls ks ∙ ap (λ n. place_fits at (slice_get ls i) (slice_get ks i) ++ pointer_fits at (drop n ls) (drop n ks)) next

pub no_fits : (ps : List (Option CType)) → fits_all ps [] ≡ []
no_fits [] = refl
no_fits (None ∷ ps) = refl
no_fits (Some p ∷ ps) = refl

pub next_fits : (p : Option CType) (ps : List (Option CType)) (v : Value) (vs : List Value) → fits_all (p ∷ ps) (v ∷ vs) ≡ parameter_fits p v ++ fits_all ps vs
next_fits None ps v vs = refl
next_fits (Some p) ps v vs = refl

pub no_argument_fits : (at : ℕ) (rs : List RegionId) → fit_all at (regions_of rs) [] ≡ []
no_argument_fits at rs = fit_none at (regions_of rs)
