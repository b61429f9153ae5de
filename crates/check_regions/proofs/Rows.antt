-- The bounds by the region that is outlived: each row has what outlives its region by one bound.
use Rattle.std.specs.Prelude.{None, Option, Some, get_or, length, nat_eq, option_map, slice_get, slice_set, unwrap_or}
use Rattle.std.specs.Prelude.{◌&&◌, ◌||◌, ◌≤◌, ◌<◌, ◌+◌, ◌-◌, ◌++◌, if◌then◌else◌}
use Rattle.std.proofs.Common.{◌≡◌, ℕ, zero, suc, Bool, true, false, List, [], ◌∷◌, Vec, refl, sym, ◌∙◌, ap, subst, arith}
use Rattle.std.proofs.lemmas.Bool.Decides.{nat_tests}
use Rattle.std.proofs.lemmas.List.{length-set}
use Rattle.cyc_types.specs.Regions.{region_of, regions_of}
use Rattle.cyc_types.specs.declared.region.RegionId.{RegionId}
use Rattle.source_typing.proofs.Converting.{id_is}
use Rattle.source_typing.proofs.NamedBelow.{below_more}
use Rattle.source_typing.specs.Named.{Below, BoundsBelow}
use Rattle.source_typing.specs.Regions.{Level, Region, TheHeap, any_of, by_bounds, is_among, same_id}
use Rattle.check_regions.specs.Reached.{most, past}
use Rattle.check_regions.specs.Walked.{AreRows, ends_in, is_that, no_rows, row_of, rows_of, with_bound, with_bounds, with_region}
use Rattle.check_regions.proofs.Extending.{among_last, one_longer}
use Rattle.check_regions.proofs.Rounds.{both_bounds, has_room, or_none, or_or}

-- no bound, no row
pub no_bounds : AreRows [] []
no_bounds = record { are = λ x y. refl; enough = tt }

pub bounds_up : (m n : ℕ) (bs : List (Region × Region)) → m ≤ n → BoundsBelow m bs → BoundsBelow n bs
bounds_up m n [] l h = tt
bounds_up m n ((x, y) ∷ bs) l h = (below_more m n x l h.0, below_more m n y l h.1, bounds_up m n bs l h.2)

-- ---- one more region

there_it_is : (rs : List Region) (k : ℕ) (r : Region) → slice_get rs k ≡ Some r → is_among rs r ≡ true
there_it_is [] k r e = absurd (grind (arith, e))
there_it_is (q ∷ rs) zero r e = let h : q ≡ r = grind (arith, e) in ap (λ p. same_id p r || is_among rs r) h ∙ ap (λ t. t || is_among rs r) (itself r)
  where
    itself : (r : Region) → same_id r r ≡ true
    itself TheHeap = refl
    itself (Level k) = grind (arith, nat_tests)
there_it_is (q ∷ rs) (suc k) r e = ap (λ t. same_id q r || t) (there_it_is rs k r e) ∙ or_yes (same_id q r)
  where
    or_yes : (t : Bool) → t || true ≡ true
    or_yes true = refl
    or_yes false = refl

region_among : (row : List Region) (a x : Region) → is_among (with_region row a) x ≡ is_among row x || same_id a x
region_among row a x = by (slice_get row (length row - 1)) refl
  where
    already : (r : Region) → is_among row r ≡ true → same_id r a ≡ true → (t : Bool) → same_id a x ≡ t → is_among row x ≡ is_among row x || t
    already r h e true f =
        let k : is_among row x ≡ true = subst (λ c. is_among row c ≡ true) (id_is r a e ∙ id_is a x f) h in k ∙ sym (ap (λ t. t || true) k)
    already r h e false f = or_none (is_among row x)

    cases : (r : Region) → slice_get row (length row - 1) ≡ Some r → (t : Bool) → same_id r a ≡ t
        → is_among (if t then row else row ++ a ∷ []) x ≡ is_among row x || same_id a x
    cases r h true e = already r (there_it_is row (length row - 1) r h) e (same_id a x) refl
    cases r h false e = among_last row a x

    by : (o : Option Region) → slice_get row (length row - 1) ≡ o
        → is_among (if is_that a (slice_get row (length row - 1)) then row else row ++ a ∷ []) x ≡ is_among row x || same_id a x
    by None h = ap (λ o. is_among (if is_that a o then row else row ++ a ∷ []) x) h ∙ among_last row a x
    by (Some r) h = ap (λ o. is_among (if is_that a o then row else row ++ a ∷ []) x) h ∙ cases r h (same_id r a) refl

-- a row at another place, or at the same one
got_set : {X : Type 0} (xs : List X) (j k : ℕ) (x d : X) → j < length xs
    → unwrap_or (slice_get (slice_set xs j x) k) d ≡ (if nat_eq j k then x else unwrap_or (slice_get xs k) d)
got_set [] j k x d l = absurd (grind (arith, l))
got_set (y ∷ xs) zero zero x d l = refl
got_set (y ∷ xs) zero (suc k) x d l =
    let e : false ≡ nat_eq zero (suc k) = grind arith in ap (λ t. if t then x else unwrap_or (slice_get xs k) d) e
got_set (y ∷ xs) (suc j) zero x d l = let e : false ≡ nat_eq (suc j) zero = grind arith in ap (λ t. if t then x else y) e
got_set (y ∷ xs) (suc j) (suc k) x d l =
    let e : nat_eq j k ≡ nat_eq (suc j) (suc k) = grind arith in
    got_set xs j k x d (grind (arith, l)) ∙ ap (λ t. if t then x else unwrap_or (slice_get xs k) d) e

same_past : (x y : Region) → nat_eq (past x) (past y) ≡ same_id y x
same_past TheHeap TheHeap = refl
same_past TheHeap (Level k) = grind (arith, nat_tests)
same_past (Level j) TheHeap = grind (arith, nat_tests)
same_past (Level j) (Level k) = by (nat_eq k j) refl
  where
    by : (t : Bool) → nat_eq k j ≡ t → nat_eq (j + 1) (k + 1) ≡ t
    by true p = grind (arith, nat_tests, p)
    by false p = grind (arith, nat_tests, p)

and_yes : (t : Bool) → t ≡ t && true
and_yes true = refl
and_yes false = refl

and_no : (t : Bool) → false ≡ t && false
and_no true = refl
and_no false = refl

-- one more bound leads to its own row
one_bound : (rows : List (List Region)) (a b x y : Region) → past b < length rows
    → is_among (row_of (with_bound a b rows) y) x ≡ is_among (row_of rows y) x || (same_id a x && same_id y b)
one_bound rows a b x y l =
    ap (λ r. is_among r x) (got_set rows (past b) (past y) (with_region (row_of rows b) a) [] l) ∙ by (same_id y b) (same_past b y)
  where
    by : (t : Bool) → nat_eq (past b) (past y) ≡ t
        → is_among (if nat_eq (past b) (past y) then with_region (row_of rows b) a else row_of rows y) x
        ≡ is_among (row_of rows y) x || (same_id a x && t)
    by true p =
        let place : past b ≡ past y = grind (arith, nat_tests, p) in
        ap (λ t. is_among (if t then with_region (row_of rows b) a else row_of rows y) x) p ∙ region_among (row_of rows b) a x
        ∙ ap (λ k. is_among (unwrap_or (slice_get rows k) []) x || same_id a x) place
        ∙ ap (λ t. is_among (row_of rows y) x || t) (and_yes (same_id a x))
    by false p =
        ap (λ t. is_among (if t then with_region (row_of rows b) a else row_of rows y) x) p ∙ or_none (is_among (row_of rows y) x)
        ∙ ap (λ t. is_among (row_of rows y) x || t) (and_no (same_id a x))

all_rows : (bs : List (Region × Region)) (rows : List (List Region)) → length (with_bounds bs rows) ≡ length rows
all_rows [] rows = refl
all_rows ((x, y) ∷ bs) rows = all_rows bs (with_bound x y rows) ∙ length-set rows (past y) (with_region (row_of rows y) x)

past_below : (n : ℕ) (r : Region) → Below n r → past r < n + 1
past_below n TheHeap l = omega arith
past_below n (Level k) l = omega (arith, l)

more_bounds : (n : ℕ) (bs : List (Region × Region)) (rows : List (List Region)) → length rows ≡ n + 1 → BoundsBelow n bs → (x y : Region)
    → is_among (row_of (with_bounds bs rows) y) x ≡ is_among (row_of rows y) x || by_bounds bs x (same_id y)
more_bounds n [] rows e h x y = or_none (is_among (row_of rows y) x)
more_bounds n ((a, b) ∷ bs) rows e h x y =
    more_bounds n bs (with_bound a b rows) (length-set rows (past b) (with_region (row_of rows b) a) ∙ e) h.2 x y
    ∙ ap (λ t. t || by_bounds bs x (same_id y)) (one_bound rows a b x y (subst (λ m. past b < m) (sym e) (past_below n b h.1)))
    ∙ or_or (is_among (row_of rows y) x) (same_id a x && same_id y b) (by_bounds bs x (same_id y))

-- ---- as they stand in code

set_row : {Z : Type 0} (xs : List (Vec RegionId Z)) (k : ℕ) (v : Vec RegionId Z) → rows_of (slice_set xs k v) ≡ slice_set (rows_of xs) k (regions_of v.items)
set_row [] zero v = refl
set_row [] (suc k) v = refl
set_row (x ∷ xs) zero v = refl
set_row (x ∷ xs) (suc k) v = ap (λ rs. regions_of x.items ∷ rs) (set_row xs k v)

row_there : {Z : Type 0} (xs : List (Vec RegionId Z)) (k : ℕ) (d : Vec RegionId Z) → k < length xs
    → unwrap_or (slice_get (rows_of xs) k) [] ≡ regions_of (get_or xs k d).items
row_there [] k d l = absurd (grind (arith, l))
row_there (x ∷ xs) zero d l = refl
row_there (x ∷ xs) (suc k) d l = row_there xs k d (grind (arith, l))

-- the last region of a row
pub last_region : (rs : List RegionId) (r : RegionId) → ends_in (regions_of rs) (region_of r)
    ≡ is_that (region_of r) (option_map region_of (slice_get rs (length rs - 1)))
last_region rs r =
    let same : length (regions_of rs) ≡ length rs = so_long rs in
    ap (λ n. is_that (region_of r) (slice_get (regions_of rs) (n - 1))) same ∙ ap (is_that (region_of r)) (got rs (length rs - 1))
  where
    so_long : (rs : List RegionId) → length (regions_of rs) ≡ length rs
    so_long [] = refl
    so_long (q ∷ rs) = ap suc (so_long rs)

    got : (rs : List RegionId) (k : ℕ) → slice_get (regions_of rs) k ≡ option_map region_of (slice_get rs k)
    got [] k = refl
    got (q ∷ rs) zero = refl
    got (q ∷ rs) (suc k) = got rs k

-- one more bound, written at its row
pub bound_added : {Z : Type 0} (xs : List (Vec RegionId Z)) (k : ℕ) (d w : Vec RegionId Z) (a b : Region) → k < length xs
    → k ≡ past b → regions_of w.items ≡ with_region (regions_of (get_or xs k d).items) a
    → rows_of (slice_set xs k w) ≡ with_bound a b (rows_of xs)
bound_added xs k d w a b l place more =
    let row : regions_of w.items ≡ with_region (unwrap_or (slice_get (rows_of xs) k) []) a =
    more ∙ ap (λ r. with_region r a) (sym (row_there xs k d l)) in
    set_row xs k w ∙ ap (λ r. slice_set (rows_of xs) k r) row
    ∙ ap (λ n. slice_set (rows_of xs) n (with_region (unwrap_or (slice_get (rows_of xs) n) []) a)) place

-- ---- none at first

nothing_last : (rows : List (List Region)) (k : ℕ) (x : Region)
    → is_among (unwrap_or (slice_get (rows ++ [] ∷ []) k) []) x ≡ is_among (unwrap_or (slice_get rows k) []) x
nothing_last [] zero x = refl
nothing_last [] (suc k) x = refl
nothing_last (r ∷ rows) zero x = refl
nothing_last (r ∷ rows) (suc k) x = nothing_last rows k x

nothing : (n k : ℕ) (x : Region) → is_among (unwrap_or (slice_get (no_rows n) k) []) x ≡ false
nothing zero k x = nothing_last [] k x
nothing (suc n) k x = nothing_last (no_rows n) k x ∙ nothing n k x

so_many_rows : (n : ℕ) → length (no_rows n) ≡ n + 1
so_many_rows zero = refl
so_many_rows (suc n) =
    let e = one_longer (no_rows n) [] in
    let h = so_many_rows n in
    grind (arith, e, h)

pub bounds_in_rows : (bs : List (Region × Region)) → AreRows (with_bounds bs (no_rows (most bs 0))) bs
bounds_in_rows bs =
    let n : ℕ = most bs 0 in
    let below : BoundsBelow n bs = has_room bs 0 in
    let long : length (with_bounds bs (no_rows n)) ≡ n + 1 = all_rows bs (no_rows n) ∙ so_many_rows n in
    record {
      are = λ x y. more_bounds n bs (no_rows n) (so_many_rows n) below x y ∙ ap (λ t. t || by_bounds bs x (same_id y)) (nothing n (past y) x);
      enough = subst (λ m. BoundsBelow m bs) (sym long) (bounds_up n (n + 1) bs (omega arith) below);
    }

-- ---- what the rows of some regions have

by_none : (bs : List (Region × Region)) (a : Region) → false ≡ by_bounds bs a (λ c. false)
by_none [] a = refl
by_none ((x, y) ∷ bs) a = by_none bs a ∙ ap (λ t. t || by_bounds bs a (λ c. false)) (and_no (same_id x a))

pub in_rows : (rows : List (List Region)) (bs : List (Region × Region)) → AreRows rows bs → (ys : List Region) (a : Region)
    → any_of ys (λ y. is_among (row_of rows y) a) ≡ by_bounds bs a (is_among ys)
in_rows rows bs h [] a = by_none bs a
in_rows rows bs h (y ∷ ys) a =
    ap (λ t. t || any_of ys (λ y. is_among (row_of rows y) a)) (h.are a y)
    ∙ ap (λ t. by_bounds bs a (same_id y) || t) (in_rows rows bs h ys a)
    ∙ sym (both_bounds bs a (same_id y) (is_among ys))
