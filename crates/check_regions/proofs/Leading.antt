-- Ways along bounds lead where bounds do.
use Rattle.std.specs.Prelude.{get_or, nat_eq, nat_lt, not, slice_get, slice_set, ◌&&◌, ◌||◌, ◌≤◌, ◌<◌, ◌+◌}
use Rattle.std.proofs.Common.{◌≡◌, ℕ, zero, suc, Bool, true, false, Option, Some, List, [], ◌∷◌, length, refl, sym, ◌∙◌, ap, subst, arith}
use Rattle.std.proofs.lemmas.Bool.Decides.{nat_tests}
use Rattle.cyc_types.specs.Regions.{region_of, regions_of}
use Rattle.cyc_types.specs.declared.region.RegionId.{RegionId}
use Rattle.source_typing.proofs.Converting.{id_is}
use Rattle.source_typing.specs.Regions.{Level, Region, TheHeap, by_bounds, is_among, is_heap, reaches, same_id}
use Rattle.check_regions.specs.Reached.{past}
use Rattle.check_regions.specs.Walked.{AreRows, row_of}
use Rattle.check_regions.specs.Ways.{AreKept, AreWays, Leads, all_fall, depth_at, falls}
use Rattle.check_regions.specs.declared.ways.Way.{Way}
use Rattle.check_regions.proofs.Extending.{turned}
use Rattle.check_regions.proofs.Rows.{no_bounds}

-- ---- joined answers

or_right : (p q : Bool) → q ≡ true → p || q ≡ true
or_right true q e = refl
or_right false q e = e

or_left : (p q : Bool) → p ≡ true → p || q ≡ true
or_left p q e = ap (λ t. t || q) e

either : {P : Type 0} (p q : Bool) → p || q ≡ true → (p ≡ true → P) → (q ≡ true → P) → P
either true q e f g = f refl
either false q e f g = g e

both : (p q : Bool) → p && q ≡ true → (p ≡ true) × (q ≡ true)
both true q e = (refl, e)
both false q e = absurd cc

-- what holds further on, along a bound
along : (f g : Region → Bool) → ((c : Region) → f c ≡ true → g c ≡ true) → (bs : List (Region × Region)) (a : Region)
    → by_bounds bs a f ≡ true → by_bounds bs a g ≡ true
along f g h [] a e = absurd cc
along f g h ((x, y) ∷ bs) a e =
    either (same_id x a && f y) (by_bounds bs a f) e
    (λ p. let q = both (same_id x a) (f y) p in or_left (same_id x a && g y) (by_bounds bs a g) (ap (λ t. t && g y) q.0 ∙ h y q.1))
    (λ p. or_right (same_id x a && g y) (by_bounds bs a g) (along f g h bs a p))

module _ (bs : List (Region × Region)) where
  -- ---- steps by bounds

  heap_leads : (n : ℕ) (b : Region) → reaches n bs TheHeap b ≡ true
  heap_leads zero b = refl
  heap_leads (suc n) b = refl

  pub itself_leads : (n : ℕ) (a : Region) → reaches n bs a a ≡ true
  itself_leads n TheHeap = heap_leads n TheHeap
  itself_leads zero (Level k) = grind (arith, nat_tests)
  itself_leads (suc n) (Level k) =
      let same : nat_eq k k ≡ true = grind (arith, nat_tests) in
      or_left (nat_eq k k) (by_bounds bs (Level k) (λ c. reaches n bs c (Level k))) same

  pub longer : (m n : ℕ) (a b : Region) → m ≤ n → reaches m bs a b ≡ true → reaches n bs a b ≡ true
  longer zero zero a b l e = e
  longer zero (suc n) a b l e = or_left (is_heap a || same_id a b) (by_bounds bs a (λ c. reaches n bs c b)) e
  longer (suc m) zero a b l e = absurd (omega (arith, l))
  longer (suc m) (suc n) a b l e =
      either (is_heap a || same_id a b) (by_bounds bs a (λ c. reaches m bs c b)) e
      (λ p. or_left (is_heap a || same_id a b) (by_bounds bs a (λ c. reaches n bs c b)) p)
      (λ p. or_right (is_heap a || same_id a b) (by_bounds bs a (λ c. reaches n bs c b))
      (along (λ c. reaches m bs c b) (λ c. reaches n bs c b) (λ c. longer m n c b (omega (arith, l))) bs a p))

  near_leads : (n : ℕ) (a b c : Region) → is_heap a || same_id a b ≡ true → reaches n bs b c ≡ true → reaches n bs a c ≡ true
  near_leads n TheHeap b c e f = heap_leads n c
  near_leads n (Level k) b c e f = subst (λ d. reaches n bs d c ≡ true) (sym (id_is (Level k) b e)) f

  pub joined : (m n : ℕ) (a b c : Region) → reaches m bs a b ≡ true → reaches n bs b c ≡ true → reaches (m + n) bs a c ≡ true
  joined zero n a b c e f = longer n (zero + n) a c (omega arith) (near_leads n a b c e f)
  joined (suc m) n a b c e f =
      either (is_heap a || same_id a b) (by_bounds bs a (λ d. reaches m bs d b)) e
      (λ p. longer n (suc m + n) a c (omega arith) (near_leads n a b c p f))
      (λ p.
      let further : reaches (suc (m + n)) bs a c ≡ true =
      or_right (is_heap a || same_id a c) (by_bounds bs a (λ d. reaches (m + n) bs d c))
      (along (λ d. reaches m bs d b) (λ d. reaches (m + n) bs d c) (λ d g. joined m n d b c g f) bs a p) in
      longer (suc (m + n)) (suc m + n) a c (omega arith) further)

  -- a bound is one step
  pub bound_leads : (x y : Region) → by_bounds bs x (same_id y) ≡ true → reaches 1 bs x y ≡ true
  bound_leads x y e =
      or_right (is_heap x || same_id x y) (by_bounds bs x (λ c. is_heap c || same_id c y))
      (along (same_id y) (λ c. is_heap c || same_id c y) (λ c h. or_right (is_heap c) (same_id c y) (turned c y ∙ h)) bs x e)

  -- what comes to the heap comes to all
  pub over_all : (n : ℕ) (a b : Region) → reaches n bs a TheHeap ≡ true → reaches n bs a b ≡ true
  over_all zero TheHeap b e = refl
  over_all zero (Level k) b e = absurd cc
  over_all (suc n) TheHeap b e = refl
  over_all (suc n) (Level k) b e =
      or_right (same_id (Level k) b) (by_bounds bs (Level k) (λ c. reaches n bs c b))
      (along (λ c. reaches n bs c TheHeap) (λ c. reaches n bs c b) (λ c. over_all n c b) bs (Level k) e)

-- ---- ways

pub same_place : (r q : Region) → past r ≡ past q → r ≡ q
same_place TheHeap TheHeap e = refl
same_place TheHeap (Level k) e = absurd (omega (arith, e))
same_place (Level j) TheHeap e = absurd (omega (arith, e))
same_place (Level j) (Level k) e = let h : j ≡ k = omega (arith, e) in ap Level h

got_after : {X : Type 0} (P : ℕ → X → Type 0) (xs : List X) (j : ℕ) (x : X) → P j x → ((k : ℕ) (y : X) → slice_get xs k ≡ Some y → P k y)
    → (k : ℕ) (y : X) → slice_get (slice_set xs j x) k ≡ Some y → P k y
got_after P [] zero x p h k y e = h k y e
got_after P [] (suc j) x p h k y e = h k y e
got_after P (z ∷ xs) zero x p h zero y e = let q : x ≡ y = cc in subst (λ v. P zero v) q p
got_after P (z ∷ xs) zero x p h (suc k) y e = h (suc k) y e
got_after P (z ∷ xs) (suc j) x p h zero y e = h zero y e
got_after P (z ∷ xs) (suc j) x p h (suc k) y e = got_after (λ k y. P (suc k) y) xs j x p (λ k y. h (suc k) y) k y e

pub way_set : (ways : List (Option Way)) (r : Region) (w : Way) (k : ℕ) → k ≡ past r → (bs : List (Region × Region)) → AreWays bs ways → Leads bs r w
    → AreWays bs (slice_set ways k (Some w))
way_set ways r w k place bs h leads = record {
  lead = λ q v e.
      got_after (λ j o. (q : Region) (v : Way) → j ≡ past q → o ≡ Some v → Leads bs q v) ways k (Some w)
      (λ q v p s.
      let a : r ≡ q = same_place r q (sym place ∙ p) in
      let b : w ≡ v = cc in
      subst (λ c. Leads bs c v) a (subst (λ u. Leads bs r u) b leads))
      (λ j o g q v p s. h.lead q v (subst (λ i. slice_get ways i ≡ Some (Some v)) p (g ∙ ap Some s)))
      (past q) (Some v) e q v refl refl;
}

-- ---- rows

-- a region of these
pub one_among : (rs : List RegionId) (i : ℕ) (d : RegionId) → i < length rs → is_among (regions_of rs) (region_of (get_or rs i d)) ≡ true
one_among [] i d l = absurd (omega (arith, l))
one_among (r ∷ rs) zero d l = or_left (same_id (region_of r) (region_of r)) (is_among (regions_of rs) (region_of r)) (itself (region_of r))
  where
    itself : (r : Region) → same_id r r ≡ true
    itself TheHeap = refl
    itself (Level k) = grind (arith, nat_tests)
one_among (r ∷ rs) (suc i) d l =
    or_right (same_id (region_of r) (region_of (get_or rs i d))) (is_among (regions_of rs) (region_of (get_or rs i d)))
    (one_among rs i d (omega (arith, l)))

-- what outlives a region by one bound
pub row_leads : (bs : List (Region × Region)) (rows : List (List Region)) → AreRows rows bs → (row : List Region) (y : Region) → row ≡ row_of rows y
    → (r : Region) → is_among row r ≡ true → reaches 1 bs r y ≡ true
row_leads bs rows h row y e r a = bound_leads bs r y (sym (h.are r y) ∙ sym (ap (λ q. is_among q r) e) ∙ a)

-- no bounds, no ways
pub none_kept : AreKept [] [] [] true
none_kept = record { rows_are = no_bounds; ways_are = record { lead = λ r w e. absurd (nothing (past r) w e) }; all_are = refl }
  where
    nothing : (k : ℕ) (w : Way) → slice_get [] k ≡ Some (Some w) → ⊥
    nothing zero w e = cc
    nothing (suc k) w e = cc

-- ---- a region that isn't deeper than another one doesn't lead there

no_or : (p q : Bool) → p ≡ false → q ≡ false → p || q ≡ false
no_or true q e f = absurd cc
no_or false q e f = f

not_true : (p : Bool) → not p ≡ true → p ≡ false
not_true true e = absurd cc
not_true false e = refl

module _ (ways : List (Option Way)) (b : Region) where
  -- what isn't deeper, and another region than that
  record IsOther (a : Region) : Type 0 where
    other : is_heap a || same_id a b ≡ false
    not_deeper : nat_lt (depth_at ways b) (depth_at ways a) ≡ false

  lower : (x y a : Region) → falls ways (x, y) ≡ true → same_id x a ≡ true → IsOther a → IsOther y
  lower x y a e s h =
      let p = both (not (is_heap y)) (nat_lt (depth_at ways y) (depth_at ways x)) e in
      let less : nat_lt (depth_at ways y) (depth_at ways a) ≡ true =
      subst (λ z. nat_lt (depth_at ways y) (depth_at ways z) ≡ true) (id_is x a s) p.1 in
      let least = h.not_deeper in
      record {
        other = no_or (is_heap y) (same_id y b) (not_true (is_heap y) p.0) (by (same_id y b) refl less least);
        not_deeper = grind (arith, nat_tests, less, least);
      }
    where
      by : (t : Bool) → same_id y b ≡ t → nat_lt (depth_at ways y) (depth_at ways a) ≡ true → nat_lt (depth_at ways b) (depth_at ways a) ≡ false → t ≡ false
      by false q less least = refl
      by true q less least =
          let same : depth_at ways y ≡ depth_at ways b = ap (depth_at ways) (id_is y b q) in
          absurd (grind (arith, nat_tests, less, least, same))

  none_leads : (f : Region → Bool) → ((c : Region) → IsOther c → f c ≡ false) → (bs : List (Region × Region)) → all_fall ways bs ≡ true
      → (a : Region) → IsOther a → by_bounds bs a f ≡ false
  none_leads f g [] h a o = refl
  none_leads f g ((x, y) ∷ bs) h a o =
      let p = both (falls ways (x, y)) (all_fall ways bs) h in
      no_or (same_id x a && f y) (by_bounds bs a f) (by (same_id x a) refl p.0) (none_leads f g bs p.1 a o)
    where
      by : (t : Bool) → same_id x a ≡ t → falls ways (x, y) ≡ true → t && f y ≡ false
      by false s e = refl
      by true s e = g y (lower x y a e s o)

  never : (bs : List (Region × Region)) → all_fall ways bs ≡ true → (n : ℕ) (a : Region) → IsOther a → reaches n bs a b ≡ false
  never bs h zero a o = o.other
  never bs h (suc n) a o =
      no_or (is_heap a || same_id a b) (by_bounds bs a (λ c. reaches n bs c b)) o.other
      (none_leads (λ c. reaches n bs c b) (λ c p. never bs h n c p) bs h a o)

pub not_deeper : (ways : List (Option Way)) (bs : List (Region × Region)) → all_fall ways bs ≡ true → (n : ℕ) (a b : Region)
    → is_heap a ≡ false → same_id a b ≡ false → nat_lt (depth_at ways b) (depth_at ways a) ≡ false → reaches n bs a b ≡ false
not_deeper ways bs h n a b e s l =
    never ways b bs h n a record { other = no_or (is_heap a) (same_id a b) e s; not_deeper = l }
