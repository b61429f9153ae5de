-- A name that begins in code begins as the rules say.
use Rattle.std.specs.Prelude.{length, nat_eq, nat_lt, slice_get, ◌&&◌, ◌||◌, ◌++◌, if◌then◌else◌}
use Rattle.std.proofs.Common.{◌≡◌, ℕ, zero, suc, ◌+◌, ◌<◌, ◌≤◌, Bool, true, false, Option, Some, None, List, [], ◌∷◌, refl, sym, ◌∙◌, ap, subst, arith}
use Rattle.std.proofs.lemmas.Bool.Decides.{nat_tests}
use Rattle.std.proofs.lemmas.Option.{slice_get_past}
use Rattle.source_typing.proofs.NamedBelow.{all_up, below_up}
use Rattle.source_typing.specs.Named.{AllBelow, Below, BoundsBelow}
use Rattle.source_typing.specs.Regions.{Level, Region, Regions, TheHeap, by_bounds, is_among, opened, reaches, same_id, with_name, with_scope}
use Rattle.check_regions.specs.Begun.{begins_live, is_over_heap, is_over_later}
use Rattle.check_regions.specs.Scopes.{
  AreThose,
  Scoped,
  live_in,
  names_ordered,
  of_name,
  outlives_in,
  over_earlier,
  over_later_in,
  over_this,
  with_begun,
  with_opened,
}
use Rattle.check_regions.specs.declared.begun.Begun.{Begun}
use Rattle.check_regions.specs.declared.begun.Begun.TheVariants.{Block, Name, Variable}

-- ---- lists

module _ {X : Type 0} where
  pub got_last : (xs : List X) (x : X) → slice_get (xs ++ x ∷ []) (length xs) ≡ Some x
  got_last [] x = refl
  got_last (y ∷ xs) x = got_last xs x

  pub got_other : (xs : List X) (x : X) (k : ℕ) → nat_eq k (length xs) ≡ false → slice_get (xs ++ x ∷ []) k ≡ slice_get xs k
  got_other [] x zero h = absurd (grind (arith, nat_tests, h))
  got_other [] x (suc k) h = refl
  got_other (y ∷ xs) x zero h = refl
  got_other (y ∷ xs) x (suc k) h = got_other xs x k (grind (arith, nat_tests, h))

  pub one_longer : (xs : List X) (x : X) → length (xs ++ x ∷ []) ≡ length xs + 1
  one_longer [] x = refl
  one_longer (y ∷ xs) x = let e = one_longer xs x in grind (arith, e)

-- ---- the same region, asked from the other side

pub turned : (r q : Region) → same_id r q ≡ same_id q r
turned TheHeap TheHeap = refl
turned TheHeap (Level k) = refl
turned (Level j) TheHeap = refl
turned (Level j) (Level k) = by (nat_eq k j) refl
  where
    by : (t : Bool) → nat_eq k j ≡ t → nat_eq j k ≡ t
    by true p = grind (arith, nat_tests, p)
    by false p = grind (arith, nat_tests, p)

-- ---- one more region

pub among_last : (rs : List Region) (r q : Region) → is_among (rs ++ r ∷ []) q ≡ is_among rs q || same_id r q
among_last [] r q = or_none (same_id r q)
  where
    or_none : (c : Bool) → c || false ≡ false || c
    or_none true = refl
    or_none false = refl
among_last (p ∷ rs) r q = ap (λ c. same_id p q || c) (among_last rs r q) ∙ sym (or_or (same_id p q) (is_among rs q) (same_id r q))
  where
    or_or : (a c d : Bool) → (a || c) || d ≡ a || (c || d)
    or_or true c d = refl
    or_or false c d = refl

-- ---- regions that aren't in scope

-- such a one is none of those that are
pub not_among : (n : ℕ) (rs : List Region) → AllBelow n rs → (k : ℕ) → n ≤ k → is_among rs (Level k) ≡ false
not_among n [] h k l = refl
not_among n (TheHeap ∷ rs) h k l = not_among n rs h.1 k l
not_among n (Level j ∷ rs) h k l = ap (λ b. b || is_among rs (Level k)) (other h.0) ∙ not_among n rs h.1 k l
  where
    other : j < n → nat_eq j k ≡ false
    other i = grind (arith, nat_tests, i, l)

-- no bound speaks of it
no_bound : (n : ℕ) (bs : List (Region × Region)) → BoundsBelow n bs → (k : ℕ) → n ≤ k → (further : Region → Bool) → by_bounds bs (Level k) further ≡ false
no_bound n [] b k l further = refl
no_bound n ((x, y) ∷ bs) b k l further = ap (λ c. (c && further y) || by_bounds bs (Level k) further) (other x b.0) ∙ no_bound n bs b.2 k l further
  where
    other : (x : Region) → Below n x → same_id x (Level k) ≡ false
    other TheHeap i = refl
    other (Level j) i = grind (arith, nat_tests, i, l)

-- by the bounds it outlives itself alone
pub not_reached : (n : ℕ) (bs : List (Region × Region)) → BoundsBelow n bs → (m k : ℕ) (r : Region) → n ≤ k → same_id (Level k) r ≡ false
    → reaches m bs (Level k) r ≡ false
not_reached n bs b zero k r l e = e
not_reached n bs b (suc m) k r l e =
    ap (λ c. c || by_bounds bs (Level k) (λ c. reaches m bs c r)) e ∙ no_bound n bs b k l (λ c. reaches m bs c r)

-- ---- the rules' scope with one more name

module _ (s : Scoped) (g : Regions) (h : AreThose s g) where
  abbrev n : ℕ
  n = g.count

  last : (b : Begun) → slice_get (s.begun ++ b ∷ []) n ≡ Some b
  last b = subst (λ m. slice_get (s.begun ++ b ∷ []) m ≡ Some b) h.count (got_last s.begun b)

  before : (b : Begun) (k : ℕ) → nat_eq k n ≡ false → slice_get (s.begun ++ b ∷ []) k ≡ slice_get s.begun k
  before b k l = got_other s.begun b k (subst (λ m. nat_eq k m ≡ false) (sym h.count) l)

  -- one that isn't in scope
  past : (k : ℕ) → n ≤ k → slice_get s.begun k ≡ None
  past k l = slice_get_past s.begun k (subst (λ m. m ≤ k) (sym h.count) l)

  -- by the bounds it outlives itself alone
  past_bounds : (j k : ℕ) → n ≤ j → nat_eq j k ≡ false → reaches (length s.bounds) s.bounds (Level j) (Level k) ≡ false
  past_bounds j k l e = not_reached n s.bounds h.bounds (length s.bounds) j (Level k) l e

  equal : (k : ℕ) → nat_eq k n ≡ true → k ≡ n
  equal k e = grind (arith, nat_tests, e)

  -- ---- what is said of the new name

  abbrev LiveSame : Regions → Begun → Region → Type 0
  LiveSame later b r = (live_in (with_begun b s) r ≡ later.live r)

  live_of : (b : Begun) (k : ℕ) → k ≡ n → of_name begins_live (slice_get (s.begun ++ b ∷ []) k) || is_among s.opened (Level k) ≡ begins_live b
  live_of b k e =
      subst (λ m. of_name begins_live (slice_get (s.begun ++ b ∷ []) m) || is_among s.opened (Level m) ≡ begins_live b) (sym e)
      (ap (λ o. of_name begins_live o || is_among s.opened (Level n)) (last b)
      ∙ ap (λ c. begins_live b || c) (not_among n s.opened h.opened n (grind arith)) ∙ or_no (begins_live b))
    where
      or_no : (c : Bool) → c || false ≡ c
      or_no true = refl
      or_no false = refl

  live_older : (b : Begun) (k : ℕ) → nat_eq k n ≡ false
      → of_name begins_live (slice_get (s.begun ++ b ∷ []) k) || is_among s.opened (Level k) ≡ g.live (Level k)
  live_older b k l = ap (λ o. of_name begins_live o || is_among s.opened (Level k)) (before b k l) ∙ h.live (Level k)

  later_of : (b : Begun) (k : ℕ) → k ≡ n → of_name is_over_later (slice_get (s.begun ++ b ∷ []) k) ≡ is_over_later b
  later_of b k e = subst (λ m. of_name is_over_later (slice_get (s.begun ++ b ∷ []) m) ≡ is_over_later b) (sym e) (ap (λ o. of_name is_over_later o) (last b))

  later_older : (b : Begun) (k : ℕ) → nat_eq k n ≡ false → of_name is_over_later (slice_get (s.begun ++ b ∷ []) k) ≡ g.lasts (Level k)
  later_older b k l = ap (λ o. of_name is_over_later o) (before b k l) ∙ h.lasts (Level k)

  heap_of : (b : Begun) (k : ℕ) → k ≡ n → of_name is_over_heap (slice_get (s.begun ++ b ∷ []) k) ≡ is_over_heap b
  heap_of b k e = subst (λ m. of_name is_over_heap (slice_get (s.begun ++ b ∷ []) m) ≡ is_over_heap b) (sym e) (ap (λ o. of_name is_over_heap o) (last b))

  heap_older : (b : Begun) (k : ℕ) → nat_eq k n ≡ false → of_name is_over_heap (slice_get (s.begun ++ b ∷ []) k) ≡ g.order (Level k) TheHeap
  heap_older b k l = ap (λ o. of_name is_over_heap o) (before b k l) ∙ h.order (Level k) TheHeap

  -- ---- the order of two names

  same_name : (b : Begun) (k : ℕ) (x : Bool) → names_ordered (s.begun ++ b ∷ []) k k x ≡ true
  same_name b k x = ap (λ c. (if c then true else (if nat_lt k k then over_this (slice_get (s.begun ++ b ∷ []) k) (slice_get (s.begun ++ b ∷ []) k) x
      else over_earlier (slice_get (s.begun ++ b ∷ []) k) x))) (itself k)
    where
      itself : (k : ℕ) → nat_eq k k ≡ true
      itself k = grind (arith, nat_tests)

  abbrev ordered_by : Bool → Bool → Option Begun → Option Begun → Bool → Bool
  ordered_by same less a c x = (if same then true else (if less then over_this a c x else over_earlier a x))

  over_new : (b : Begun) (j : ℕ) (x : Bool) → nat_eq j n ≡ false → names_ordered (s.begun ++ b ∷ []) j n x
      ≡ (if nat_lt j n then over_this (slice_get s.begun j) (Some b) x else over_earlier (slice_get s.begun j) x)
  over_new b j x e =
      ap (λ c. ordered_by c (nat_lt j n) (slice_get (s.begun ++ b ∷ []) j) (slice_get (s.begun ++ b ∷ []) n) x) e
      ∙ ap (λ c. ordered_by false (nat_lt j n) c (slice_get (s.begun ++ b ∷ []) n) x) (before b j e)
      ∙ ap (λ c. ordered_by false (nat_lt j n) (slice_get s.begun j) c x) (last b)

  new_over : (b : Begun) (k : ℕ) (x : Bool) → nat_eq n k ≡ false → names_ordered (s.begun ++ b ∷ []) n k x
      ≡ (if nat_lt n k then over_this (Some b) (slice_get s.begun k) x else over_earlier (Some b) x)
  new_over b k x e =
      let f : nat_eq k n ≡ false = grind (arith, nat_tests, e) in
      ap (λ c. ordered_by c (nat_lt n k) (slice_get (s.begun ++ b ∷ []) n) (slice_get (s.begun ++ b ∷ []) k) x) e
      ∙ ap (λ c. ordered_by false (nat_lt n k) (slice_get (s.begun ++ b ∷ []) n) c x) (before b k f)
      ∙ ap (λ c. ordered_by false (nat_lt n k) c (slice_get s.begun k) x) (last b)

  both_older : (b : Begun) (j k : ℕ) (x : Bool) → nat_eq j n ≡ false → nat_eq k n ≡ false
      → names_ordered (s.begun ++ b ∷ []) j k x ≡ names_ordered s.begun j k x
  both_older b j k x l m =
      ap (λ c. ordered_by (nat_eq j k) (nat_lt j k) c (slice_get (s.begun ++ b ∷ []) k) x) (before b j l)
      ∙ ap (λ c. ordered_by (nat_eq j k) (nat_lt j k) (slice_get s.begun j) c x) (before b k m)

  -- ---- the rules' scope with the new name

  -- whether a region outlives the new one
  abbrev over_it : Begun → Region → Bool
  over_it (Variable live heap later) a = false
  over_it Block a = g.lasts a
  over_it (Name live) a = g.order a TheHeap

  -- the new one
  abbrev is_new : Region → Bool
  is_new a = same_id a (Level n)

  -- the scope's rules with one more name
  record Extends (b : Begun) (later : Regions) : Type 0 where
    count : later.count ≡ n + 1
    live : (a : Region) → later.live a ≡ (if is_new a then begins_live b else g.live a)
    order : (a c : Region)
        → later.order a c ≡ (if is_new c then (if is_new a then true else over_it b a) else (if is_new a then false else g.order a c))
    lasts : (a : Region) → later.lasts a ≡ (if is_new a then is_over_later b else g.lasts a)
    over : (j : ℕ) (x : Bool) → over_this (slice_get s.begun j) (Some b) x ≡ over_it b (Level j)
    not_over : (j : ℕ) → slice_get s.begun j ≡ None → over_it b (Level j) ≡ false
    over_past : (x : Bool) → over_this (Some b) None x ≡ x
    over_from_heap : over_it b TheHeap ≡ true
    under : (x : Bool) → over_earlier (Some b) x ≡ false
    no_heap : is_over_heap b ≡ false

  module _ (b : Begun) (later : Regions) (e : Extends b later) where
    live_same : (r : Region) → LiveSame later b r
    live_same TheHeap = h.live TheHeap ∙ sym (e.live TheHeap)
    live_same (Level k) = by (nat_eq k n) refl ∙ sym (e.live (Level k))
      where
        by : (t : Bool) → nat_eq k n ≡ t → of_name begins_live (slice_get (s.begun ++ b ∷ []) k) || is_among s.opened (Level k)
            ≡ (if t then begins_live b else g.live (Level k))
        by true p = live_of b k (equal k p)
        by false p = live_older b k p

    lasts_same : (r : Region) → over_later_in (with_begun b s) r ≡ later.lasts r
    lasts_same TheHeap = h.lasts TheHeap ∙ sym (e.lasts TheHeap)
    lasts_same (Level k) = by (nat_eq k n) refl ∙ sym (e.lasts (Level k))
      where
        by : (t : Bool) → nat_eq k n ≡ t → of_name is_over_later (slice_get (s.begun ++ b ∷ []) k) ≡ (if t then is_over_later b else g.lasts (Level k))
        by true p = later_of b k (equal k p)
        by false p = later_older b k p

    abbrev by_both : Bool → Bool → Region → Region → Bool
    by_both t u a c = (if u then (if t then true else over_it b a) else (if t then false else g.order a c))

    -- an earlier name over the new one; one that isn't in scope is over none
    over_new_is : (j : ℕ) (x : Bool) → nat_eq j n ≡ false → x ≡ reaches (length s.bounds) s.bounds (Level j) (Level n)
        → names_ordered (s.begun ++ b ∷ []) j n x ≡ over_it b (Level j)
    over_new_is j x p r = over_new b j x p ∙ by (nat_lt j n) refl
      where
        by : (t : Bool) → nat_lt j n ≡ t
            → (if t then over_this (slice_get s.begun j) (Some b) x else over_earlier (slice_get s.begun j) x) ≡ over_it b (Level j)
        by true q = e.over j x
        by false q =
            let l : n ≤ j = grind (arith, nat_tests, q) in
            ap (λ o. over_earlier o x) (past j l) ∙ r ∙ past_bounds j n l p ∙ sym (e.not_over j (past j l))

    -- the new one is over none
    new_over_is : (k : ℕ) (x : Bool) → nat_eq n k ≡ false → x ≡ reaches (length s.bounds) s.bounds (Level n) (Level k)
        → names_ordered (s.begun ++ b ∷ []) n k x ≡ false
    new_over_is k x p r = new_over b k x p ∙ by (nat_lt n k) refl
      where
        by : (t : Bool) → nat_lt n k ≡ t → (if t then over_this (Some b) (slice_get s.begun k) x else over_earlier (Some b) x) ≡ false
        by true q =
            let l : n ≤ k = grind (arith, nat_tests, q) in
            let m : n ≤ n = grind arith in
            ap (λ o. over_this (Some b) o x) (past k l) ∙ e.over_past x ∙ r ∙ past_bounds n k m p
        by false q = e.under x

    names_same : (j k : ℕ) (x : Bool) → x ≡ reaches (length s.bounds) s.bounds (Level j) (Level k)
        → names_ordered (s.begun ++ b ∷ []) j k x ≡ later.order (Level j) (Level k)
    names_same j k x r = by (nat_eq j n) (nat_eq k n) refl refl ∙ sym (e.order (Level j) (Level k))
      where
        reached : ℕ → ℕ → Bool
        reached i l = reaches (length s.bounds) s.bounds (Level i) (Level l)

        by : (t u : Bool) → nat_eq j n ≡ t → nat_eq k n ≡ u → names_ordered (s.begun ++ b ∷ []) j k x ≡ by_both t u (Level j) (Level k)
        by true true p q =
            let z : k ≡ j = equal k q ∙ sym (equal j p) in
            subst (λ i. names_ordered (s.begun ++ b ∷ []) j i x ≡ true) (sym z) (same_name b j x)
        by false true p q =
            subst (λ i. names_ordered (s.begun ++ b ∷ []) j i x ≡ over_it b (Level j)) (sym (equal k q))
            (over_new_is j x p (r ∙ ap (λ i. reached j i) (equal k q)))
        by true false p q =
            let i : nat_eq n k ≡ false = grind (arith, nat_tests, q) in
            subst (λ i. names_ordered (s.begun ++ b ∷ []) i k x ≡ false) (sym (equal j p)) (new_over_is k x i (r ∙ ap (λ i. reached i k) (equal j p)))
        by false false p q =
            both_older b j k x p q ∙ ap (λ y. names_ordered s.begun j k y) r ∙ h.order (Level j) (Level k)

    order_same : (a c : Region) → outlives_in (with_begun b s) a c ≡ later.order a c
    order_same TheHeap TheHeap = h.order TheHeap TheHeap ∙ sym (e.order TheHeap TheHeap)
    order_same TheHeap (Level k) = by (nat_eq k n) refl ∙ sym (e.order TheHeap (Level k))
      where
        by : (u : Bool) → nat_eq k n ≡ u → true ≡ by_both false u TheHeap (Level k)
        by true q = sym e.over_from_heap
        by false q = h.order TheHeap (Level k)
    order_same (Level j) TheHeap = by (nat_eq j n) refl ∙ sym (e.order (Level j) TheHeap)
      where
        by : (t : Bool) → nat_eq j n ≡ t → of_name is_over_heap (slice_get (s.begun ++ b ∷ []) j) ≡ by_both t false (Level j) TheHeap
        by true p = heap_of b j (equal j p) ∙ e.no_heap
        by false p = heap_older b j p
    order_same (Level j) (Level k) = names_same j k (reaches (length s.bounds) s.bounds (Level j) (Level k)) refl

    bounds_later : (cs : List (Region × Region)) → BoundsBelow n cs → BoundsBelow (n + 1) cs
    bounds_later [] l = tt
    bounds_later ((x, y) ∷ cs) l = (below_up n x l.0, below_up n y l.1, bounds_later cs l.2)

    are_those : AreThose (with_begun b s) later
    are_those = record {
      count = one_longer s.begun b ∙ ap (λ m. m + 1) h.count ∙ sym e.count;
      live = live_same;
      order = order_same;
      lasts = lasts_same;
      opened = subst (λ m. AllBelow m s.opened) (sym e.count) (all_up n s.opened h.opened);
      bounds = subst (λ m. BoundsBelow m s.bounds) (sym e.count) (bounds_later s.bounds h.bounds);
    }

  pub block_begins : AreThose (with_begun Block s) (with_scope g)
  block_begins = are_those Block (with_scope g) record {
    count = refl;
    live = λ a. refl;
    order = λ a c. refl;
    lasts = λ a. refl;
    over = λ j x. h.lasts (Level j);
    not_over = λ j p. sym (h.lasts (Level j)) ∙ ap (λ o. of_name is_over_later o) p;
    over_past = λ x. refl;
    over_from_heap = sym (h.lasts TheHeap);
    under = λ x. refl;
    no_heap = refl;
  }

  pub name_begins : (live : Bool) → AreThose (with_begun (Name live) s) (with_name live g)
  name_begins live = are_those (Name live) (with_name live g) record {
    count = refl;
    live = λ a. refl;
    order = λ a c. refl;
    lasts = λ a. refl;
    over = λ j x. h.order (Level j) TheHeap;
    not_over = λ j p. sym (h.order (Level j) TheHeap) ∙ ap (λ o. of_name is_over_heap o) p;
    over_past = λ x. refl;
    over_from_heap = sym (h.order TheHeap TheHeap);
    under = λ x. refl;
    no_heap = refl;
  }

  -- ---- a region that is opened

  all_below_and : (rs : List Region) (r : Region) → AllBelow n rs → Below n r → AllBelow n (rs ++ r ∷ [])
  all_below_and [] r a l = (l, tt)
  all_below_and (q ∷ rs) r a l = (a.0, all_below_and rs r a.1 l)

  -- whether one of them is that one is asked last, or first
  asked_first : (a c d e : Bool) → d ≡ e → a || (c || d) ≡ (if e then true else a || c)
  asked_first a c d e p = by a c d ∙ ap (λ x. if x then true else a || c) p
    where
      by : (a c d : Bool) → a || (c || d) ≡ (if d then true else a || c)
      by true c true = refl
      by true c false = refl
      by false true true = refl
      by false true false = refl
      by false false true = refl
      by false false false = refl

  opened_live : (r q : Region) → live_in (with_opened r s) q ≡ (opened r g).live q
  opened_live TheHeap TheHeap = refl
  opened_live (Level j) TheHeap = h.live TheHeap
  opened_live r (Level k) =
      let at : Bool = of_name begins_live (slice_get s.begun k) in
      ap (λ c. at || c) (among_last s.opened r (Level k))
      ∙ asked_first at (is_among s.opened (Level k)) (same_id r (Level k)) (same_id (Level k) r) (turned r (Level k))
      ∙ ap (λ c. if same_id (Level k) r then true else c) (h.live (Level k))

  pub region_opens : (r : Region) → Below n r → AreThose (with_opened r s) (opened r g)
  region_opens r l = record {
    count = h.count;
    live = λ q. opened_live r q;
    order = h.order;
    lasts = h.lasts;
    opened = all_below_and s.opened r h.opened l;
    bounds = h.bounds;
  }
