-- A walk over bounds, level by level: after a number of levels, the marked regions are those that reach in as many steps.
use Rattle.std.specs.Prelude.{length, nat_lt, ◌==◌, ◌||◌, ◌≤◌, ◌++◌}
use Rattle.std.proofs.Common.{◌≡◌, ℕ, zero, suc, Bool, true, false, List, [], ◌∷◌, refl, sym, ◌∙◌, ap, ap₂, subst, arith}
use Rattle.std.proofs.lemmas.Bool.{eqb-true}
use Rattle.std.proofs.lemmas.Bool.Decides.{nat_tests}
use Rattle.source_typing.proofs.Converting.{id_is}
use Rattle.source_typing.specs.Named.{Below, BoundsBelow}
use Rattle.source_typing.specs.Regions.{Level, Region, TheHeap, any_of, by_bounds, is_among, same_id}
use Rattle.check_regions.specs.Reached.{has, is_near, marks_of, reaches_any, reaches_near}
use Rattle.check_regions.specs.Walked.{AreRows, Walked, all_found, begun_level, found, found_from, if_new, levels, next_level, row_of, walk_from}
use Rattle.check_regions.proofs.Extending.{among_last}
use Rattle.check_regions.proofs.Rounds.{both_bounds, bounds_agree, first_marked, kept_long, marked, or_none, or_or, so_many}
use Rattle.check_regions.proofs.Rows.{in_rows}

-- ---- what is come to

found_long : (x : Region) (w : Walked) → length (found x w).marks ≡ length w.marks
found_long x w = by (has w.marks x)
  where
    by : (t : Bool) → length (if_new t x w).marks ≡ length w.marks
    by true = refl
    by false = kept_long x w.marks

found_marks : (x : Region) (w : Walked) (a : Region) → Below (length w.marks) a → has (found x w).marks a ≡ has w.marks a || same_id x a
found_marks x w a l = by (has w.marks x) refl
  where
    there : (t : Bool) → same_id x a ≡ t → has w.marks x ≡ true → has w.marks a ≡ has w.marks a || t
    there true e p = let h : has w.marks a ≡ true = subst (λ c. has w.marks c ≡ true) (id_is x a e) p in h ∙ sym (ap (λ t. t || true) h)
    there false e p = or_none (has w.marks a)

    by : (t : Bool) → has w.marks x ≡ t → has (if_new t x w).marks a ≡ has w.marks a || same_id x a
    by true p = there (same_id x a) refl p
    by false p = marked x w.marks a l

all_long : (xs : List Region) (w : Walked) → length (all_found xs w).marks ≡ length w.marks
all_long [] w = refl
all_long (x ∷ xs) w = all_long xs (found x w) ∙ found_long x w

all_marks : (xs : List Region) (w : Walked) (a : Region) → Below (length w.marks) a → has (all_found xs w).marks a ≡ has w.marks a || is_among xs a
all_marks [] w a l = or_none (has w.marks a)
all_marks (x ∷ xs) w a l =
    all_marks xs (found x w) a (subst (λ n. Below n a) (sym (found_long x w)) l)
    ∙ ap (λ t. t || is_among xs a) (found_marks x w a l) ∙ or_or (has w.marks a) (same_id x a) (is_among xs a)

module _ (rows : List (List Region)) where
  from_long : (ys : List Region) (w : Walked) → length (found_from rows ys w).marks ≡ length w.marks
  from_long [] w = refl
  from_long (y ∷ ys) w = from_long ys (all_found (row_of rows y) w) ∙ all_long (row_of rows y) w

  from_marks : (ys : List Region) (w : Walked) (a : Region) → Below (length w.marks) a
      → has (found_from rows ys w).marks a ≡ has w.marks a || any_of ys (λ y. is_among (row_of rows y) a)
  from_marks [] w a l = or_none (has w.marks a)
  from_marks (y ∷ ys) w a l =
      let rest : Bool = any_of ys (λ y. is_among (row_of rows y) a) in
      from_marks ys (all_found (row_of rows y) w) a (subst (λ n. Below n a) (sym (all_long (row_of rows y) w)) l)
      ∙ ap (λ t. t || rest) (all_marks (row_of rows y) w a l) ∙ or_or (has w.marks a) (is_among (row_of rows y) a) rest

-- ---- what was marked last is what is new

record AreNew (m : List Bool) (w : Walked) : Type 0 where
  long : length w.marks ≡ length m
  new : (a : Region) → Below (length m) a → has w.marks a ≡ has m a || is_among w.latest a

found_new : (m : List Bool) (x : Region) (w : Walked) → AreNew m w → AreNew m (found x w)
found_new m x w h = by (has w.marks x)
  where
    by : (t : Bool) → AreNew m (if_new t x w)
    by true = h
    by false = record {
      long = kept_long x w.marks ∙ h.long;
      new = λ a l.
          marked x w.marks a (subst (λ n. Below n a) (sym h.long) l)
          ∙ ap (λ t. t || same_id x a) (h.new a l) ∙ or_or (has m a) (is_among w.latest a) (same_id x a)
          ∙ ap (λ t. has m a || t) (sym (among_last w.latest x a));
    }

all_new : (m : List Bool) (xs : List Region) (w : Walked) → AreNew m w → AreNew m (all_found xs w)
all_new m [] w h = h
all_new m (x ∷ xs) w h = all_new m xs (found x w) (found_new m x w h)

from_new : (m : List Bool) (rows : List (List Region)) (ys : List Region) (w : Walked) → AreNew m w → AreNew m (found_from rows ys w)
from_new m rows [] w h = h
from_new m rows (y ∷ ys) w h = from_new m rows ys (all_found (row_of rows y) w) (all_new m (row_of rows y) w h)

next_new : (rows : List (List Region)) (w : Walked) → AreNew w.marks (next_level rows w)
next_new rows w = from_new w.marks rows w.latest (begun_level w) record { long = refl; new = λ a l. or_none (has w.marks a) }

-- ---- level by level

module _ (size : ℕ) (ts : List Region) (bs : List (Region × Region)) (below : BoundsBelow size bs) where
  -- After so many levels. What a bound leads to a marked one is marked, or is led to one that was marked last.
  record IsAt (n : ℕ) (w : Walked) : Type 0 where
    long : length w.marks ≡ size
    marks : (a : Region) → Below size a → has w.marks a ≡ reaches_near (is_near ts) bs n a
    rest : (a : Region) → Below size a → is_near ts a || by_bounds bs a (has w.marks) ≡ has w.marks a || by_bounds bs a (is_among w.latest)

  near_is : (c : Region) → is_near ts c ≡ is_among (ts ++ TheHeap ∷ []) c
  near_is c = by c ∙ sym (among_last ts TheHeap c)
    where
      or_yes : (t : Bool) → true ≡ t || true
      or_yes true = refl
      or_yes false = refl

      by : (c : Region) → is_near ts c ≡ is_among ts c || same_id TheHeap c
      by TheHeap = or_yes (is_among ts TheHeap)
      by (Level k) = or_none (is_among ts (Level k))

  at_first : IsAt zero (walk_from size ts)
  at_first = record {
    long = so_many size ts;
    marks = first_marked size ts;
    rest = λ a l.
        ap₂ (λ s t. s || t) (sym (first_marked size ts a l))
        (bounds_agree size bs a (has (marks_of size ts)) (is_among (ts ++ TheHeap ∷ [])) below (λ c m. first_marked size ts c m ∙ near_is c));
  }

  step : (rows : List (List Region)) → AreRows rows bs → (n : ℕ) (w : Walked) → IsAt n w → (a : Region) → Below size a
      → has (next_level rows w).marks a ≡ has w.marks a || by_bounds bs a (is_among w.latest)
  step rows are n w h a l =
      from_marks rows w.latest (begun_level w) a (subst (λ n. Below n a) (sym h.long) l)
      ∙ ap (λ t. has w.marks a || t) (in_rows rows bs are w.latest a)

  at_next : (rows : List (List Region)) → AreRows rows bs → (n : ℕ) (w : Walked) → IsAt n w → IsAt (suc n) (next_level rows w)
  at_next rows are n w h = record {
    long = from_long rows w.latest (begun_level w) ∙ h.long;
    marks = λ a l.
        step rows are n w h a l ∙ sym (h.rest a l)
        ∙ ap (λ t. is_near ts a || t) (bounds_agree size bs a (has w.marks) (λ c. reaches_near (is_near ts) bs n c) below h.marks);
    rest = λ a l.
        ap (λ t. is_near ts a || t)
        (bounds_agree size bs a (has (next_level rows w).marks) (λ c. has w.marks c || is_among (next_level rows w).latest c) below
        (λ c m. (next_new rows w).new c (subst (λ n. Below n c) (sym h.long) m))
        ∙ both_bounds bs a (has w.marks) (is_among (next_level rows w).latest))
        ∙ sym (or_or (is_near ts a) (by_bounds bs a (has w.marks)) (by_bounds bs a (is_among (next_level rows w).latest)))
        ∙ ap (λ t. t || by_bounds bs a (is_among (next_level rows w).latest)) (h.rest a l ∙ sym (step rows are n w h a l));
  }

  at_level : (rows : List (List Region)) → AreRows rows bs → (n : ℕ) → IsAt n (levels rows (walk_from size ts) n)
  at_level rows are zero = at_first
  at_level rows are (suc n) = at_next rows are n (levels rows (walk_from size ts) n) (at_level rows are n)

  -- as many levels as there are bounds
  pub all_levels : (rows : List (List Region)) → AreRows rows bs → (a : Region) → Below size a
      → has (levels rows (walk_from size ts) (length bs)).marks a ≡ reaches_any ts bs a
  all_levels rows are = (at_level rows are (length bs)).marks

-- ---- a level after which nothing is new is the last one

pub none_there : {X : Type 0} (xs : List X) → (length xs == 0) ≡ true → xs ≡ []
none_there [] h = refl
none_there (x ∷ xs) h = let e : suc (length xs) ≡ 0 = eqb-true (suc (length xs)) 0 h in absurd (omega (arith, e))

module _ (rows : List (List Region)) where
  last_level : (w : Walked) → w.latest ≡ [] → next_level rows w ≡ w
  last_level w e = by w.marks w.latest e
    where
      by : (m : List Bool) (l : List Region) → l ≡ [] → next_level rows (record { marks = m; latest = l }) ≡ (record { marks = m; latest = l })
      by m l e = subst (λ l. next_level rows (record { marks = m; latest = l }) ≡ (record { marks = m; latest = l })) (sym e) refl

  pub settled : (w : Walked) (n m : ℕ) → (levels rows w n).latest ≡ [] → n ≤ m → levels rows w m ≡ levels rows w n
  settled w n zero s l = let e : zero ≡ n = omega (arith, l) in ap (λ k. levels rows w k) e
  settled w n (suc m) s l = by (nat_lt m n) refl (λ h. settled w n m s h)
    where
      by : (t : Bool) → nat_lt m n ≡ t → (n ≤ m → levels rows w m ≡ levels rows w n) → levels rows w (suc m) ≡ levels rows w n
      by true e before = let q : suc m ≡ n = grind (arith, nat_tests, e, l) in ap (λ k. levels rows w k) q
      by false e before =
          let q : n ≤ m = grind (arith, nat_tests, e) in
          ap (next_level rows) (before q) ∙ last_level (levels rows w n) s
