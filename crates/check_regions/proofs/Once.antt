-- Bounds that are taken once say the same.
use Rattle.std.specs.Prelude.{get_or, length, nat_eq, not, take, ◌&&◌, ◌||◌, ◌++◌, ◌+◌, ◌<◌, if◌then◌else◌}
use Rattle.std.specs.List.{list_all, list_any}
use Rattle.std.proofs.Common.{◌≡◌, ℕ, zero, suc, Bool, true, false, List, [], ◌∷◌, map, refl, sym, ◌∙◌, ap, subst, arith}
use Rattle.std.proofs.lemmas.Bool.{eqb-true}
use Rattle.indexmap.specs.IndexSet.{insert_key}
use Rattle.source_typing.specs.Regions.{Region}
use Rattle.check_regions.specs.Once.{AreTaken, place_of}
use Rattle.check_regions.specs.Reached.{past}
use Rattle.check_regions.proofs.Leading.{same_place}

abbrev pub same_pair : ℕ × ℕ → ℕ × ℕ → Bool
same_pair p q = nat_eq p.0 q.0 && nat_eq p.1 q.1

module _ {X : Type 0} (test : X → Bool) where
  all_more : (xs : List X) (x : X) → list_all test (xs ++ x ∷ []) ≡ list_all test xs && test x
  all_more [] x = last (test x)
    where
      last : (t : Bool) → t && true ≡ true && t
      last true = refl
      last false = refl
  all_more (y ∷ xs) x = ap (λ t. test y && t) (all_more xs x) ∙ sym (and_and (test y) (list_all test xs) (test x))
    where
      and_and : (p q r : Bool) → (p && q) && r ≡ p && (q && r)
      and_and true q r = refl
      and_and false q r = refl

pub map_more : {X Y : Type 0} (f : X → Y) (xs : List X) (x : X) → map f (xs ++ x ∷ []) ≡ map f xs ++ f x ∷ []
map_more f [] x = refl
map_more f (y ∷ xs) x = ap (λ ys. f y ∷ ys) (map_more f xs x)

both_true : (p q : Bool) → p && q ≡ true → (p ≡ true) × (q ≡ true)
both_true true q e = (refl, e)
both_true false q e = absurd cc

-- bounds at one place are equal
same_bound : (b d : Region × Region) → same_pair (place_of b) (place_of d) ≡ true → b ≡ d
same_bound b d e =
    let p = both_true (nat_eq (past b.0) (past d.0)) (nat_eq (past b.1) (past d.1)) e in
    let first : b.0 ≡ d.0 = same_place b.0 d.0 (eqb-true (past b.0) (past d.0) p.0) in
    let second : b.1 ≡ d.1 = same_place b.1 d.1 (eqb-true (past b.1) (past d.1) p.1) in
    λ i. (first i, second i)

-- a test that holds of all of them holds of one that is there
there : (test : Region × Region → Bool) (xs : List (Region × Region)) (b : Region × Region)
    → list_any (same_pair (place_of b)) (map place_of xs) ≡ true → list_all test xs ≡ list_all test xs && test b
there test [] b e = absurd cc
there test (x ∷ xs) b e = by (same_pair (place_of b) (place_of x)) refl (there test xs b)
  where
    first : (p q : Bool) → p && q ≡ (p && q) && p
    first true true = refl
    first true false = refl
    first false q = refl

    and_and : (p q r : Bool) → p && (q && r) ≡ (p && q) && r
    and_and true q r = refl
    and_and false q r = refl

    by : (t : Bool) → same_pair (place_of b) (place_of x) ≡ t
        → (list_any (same_pair (place_of b)) (map place_of xs) ≡ true → list_all test xs ≡ list_all test xs && test b)
        → test x && list_all test xs ≡ (test x && list_all test xs) && test b
    by true s further = first (test x) (list_all test xs) ∙ ap (λ c. (test x && list_all test xs) && test c) (sym (same_bound b x s))
    by false s further =
        let rest : list_any (same_pair (place_of b)) (map place_of xs) ≡ true =
        ap (λ t. t || list_any (same_pair (place_of b)) (map place_of xs)) (sym s) ∙ e in
        ap (λ t. test x && t) (further rest) ∙ and_and (test x) (list_all test xs) (test b)

-- ---- one more bound

module _ (seen new : List (ℕ × ℕ)) (once later given : List (Region × Region)) (b : Region × Region) (place : ℕ × ℕ) (at : place ≡ place_of b)
    (is_new : new ≡ insert_key same_pair seen place) (h : AreTaken seen once given) where
  seen_at : (t : Bool) → t ≡ not (list_any (same_pair place) seen) → list_any (same_pair (place_of b)) seen ≡ not t
  seen_at t e = ap (λ p. list_any (same_pair p) seen) (sym at) ∙ twice (list_any (same_pair place) seen) ∙ ap not (sym e)
    where
      twice : (p : Bool) → p ≡ not (not p)
      twice true = refl
      twice false = refl

  new_is : (t : Bool) → list_any (same_pair (place_of b)) seen ≡ t → new ≡ (if t then seen else seen ++ place_of b ∷ [])
  new_is t e = is_new ∙ ap (insert_key same_pair seen) at ∙ ap (λ t. if t then seen else seen ++ place_of b ∷ []) e

  pub taken_first : (t : Bool) → t ≡ not (list_any (same_pair place) seen) → t ≡ true → later ≡ once ++ b ∷ [] → AreTaken new later (given ++ b ∷ [])
  taken_first t e f l = record {
    places =
        new_is false (seen_at t e ∙ ap not f) ∙ ap (λ s. s ++ place_of b ∷ []) h.places
        ∙ sym (map_more place_of once b) ∙ ap (map place_of) (sym l);
    same = record {
      all = λ test.
          ap (list_all test) l ∙ all_more test once b ∙ ap (λ t. t && test b) (h.same.all test) ∙ sym (all_more test given b);
    };
  }

  pub taken_again : (t : Bool) → t ≡ not (list_any (same_pair place) seen) → t ≡ false → later ≡ once → AreTaken new later (given ++ b ∷ [])
  taken_again t e f l =
      let again : list_any (same_pair (place_of b)) seen ≡ true = seen_at t e ∙ ap not f in
      record {
        places = new_is true again ∙ h.places ∙ ap (map place_of) (sym l);
        same = record {
          all = λ test.
              ap (list_all test) l ∙ there test once b (ap (list_any (same_pair (place_of b))) (sym h.places) ∙ again)
              ∙ ap (λ t. t && test b) (h.same.all test) ∙ sym (all_more test given b);
        };
      }

pub none_taken : AreTaken [] [] []
none_taken = record { places = refl; same = record { all = λ test. refl } }

one_more_suc : {X Y : Type 0} (f : X → Y) (xs : List X) (i : ℕ) (d : X) → i < length xs
    → map f (take (suc i) xs) ≡ map f (take i xs) ++ f (get_or xs i d) ∷ []
one_more_suc f [] i d l = absurd (omega (arith, l))
one_more_suc f (x ∷ xs) zero d l = refl
one_more_suc f (x ∷ xs) (suc i) d l = ap (λ ys. f x ∷ ys) (one_more_suc f xs i d (omega (arith, l)))

pub one_more_given : {X Y : Type 0} (f : X → Y) (xs : List X) (i : ℕ) (d : X) → i < length xs
    → map f (take (i + 1) xs) ≡ map f (take i xs) ++ f (get_or xs i d) ∷ []
one_more_given f xs i d l =
    let e : suc i ≡ i + 1 = omega arith in
    subst (λ n. map f (take n xs) ≡ map f (take i xs) ++ f (get_or xs i d) ∷ []) e (one_more_suc f xs i d l)
