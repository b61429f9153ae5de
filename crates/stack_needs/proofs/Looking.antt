-- What is known of needs while functions are looked at, one after another.
use Rattle.std.proofs.Common.{◌≡◌, ◌≢◌, ◌<◌, ◌≤◌, ◌+◌, ◌∙◌, ℕ, zero, suc, Bool, true, false, Option, Some, None, List, [], ◌∷◌, ◌++◌, ◌⊎◌, inl, inr, length}
use Rattle.std.proofs.Common.{get_or, reverse, refl, sym, ap, subst, arith, append_assoc}
use Rattle.std.specs.Prelude.{slice_set, nat_eq, if◌then◌else◌, replicate}
use Rattle.std.specs.List.{All, Contains}
use Rattle.std.proofs.lemmas.List.{get_or-set_same, get_or-set_other, length-set, length-append, length-replicate, append-nil, reverse-append, reverse-reverse}
use Rattle.std.proofs.lemmas.List.Elements.{Contains-append_cases, Contains-append_left, Contains-append_right, Contains-get_or}
use Rattle.std.proofs.lemmas.Bool.Decides.{Decides-eqb}
use Rattle.stack_needs.specs.Graph.{FitsAt, LeavesAt, IsNeed, IsAnswer, Found, AreFound, AreLooked, AreStuck, AreNumbers, WaitsFor, WaitsFor, numbers_below}
use Rattle.stack_needs.specs.Graph.{found, known, need_by, with_need, looked_at}
use Rattle.stack_needs.proofs.Needs.{need_is, none_known, cases_of, first_of, later_of}

pub either_is : (j k : ℕ) → (j ≡ k) ⊎ (j ≢ k)
either_is j k = by (nat_eq j k) refl
  where
    by : (b : Bool) → nat_eq j k ≡ b → (j ≡ k) ⊎ (j ≢ k)
    by true is = inl ((Decides-eqb j k).0 is)
    by false is = inr (λ same. let other : nat_eq j k ≡ true = (Decides-eqb j k).1 same in absurd (cc))

-- one element fewer has all but that
others_of : (xs ys : List ℕ) (k j : ℕ) → Contains (xs ++ k ∷ ys) j → j ≢ k → Contains (xs ++ ys) j
others_of xs ys k j has other = elim (Contains-append_cases xs (k ∷ ys) j has) [
  | inl here ↦ Contains-append_left xs ys j here
  | inr there ↦ elim (cases_of k ys j there) [ inl same ↦ absurd (other (sym same)) | inr later ↦ Contains-append_right xs ys j later ]
]

among_more : (xs ys : List ℕ) (k j : ℕ) → Contains (xs ++ ys) j → Contains (xs ++ k ∷ ys) j
among_more xs ys k j has = elim (Contains-append_cases xs ys j has) [
  | inl here ↦ Contains-append_left xs (k ∷ ys) j here
  | inr there ↦ Contains-append_right xs (k ∷ ys) j (later_of k ys j there)
]

module _ (frames : List ℕ) (calls : List (List ℕ)) (count : ℕ) where
  with_need_found : (f : Found) (k : ℕ) (others : List ℕ) → AreFound frames calls count f (k ∷ others) → (need : Option ℕ)
      → ((n : ℕ) → need ≡ Some n → IsNeed frames calls k n) → AreFound frames calls count (with_need f k need) others
  with_need_found f k others a (Some n) is =
      let below : k < count = a.within k (Contains-append_right f.waiting (k ∷ others) k (first_of k others)) in
      let long : length f.needs ≡ count = a.long in
      let here : known (slice_set f.needs k (Some n)) k ≡ Some n = get_or-set_same f.needs k (Some n) None (omega arith) in
      record {
        long = length-set f.needs k (Some n) ∙ a.long;
        right = λ j m known_is. elim (either_is j k) [
          | inl same ↦ subst (λ (i : ℕ). IsNeed frames calls i m) (sym same)
              (is m (sym here ∙ ap (λ i. known (slice_set f.needs k (Some n)) i) (sym same) ∙ known_is))
          | inr other ↦ a.right j m (sym (get_or-set_other f.needs k j (Some n) None other) ∙ known_is)
        ];
        listed = λ j low unknown. elim (either_is j k) [
          | inl same ↦ let it : known (slice_set f.needs k (Some n)) k ≡ None = ap (λ i. known (slice_set f.needs k (Some n)) i) (sym same)
              ∙ unknown in absurd (cc)
          | inr other ↦ others_of f.waiting others k j (a.listed j low (sym (get_or-set_other f.needs k j (Some n) None other) ∙ unknown)) other
        ];
        within = λ j has. a.within j (among_more f.waiting others k j has);
      }
  with_need_found f k others a None is =
      let same : (f.waiting ++ k ∷ []) ++ others ≡ f.waiting ++ k ∷ others = append_assoc f.waiting (k ∷ []) others in
      record {
        long = a.long;
        right = a.right;
        listed = λ j low unknown. subst (λ (xs : List ℕ). Contains xs j) (sym same) (a.listed j low unknown);
        within = λ j has. a.within j (subst (λ (xs : List ℕ). Contains xs j) same has);
      }

  pub looked_found : (f : Found) (ks : List ℕ) → AreFound frames calls count f ks → AreFound frames calls count (looked_at frames calls f ks) []
  looked_found f [] a = a
  looked_found f (k ∷ ks) a =
      looked_found (with_need f k (need_by frames calls f.needs k)) ks
      (with_need_found f k ks a (need_by frames calls f.needs k) (λ n is. need_is frames calls f.needs (record { each = a.right }) k n is))

  -- where none was found, nothing is changed but that all are waiting
  record IsVain (f r : Found) (ks : List ℕ) : Type 0 where
    needs : r.needs ≡ f.needs
    waiting : r.waiting ≡ f.waiting ++ ks
    stuck : AreStuck frames calls f.needs ks

  record IsLook (f r : Found) (ks : List ℕ) : Type 0 where
    most : length r.waiting ≤ length f.waiting + length ks
    vain : length r.waiting ≡ length f.waiting + length ks → IsVain f r ks

  one_more_look : (f r : Found) (k : ℕ) (ks : List ℕ) (need : Option ℕ) → need_by frames calls f.needs k ≡ need → IsLook (with_need f k need) r ks
      → IsLook f r (k ∷ ks)
  one_more_look f r k ks (Some n) is rest = record {
    most = omega (arith, rest.most);
    vain = λ same. absurd (omega (arith, rest.most));
  }
  one_more_look f r k ks None is rest =
      let long : length (f.waiting ++ k ∷ []) ≡ length f.waiting + 1 = length-append f.waiting (k ∷ []) in
      record {
        most = omega (arith, rest.most);
        vain = λ same.
            let vain : IsVain (with_need f k None) r ks = rest.vain (omega arith) in
            record {
              needs = vain.needs;
              waiting = vain.waiting ∙ append_assoc f.waiting (k ∷ []) ks;
              stuck = λ j has. elim (cases_of k ks j has) [
                | inl here ↦ ap (λ i. need_by frames calls f.needs i) (sym here) ∙ is
                | inr later ↦ vain.stuck j later
              ];
            };
      }

  look_is : (f : Found) (ks : List ℕ) → IsLook f (looked_at frames calls f ks) ks
  look_is f [] = record {
    most = omega arith;
    vain = λ same. record { needs = refl; waiting = sym (append-nil f.waiting); stuck = λ k has. absurd (omega (arith, has.1)) };
  }
  look_is f (k ∷ ks) =
      let need = need_by frames calls f.needs k in
      one_more_look f (looked_at frames calls (with_need f k need) ks) k ks need refl (look_is (with_need f k need) ks)

  -- a round over all that are waiting leaves no more of them waiting
  pub fewer_wait : (needs : List (Option ℕ)) (ks : List ℕ) → length (looked_at frames calls (found needs []) ks).waiting ≤ length ks
  fewer_wait needs ks = omega (arith, (look_is (found needs []) ks).most)

  -- and where it leaves as many, the needs of none of them follow
  pub as_many_wait : (needs : List (Option ℕ)) (ks : List ℕ) → length (looked_at frames calls (found needs []) ks).waiting ≡ length ks
      → let r = looked_at frames calls (found needs []) ks in AreStuck frames calls r.needs r.waiting
  as_many_wait needs ks same =
      let vain : IsVain (found needs []) (looked_at frames calls (found needs []) ks) ks = (look_is (found needs []) ks).vain (omega arith) in
      λ k has. ap (λ (ns : List (Option ℕ)). need_by frames calls ns k) vain.needs
      ∙ vain.stuck k (subst (λ (xs : List ℕ). Contains xs k) vain.waiting has)

  -- ---- at the end

  -- where the need of a function isn't known, that of one that it calls isn't
  pub waits : (f : Found) → AreFound frames calls count f [] → AreStuck frames calls f.needs f.waiting → (k : ℕ) → k < count → known f.needs k ≡ None
      → WaitsFor calls f.needs k
  waits f a stuck k low unknown =
      let waiting : Contains f.waiting k = subst (λ (xs : List ℕ). Contains xs k) (append-nil f.waiting) (a.listed k low unknown) in
      let callee = none_known frames calls f.needs k (stuck k waiting) in
      record { called = callee.0; calls_it = callee.1; unknown = callee.2 }

  module _ (numbers : AreNumbers count calls) (f : Found) (a : AreFound frames calls count f []) (stuck : AreStuck frames calls f.needs f.waiting) where
    none_fits : {k n : ℕ} → FitsAt frames calls k n → k < count → known f.needs k ≡ None → ⊥
    none_fits {k = k} (LeavesAt others le callees) low unknown =
        let callee = waits f a stuck k low unknown in
        none_fits (callees callee.called callee.calls_it) (numbers k callee.called callee.calls_it) callee.unknown

    pub answered : (k : ℕ) → k < count → IsAnswer frames calls k (known f.needs k)
    answered k low = by (known f.needs k) refl
      where
        by : (o : Option ℕ) → known f.needs k ≡ o → IsAnswer frames calls k o
        by (Some n) is = a.right k n is
        by None is = λ n fits. none_fits fits low is

-- ---- the loop of rounds

below_numbers : (n k : ℕ) → k < n → Contains (numbers_below n) k
below_numbers zero k low = absurd (omega arith)
below_numbers (suc n) k low = elim (either_is k n) [
  | inl same ↦ subst (λ (i : ℕ). Contains (numbers_below n ++ n ∷ []) i) (sym same) (Contains-append_right (numbers_below n) (n ∷ []) n (first_of n []))
  | inr other ↦ Contains-append_left (numbers_below n) (n ∷ []) k (below_numbers n k (omega arith))
]

numbers_are_below : (n k : ℕ) → Contains (numbers_below n) k → k < n
numbers_are_below zero k has = absurd (omega (arith, has.1))
numbers_are_below (suc n) k has = elim (Contains-append_cases (numbers_below n) (n ∷ []) k has) [
  | inl here ↦ let low = numbers_are_below n k here in omega arith
  | inr there ↦ elim (cases_of n [] k there) [ inl same ↦ omega (arith, same) | inr none ↦ absurd (omega (arith, none.1)) ]
]

none_known_yet : (count k : ℕ) → known (replicate count None) k ≡ None
none_known_yet zero k = refl
none_known_yet (suc count) zero = refl
none_known_yet (suc count) (suc k) = none_known_yet count k

-- before the first round
pub begun : (frames : List ℕ) (calls : List (List ℕ)) (count : ℕ) (needs : List (Option ℕ)) (waiting : List ℕ) → length calls ≡ count
    → needs ≡ replicate count None → waiting ≡ numbers_below count → AreLooked frames calls false needs waiting
begun frames calls count needs waiting long blank all = record {
  found_so = record {
    long = ap length blank ∙ length-replicate count None ∙ sym long;
    right = λ k n is. let none : known needs k ≡ None = ap (λ (ns : List (Option ℕ)). known ns k) blank ∙ none_known_yet count k in absurd (cc);
    listed = λ k low unknown.
        subst (λ (xs : List ℕ). Contains xs k) (sym (append-nil waiting ∙ all)) (below_numbers count k (omega arith));
    within = λ k has.
        let low = numbers_are_below count k (subst (λ (xs : List ℕ). Contains xs k) (append-nil waiting ∙ all) has) in omega arith;
  };
  stuck = λ is. absurd (cc);
}

-- after one more round
pub one_more_round : (frames : List ℕ) (calls : List (List ℕ)) (needs : List (Option ℕ)) (waiting : List ℕ)
    → AreFound frames calls (length calls) (found needs waiting) [] → (r : Found) → r ≡ looked_at frames calls (found needs []) waiting
    → (is_last : Bool) → is_last ≡ nat_eq (length r.waiting) (length waiting) → AreLooked frames calls is_last r.needs r.waiting
one_more_round frames calls needs waiting a r is is_last last = record {
  found_so = subst (λ (f : Found). AreFound frames calls (length calls) f []) (sym is)
      (looked_found frames calls (length calls) (found needs []) waiting ready);
  stuck = λ so.
      let same : length r.waiting ≡ length waiting = (Decides-eqb (length r.waiting) (length waiting)).0 (sym last ∙ so) in
      subst (λ (f : Found). AreStuck frames calls f.needs f.waiting) (sym is)
      (as_many_wait frames calls (length calls) needs waiting (ap (λ (f : Found). length f.waiting) (sym is) ∙ same));
}
  where
    ready : AreFound frames calls (length calls) (found needs []) waiting
    ready = record {
      long = a.long;
      right = a.right;
      listed = λ k low unknown. subst (λ (xs : List ℕ). Contains xs k) (append-nil waiting) (a.listed k low unknown);
      within = λ k has. a.within k (subst (λ (xs : List ℕ). Contains xs k) (sym (append-nil waiting)) has);
    }

contains_reverse : (xs : List ℕ) (k : ℕ) → Contains xs k → Contains (reverse xs) k
contains_reverse [] k has = has
contains_reverse (x ∷ xs) k has = subst (λ (ys : List ℕ). Contains ys k) (sym (reverse-append (x ∷ []) xs)) (elim (cases_of x xs k has) [
  | inl same ↦ Contains-append_right (reverse xs) (x ∷ []) k (subst (λ (i : ℕ). Contains (x ∷ []) i) same (first_of x []))
  | inr there ↦ Contains-append_left (reverse xs) (x ∷ []) k (contains_reverse xs k there)
])

contains_reversed : (xs : List ℕ) (k : ℕ) → Contains (reverse xs) k → Contains xs k
contains_reversed xs k has = subst (λ (ys : List ℕ). Contains ys k) (reverse-reverse xs) (contains_reverse (reverse xs) k has)

-- the next round goes over them from the end
pub looked_turned : (frames : List ℕ) (calls : List (List ℕ)) (is_last : Bool) (needs : List (Option ℕ)) (waiting turned : List ℕ)
    → turned ≡ reverse waiting → AreLooked frames calls is_last needs waiting → AreLooked frames calls is_last needs turned
looked_turned frames calls is_last needs waiting turned is a =
    subst (λ (ks : List ℕ). AreLooked frames calls is_last needs ks) (sym is)
    (record {
      found_so = record {
        long = a.found_so.long;
        right = a.found_so.right;
        listed = λ k low unknown. back k (contains_reverse waiting k (there k (a.found_so.listed k low unknown)));
        within = λ k has. a.found_so.within k (subst (λ (ks : List ℕ). Contains ks k) (sym (append-nil waiting))
            (contains_reversed waiting k (subst (λ (ks : List ℕ). Contains ks k) (append-nil (reverse waiting)) has)));
      };
      stuck = λ last k has. a.stuck last k (contains_reversed waiting k has);
    })
  where
    there : (k : ℕ) → Contains (waiting ++ []) k → Contains waiting k
    there k = λ has. subst (λ (ks : List ℕ). Contains ks k) (append-nil waiting) has

    back : (k : ℕ) → Contains (reverse waiting) k → Contains (reverse waiting ++ []) k
    back k = λ has. subst (λ (ks : List ℕ). Contains ks k) (sym (append-nil (reverse waiting))) has

-- a round leaves fewer, or is the last
pub round_is_smaller : (frames : List ℕ) (calls : List (List ℕ)) (needs : List (Option ℕ)) (waiting : List ℕ) (r : Found)
    → r ≡ looked_at frames calls (found needs []) waiting
    → length r.waiting + (if nat_eq (length r.waiting) (length waiting) then 0 else 1) < length waiting + 1
round_is_smaller frames calls needs waiting r is = by (nat_eq (length r.waiting) (length waiting)) refl
  where
    fewer : length r.waiting ≤ length waiting
    fewer = subst (λ (f : Found). length f.waiting ≤ length waiting) (sym is) (fewer_wait frames calls 0 needs waiting)

    by : (b : Bool) → nat_eq (length r.waiting) (length waiting) ≡ b → length r.waiting + (if b then 0 else 1) < length waiting + 1
    by true e = let le = fewer in omega arith
    by false e =
        let le = fewer in
        let other : length r.waiting ≢ length waiting =
        λ same. let yes : nat_eq (length r.waiting) (length waiting) ≡ true = (Decides-eqb (length r.waiting) (length waiting)).1 same in absurd (cc) in
        omega arith

-- functions that are waiting are below the count, as they stand in a slice
pub all_within : (count long : ℕ) (xs ys : List ℕ) → ys ≡ xs → long ≡ count → ((k : ℕ) → Contains (xs ++ []) k → k < count) → All (λ k. k < long) ys
all_within count long xs ys same enough below k d low =
    let has : Contains (xs ++ []) (get_or ys k d) =
    subst (λ (zs : List ℕ). Contains zs (get_or ys k d)) (same ∙ sym (append-nil xs)) (Contains-get_or ys k d low) in
    let less = below (get_or ys k d) has in
    omega arith
