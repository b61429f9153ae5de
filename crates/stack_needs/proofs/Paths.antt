-- Paths of calls.
use Rattle.std.proofs.Common.{◌≡◌, ◌<◌, ◌∙◌, ℕ, zero, suc, Bool, true, false, Option, None, List, [], ◌∷◌, ◌++◌, inl, inr, length, get_or, refl, sym, ap, subst}
use Rattle.std.proofs.Common.{arith}
use Rattle.std.specs.Prelude.{Vec, replicate, slice_index_or, slice_set, if◌then◌else◌}
use Rattle.std.specs.List.{Contains, sum_by}
use Rattle.std.proofs.lemmas.List.{get_or-map, get_or-set_other, get_or_default, length-set, length-replicate}
use Rattle.std.proofs.lemmas.List.Sums.{sum_by-set}
use Rattle.std.proofs.lemmas.List.Elements.{Contains-append_cases, Contains-append_left, Contains-append_right}
use Rattle.stack_needs.specs.Graph.{ArePath, IsOnPath, IsRecursion, called_by, known, rows_of}
use Rattle.stack_needs.proofs.Looking.{either_is}
use Rattle.stack_needs.proofs.Needs.{cases_of, first_of}

-- a path goes on by one call more
path_more : (calls : List (List ℕ)) (xs : List ℕ) (a b : ℕ) → ArePath calls (xs ++ a ∷ []) → Contains (called_by calls a) b
    → ArePath calls ((xs ++ a ∷ []) ++ b ∷ [])
path_more calls [] a b h has = (has, tt)
path_more calls (x ∷ []) a b h has = (h.0, (has, tt))
path_more calls (x ∷ y ∷ xs) a b h has = (h.0, path_more calls (y ∷ xs) a b h.1 has)

none_seen : (count k : ℕ) → slice_index_or (replicate count false) k false ≡ false
none_seen zero k = refl
none_seen (suc count) zero = refl
none_seen (suc count) (suc k) = none_seen count k

pub begun_path : (calls : List (List ℕ)) (needs : List (Option ℕ)) (count from : ℕ) (path : List ℕ) (seen : List Bool) → length calls ≡ count → from < count
    → known needs from ≡ None → path ≡ [] → seen ≡ replicate count false → IsOnPath calls needs from from path seen
begun_path calls needs count from path seen long low unknown none blank = record {
  long = ap (λ (bs : List Bool). length bs) blank ∙ length-replicate count false ∙ sym long;
  below = omega arith;
  unknown = unknown;
  calls_next = subst (λ (xs : List ℕ). ArePath calls (xs ++ from ∷ [])) (sym none) tt;
  listed = λ k is.
      let no : slice_index_or seen k false ≡ false = ap (λ (bs : List Bool). slice_index_or bs k false) blank ∙ none_seen count k in absurd (cc);
  begins = Contains-append_right path (from ∷ []) from (first_of from []);
}

pub one_further : (calls : List (List ℕ)) (needs : List (Option ℕ)) (from at : ℕ) (path : List ℕ) (seen : List Bool)
    → IsOnPath calls needs from at path seen → (g : ℕ) → Contains (called_by calls at) g → known needs g ≡ None → g < length calls
    → IsOnPath calls needs from g (path ++ at ∷ []) (slice_set seen at true)
one_further calls needs from at path seen on g has unknown low = record {
  long = length-set seen at true ∙ on.long;
  below = low;
  unknown = unknown;
  calls_next = path_more calls path at g on.calls_next has;
  listed = λ k is. elim (either_is k at) [
    | inl same ↦ subst (λ (i : ℕ). Contains (path ++ at ∷ []) i) (sym same) (Contains-append_right path (at ∷ []) at (first_of at []))
    | inr other ↦ Contains-append_left path (at ∷ []) k (on.listed k (sym (get_or-set_other seen at k true false other) ∙ is))
  ];
  begins = Contains-append_left (path ++ at ∷ []) (g ∷ []) from on.begins;
}

-- how many aren't seen yet
pub unseen : Bool → ℕ
unseen b = if b then 0 else 1

pub fewer_unseen : (seen : List Bool) (at : ℕ) → at < length seen → slice_index_or seen at false ≡ false
    → sum_by unseen (slice_set seen at true) < sum_by unseen seen
unfolding unseen
fewer_unseen seen at low not_yet =
    let sums = sum_by-set unseen seen at true false low in
    let here : unseen (get_or seen at false) ≡ 1 = ap unseen not_yet in
    omega arith

pub closed : (calls : List (List ℕ)) (needs : List (Option ℕ)) (from at : ℕ) (path : List ℕ) (seen : List Bool)
    → IsOnPath calls needs from at path seen → slice_index_or seen at false ≡ true → IsRecursion calls from path at
closed calls needs from at path seen on is =
    let there : Contains path at = on.listed at is in
    record {
      first = elim (Contains-append_cases path (at ∷ []) from on.begins) [
        | inl here ↦ here
        | inr last ↦ elim (cases_of at [] from last) [
          | inl same ↦ subst (λ (i : ℕ). Contains path i) same there
          | inr none ↦ absurd (omega (arith, none.1))
        ]
      ];
      calls_next = on.calls_next;
      closes = there;
    }

-- ---- as they stand in code

-- an element by which its own place is read
pub bit_at : (seen : List Bool) (at : ℕ) (b c : Bool) → at < length seen → b ≡ get_or seen at b → b ≡ c → slice_index_or seen at false ≡ c
bit_at seen at b c low is same = get_or_default seen at false b low ∙ sym is ∙ same

pub row_at : {Z : Type 0} (rows : List (Vec ℕ Z)) (k : ℕ) (r : Vec ℕ Z) → k < length rows → r ≡ get_or rows k r → called_by (rows_of rows) k ≡ r.items
row_at rows k r low is = get_or-map (λ v. v.items) rows k r [] low ∙ ap (λ v. v.items) (sym is)
