-- Needs that are found from those of the functions that are called.
use Rattle.std.proofs.Common.{◌≡◌, ◌≤◌, ◌+◌, ◌∙◌, ℕ, zero, suc, Option, Some, None, List, [], ◌∷◌, ◌⊎◌, inl, inr, refl, sym, ap, subst, arith}
use Rattle.std.specs.Prelude.{max, min, slice_index, option_and_then, option_map}
use Rattle.std.specs.List.{Contains}
use Rattle.std.proofs.lemmas.List.Elements.{Contains-append_cases, Contains-append_right}
use Rattle.stack_needs.specs.Graph.{FitsAt, LeavesAt, IsNeed, called_by, known, greatest, most_bytes, need_by}

-- ---- the greatest of several needs

-- all of these functions' needs are known, and none is above a number
record AreWithin (needs : List (Option ℕ)) (gs : List ℕ) (m : ℕ) : Type 0 where
  all : (g : ℕ) → Contains gs g → (x : ℕ) × (known needs g ≡ Some x) × (x ≤ m)

-- a number is above another one, and above each that is known of these functions' needs
record IsAbove (needs : List (Option ℕ)) (gs : List ℕ) (n o : ℕ) : Type 0 where
  own : n ≤ o
  others : (g x : ℕ) → Contains gs g → known needs g ≡ Some x → x ≤ o

-- where the greatest is known, it is
record IsGreatest (needs : List (Option ℕ)) (gs : List ℕ) (n m : ℕ) : Type 0 where
  own : n ≤ m
  within : AreWithin needs gs m
  least : (o : ℕ) → IsAbove needs gs n o → m ≤ o

pub first_of : {X : Type 0} (g : X) (gs : List X) → Contains (g ∷ gs) g
first_of g gs = (0, omega arith, refl)

pub later_of : {X : Type 0} (g : X) (gs : List X) (h : X) → Contains gs h → Contains (g ∷ gs) h
later_of g gs h has = Contains-append_right (g ∷ []) gs h has

-- an element of a list is the first one or one of the others
pub cases_of : {X : Type 0} (g : X) (gs : List X) (h : X) → Contains (g ∷ gs) h → (g ≡ h) ⊎ Contains gs h
cases_of g gs h has = elim (Contains-append_cases (g ∷ []) gs h has) [ inl here ↦ inl (only here) | inr there ↦ inr there ]
  where
    only : Contains (g ∷ []) h → g ≡ h
    only (zero, below, is) = is
    only (suc k, below, is) = absurd (omega arith)

greatest_is : (needs : List (Option ℕ)) (gs : List ℕ) (n m : ℕ) → greatest needs gs n ≡ Some m → IsGreatest needs gs n m
greatest_is needs [] n m is =
    let same : n ≡ m = cc in
    record {
      own = omega arith;
      within = record { all = λ g has. absurd (omega (arith, has.1)) };
      least = λ o above. omega (arith, above.own);
    }
greatest_is needs (g ∷ gs) n m is = by (known needs g) refl (λ need. greatest_is needs gs (max n need) m) is
  where
    by : (o : Option ℕ) → known needs g ≡ o → ((need : ℕ) → greatest needs gs (max n need) ≡ Some m → IsGreatest needs gs (max n need) m)
        → option_and_then (λ need. greatest needs gs (max n need)) o ≡ Some m → IsGreatest needs (g ∷ gs) n m
    by None known_is of_rest e = absurd (cc)
    by (Some need) known_is of_rest e =
        let rest : IsGreatest needs gs (max n need) m = of_rest need e in
        record {
          own = omega (arith, rest.own);
          within = record {
            all = λ h has. elim (cases_of g gs h has) [
              | inl same ↦ (need, ap (λ k. known needs k) (sym same) ∙ known_is, omega (arith, rest.own))
              | inr there ↦ rest.within.all h there
            ];
          };
          least = λ o above. rest.least o (record {
            own = omega (arith, above.own, above.others g need (first_of g gs) known_is);
            others = λ h x has is_x. above.others h x (later_of g gs h has) is_x;
          });
        }

-- where it isn't, the need of one of them isn't
unknown_among : (needs : List (Option ℕ)) (gs : List ℕ) (n : ℕ) → greatest needs gs n ≡ None → (g : ℕ) × Contains gs g × (known needs g ≡ None)
unknown_among needs [] n is = absurd (cc)
unknown_among needs (g ∷ gs) n is = by (known needs g) refl (λ need. unknown_among needs gs (max n need)) is
  where
    by : (o : Option ℕ) → known needs g ≡ o
        → ((need : ℕ) → greatest needs gs (max n need) ≡ None → (h : ℕ) × Contains gs h × (known needs h ≡ None))
        → option_and_then (λ need. greatest needs gs (max n need)) o ≡ None → (h : ℕ) × Contains (g ∷ gs) h × (known needs h ≡ None)
    by None known_is of_rest e = (g, first_of g gs, known_is)
    by (Some need) known_is of_rest e =
        let rest = of_rest need e in (rest.0, later_of g gs rest.0 rest.1, rest.2)

-- ---- the need of one function

module _ (frames : List ℕ) (calls : List (List ℕ)) where
  pub fits_more : {k n m : ℕ} → FitsAt frames calls k n → n ≤ m → FitsAt frames calls k m
  fits_more (LeavesAt others le callees) more = LeavesAt others (omega arith) callees

  -- what is known is right
  pub record AreRight (needs : List (Option ℕ)) : Type 0 where
    pub each : (k n : ℕ) → known needs k ≡ Some n → IsNeed frames calls k n

  -- a number that each of these functions fits
  common : (gs : List ℕ) → ((g : ℕ) → Contains gs g → (m : ℕ) × FitsAt frames calls g m)
      → (m : ℕ) × ((g : ℕ) → Contains gs g → FitsAt frames calls g m)
  common [] each = (0, λ g has. absurd (omega (arith, has.1)))
  common (g ∷ gs) each =
      let first = each g (first_of g gs) in
      let rest = common gs (λ h has. each h (later_of g gs h has)) in (
        max first.0 rest.0,
        λ h has. elim (cases_of g gs h has) [
          | inl same ↦ subst (λ (i : ℕ). FitsAt frames calls i (max first.0 rest.0)) same (fits_more first.1 (omega arith))
          | inr there ↦ fits_more (rest.1 h there) (omega arith)
        ],
      )

  least_by : (needs : List (Option ℕ)) → AreRight needs → {k m : ℕ} (n : ℕ) → IsGreatest needs (called_by calls k) 0 n → FitsAt frames calls k m
      → slice_index frames k + n ≤ m
  least_by needs right {k = k} n is (LeavesAt others le callees) =
      let above : n ≤ others = is.least others (record {
        own = omega arith;
        others = λ g x has known_is. (right.each g x known_is).least others (callees g has);
      }) in
      omega arith

  pub need_is : (needs : List (Option ℕ)) → AreRight needs → (k n : ℕ) → need_by frames calls needs k ≡ Some n → IsNeed frames calls k n
  need_is needs right k n = by (greatest needs (called_by calls k) 0) refl
    where
      by : (o : Option ℕ) → greatest needs (called_by calls k) 0 ≡ o → option_map (λ m. min (slice_index frames k + m) most_bytes) o ≡ Some n
          → IsNeed frames calls k n
      by None is e = absurd (cc)
      by (Some m) is e =
          let top : IsGreatest needs (called_by calls k) 0 m = greatest_is needs (called_by calls k) 0 m is in
          let same : min (slice_index frames k + m) most_bytes ≡ n = cc in
          record {
            fits = λ few. LeavesAt m (omega arith) (λ g has.
                let its = top.within.all g has in fits_more ((right.each g its.0 its.1).fits (omega (arith, its.2))) its.2);
            least = λ o fits. let le = least_by needs right m top fits in omega arith;
            some =
                let all = common (called_by calls k) (λ g has. let its = top.within.all g has in (right.each g its.0 its.1).some) in
                (slice_index frames k + all.0, LeavesAt all.0 (omega arith) all.1);
          }

  pub none_known : (needs : List (Option ℕ)) (k : ℕ) → need_by frames calls needs k ≡ None
      → (g : ℕ) × Contains (called_by calls k) g × (known needs g ≡ None)
  none_known needs k = by (greatest needs (called_by calls k) 0) refl
    where
      by : (o : Option ℕ) → greatest needs (called_by calls k) 0 ≡ o → option_map (λ m. min (slice_index frames k + m) most_bytes) o ≡ None
          → (g : ℕ) × Contains (called_by calls k) g × (known needs g ≡ None)
      by None is e = unknown_among needs (called_by calls k) 0 is
      by (Some m) is e = absurd (cc)
