-- What region variables stand for, where the `rnew` around fixes those that no argument fixes.
use Rattle.std.specs.List.{list_all}
use Rattle.std.specs.Prelude.{is_some, option_map, replicate}
use Rattle.std.proofs.Common.{◌≡◌, ◌≤◌, ℕ, zero, suc, Bool, true, false, Option, Some, None}
use Rattle.std.proofs.Common.{List, [], ◌∷◌, refl, sym, ◌∙◌, ap, arith, length}
use Rattle.cyc_types.specs.Regions.{region_of}
use Rattle.source_typing.specs.Calls.{if_all_known}
use Rattle.source_typing.specs.Faults.{Fault, fault, region_rule}
use Rattle.source_typing.specs.Fixing.{Fit, first_fit, fixed_from, fixed_known, fixed_one, more}
use Rattle.source_typing.specs.Regions.{Region, TheHeap}
use Rattle.source_typing.specs.Scope.{Enclosing, InRegion, InUnique, NotKnown}
use Rattle.source_typing.specs.Verdicts.{Of, Unjudged, Verdict, both, known, unless_faulty}
use Rattle.check_calls.specs.Fixings.{
  Fixing,
  all_stand_for,
  first_fixing,
  fixed_with,
  fixing,
  fixing_faults,
  fixings_of,
  found_of,
  last_fixing,
  noted,
  of_fit,
  or_else,
  regions_by,
  settled,
  stands_for,
  which_are_known,
}
use Rattle.check_calls.specs.declared.fixing.Fixed.{Fixed}
use Rattle.check_calls.specs.declared.fixing.Fixed.TheVariants as region
use Rattle.check_calls.specs.declared.fixing.Fixing as code

-- ---- one variable after another is settled

pub settled_by_none : (os : List (Option Fixing)) → settled None os ≡ os
settled_by_none [] = refl
settled_by_none (None ∷ os) = ap (λ xs. None ∷ xs) (settled_by_none os)
settled_by_none (Some f ∷ os) = ap (λ xs. Some f ∷ xs) (settled_by_none os)

module _ (last : Fixing) where
  -- those from one on
  abbrev pub settled_from : ℕ → List (Option Fixing) → List (Option Fixing)
  settled_from zero os = settled (Some last) os
  settled_from (suc i) [] = []
  settled_from (suc i) (o ∷ os) = o ∷ settled_from i os

  pub next_settled : (i : ℕ) (os : List (Option Fixing)) → settled_from (suc i) (noted os i last) ≡ settled_from i os
  next_settled zero [] = refl
  next_settled (suc i) [] = refl
  next_settled zero (None ∷ os) = refl
  next_settled zero (Some f ∷ os) = refl
  next_settled (suc i) (None ∷ os) = ap (λ xs. None ∷ xs) (next_settled i os)
  next_settled (suc i) (Some f ∷ os) = ap (λ xs. Some f ∷ xs) (next_settled i os)

  none_settled : (i : ℕ) (os : List (Option Fixing)) → length os ≤ i → settled_from i os ≡ os
  none_settled zero [] h = refl
  none_settled (suc i) [] h = refl
  none_settled zero (o ∷ os) h = absurd (omega (arith, h))
  none_settled (suc i) (o ∷ os) h = ap (λ xs. o ∷ xs) (none_settled i os (omega (arith, h)))

  same_length : (i : ℕ) (os : List (Option Fixing)) → length (settled_from i os) ≡ length os
  same_length zero [] = refl
  same_length (suc i) [] = refl
  same_length zero (o ∷ os) = ap suc (same_length zero os)
  same_length (suc i) (o ∷ os) = ap suc (same_length i os)

  pub all_settled : (i : ℕ) (os before : List (Option Fixing)) → length before ≤ i → settled_from i os ≡ settled_from 0 before
      → os ≡ settled (Some last) before
  all_settled i os before h e =
      let same : length os ≡ length before = sym (same_length i os) ∙ ap length e ∙ same_length 0 before in
      sym (none_settled i os (omega (arith, h, same))) ∙ e

-- ---- what the variables stand for

one_is : (h : Enclosing) (at : ℕ) (o : Option Fit) → fixed_one h at o ≡ stands_for (or_else (option_map of_fit o) (last_fixing h at))
one_is (InRegion r) at None = refl
one_is InUnique at None = refl
one_is NotKnown at None = refl
one_is (InRegion r) at (Some f) = refl
one_is InUnique at (Some f) = refl
one_is NotKnown at (Some f) = refl

module _ (h : Enclosing) (at : ℕ) (fs : List Fit) where
  pub fixed_is : (k n : ℕ) → fixed_from h at fs k n ≡ all_stand_for (settled (last_fixing h at) (fixed_with fs k (replicate n None)))
  fixed_is k zero = refl
  fixed_is k (suc n) =
      ap (λ v. both v (fixed_from h at fs (suc k) n) more) (one_is h at (first_fit fs k))
      ∙ ap (λ v. both (stands_for (or_else (first_fixing fs k) (last_fixing h at))) v more) (fixed_is (suc k) n)

  pub known_is : (k n : ℕ) → fixed_known h at fs k n ≡ which_are_known (settled (last_fixing h at) (fixed_with fs k (replicate n None)))
  known_is k zero = refl
  known_is k (suc n) =
      ap (λ v. known v ∷ fixed_known h at fs (suc k) n) (one_is h at (first_fit fs k))
      ∙ ap (λ os. known (stands_for (or_else (first_fixing fs k) (last_fixing h at))) ∷ os) (known_is (suc k) n)

then_more : (r : Region) (gs : List Fault) (all : Bool) (rs : List Region)
    → both (Of r) (unless_faulty gs (if_all_known all rs)) more ≡ unless_faulty gs (if_all_known all (r ∷ rs))
then_more r [] true rs = refl
then_more r [] false rs = refl
then_more r (g ∷ gs) all rs = refl

unknown_more : (gs : List Fault) (all : Bool) (rs : List Region) → both Unjudged (unless_faulty gs (if_all_known all rs)) more ≡ unless_faulty gs Unjudged
unknown_more [] true rs = refl
unknown_more [] false rs = refl
unknown_more (g ∷ gs) all rs = refl

faulty_more : (f : Fault) (gs : List Fault) (all : Bool) (rs : List Region) (V : Verdict (List Region)) (r : Region)
    → both (unless_faulty (f ∷ []) (Of r)) (unless_faulty gs (if_all_known all rs)) more ≡ unless_faulty (f ∷ gs) V
faulty_more f [] true rs V r = refl
faulty_more f [] false rs V r = refl
faulty_more f (g ∷ gs) all rs V r = refl

-- whether something fixes each of them
abbrev pub are_settled : List (Option code.Fixing) → Bool
are_settled fs = list_all (λ o. is_some o) fs

pub all_stand : (fs : List (Option code.Fixing))
    → all_stand_for (fixings_of fs) ≡ unless_faulty (fixing_faults (fixings_of fs)) (if_all_known (are_settled fs) (regions_by (fixings_of fs)))
all_stand [] = refl
all_stand (None ∷ fs) =
    ap (λ v. both Unjudged v more) (all_stand fs) ∙ unknown_more (fixing_faults (fixings_of fs)) (are_settled fs) (regions_by (fixings_of fs))
all_stand (Some f ∷ fs) = by (all_stand fs) f.is
  where
    by : all_stand_for (fixings_of fs) ≡ unless_faulty (fixing_faults (fixings_of fs)) (if_all_known (are_settled fs) (regions_by (fixings_of fs)))
        → (is : Fixed) → both (stands_for (Some (fixing (found_of is) f.at))) (all_stand_for (fixings_of fs)) more
        ≡ unless_faulty (fixing_faults (Some (fixing (found_of is) f.at) ∷ fixings_of fs))
        (if_all_known (are_settled fs) (regions_by (Some (fixing (found_of is) f.at) ∷ fixings_of fs)))
    by h (region.Is r) =
        ap (λ v. both (Of (region_of r)) v more) h ∙ then_more (region_of r) (fixing_faults (fixings_of fs)) (are_settled fs) (regions_by (fixings_of fs))
    by h region.Unique =
        ap (λ v. both (stands_for (Some (fixing (found_of region.Unique) f.at))) v more) h
        ∙ faulty_more (fault region_rule f.at) (fixing_faults (fixings_of fs)) (are_settled fs) (regions_by (fixings_of fs))
        (if_all_known (are_settled fs) (TheHeap ∷ regions_by (fixings_of fs))) TheHeap
