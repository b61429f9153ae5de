-- The effects and bounds of heads, one region name after another.
use Rattle.std.proofs.Common.{◌≡◌, ℕ, suc, ◌+◌, ◌<◌, ◌≤◌, Bool, true, false, None, List, [], ◌∷◌, refl, sym, ◌∙◌, ap, subst}
use Rattle.std.proofs.Common.{append-nil, append_assoc, get_or, length, map, take}
use Rattle.std.specs.Prelude.{if◌then◌else◌, ◌++◌}
use Rattle.std.proofs.lemmas.List.{map-append, take_all, take_more}
use Rattle.cyc_types.specs.Regions.{region_of, regions_of}
use Rattle.cyc_types.specs.declared.region.RegionId.{RegionId}
use Rattle.source_typing.specs.Faults.{earliest}
use Rattle.source_typing.specs.Functions.{all_faults, all_of, and_known, levels_but}
use Rattle.source_typing.specs.Regions.{Level, Region, is_among}
use Rattle.source_typing.specs.Verdicts.{Faulty, Of, Unjudged, Verdict}
use Rattle.check_faults.proofs.Earliest.{earliest_of_both, found_sooner}
use Rattle.check_faults.specs.Faults.{faults_of, first_of, sooner_found}
use Rattle.check_faults.specs.Verdicts.{fault_found, short_of, shortened}
use Rattle.check_heads.proofs.Answered.{fault_is}
use Rattle.check_heads.specs.Used.{IsUsed, in_order, level_unless}
use Rattle.check_heads.specs.declared.effect.Used.{Used}
use Rattle.source_typing.specs.Verdicts as rules_of
use Rattle.check_faults.specs.declared.verdict.Verdict as code
use Rattle.check_faults.specs.declared.verdict.Verdict.TheVariants as variant

-- one more level, unless it is a key's
pub one_level : (keys : List Region) (rs new : List RegionId) (n m : ℕ) → m ≡ suc n → regions_of new ≡ regions_of rs ++ level_unless keys n
    → regions_of new ++ levels_but keys n ≡ regions_of rs ++ levels_but keys m
one_level keys rs new n m e is =
    ap (λ qs. qs ++ levels_but keys n) is
    ∙ append_assoc (regions_of rs) (level_unless keys n) (levels_but keys n)
    ∙ ap (λ qs. regions_of rs ++ qs) (by (is_among keys (Level n)))
    ∙ ap (λ k. regions_of rs ++ levels_but keys k) (sym e)
  where
    by : (b : Bool) → (if b then [] else Level n ∷ []) ++ levels_but keys n ≡ (if b then levels_but keys n else Level n ∷ levels_but keys n)
    by true = refl
    by false = refl

-- ---- one phrase more

module _ {A : Type 0} where
  known_first : (v : Verdict A) (vs ws : List A) → and_known v (vs ++ ws) ≡ and_known v vs ++ ws
  known_first (Faulty f fs) vs ws = refl
  known_first Unjudged vs ws = refl
  known_first (Of a) vs ws = refl

  known_last : (vs : List (Verdict A)) (v : Verdict A) → all_of (vs ++ v ∷ []) ≡ all_of vs ++ and_known v []
  known_last [] v = refl
  known_last (w ∷ vs) v = ap (and_known w) (known_last vs v) ∙ known_first w (all_of vs) (and_known v [])

  faults_last : (vs : List (Verdict A)) (v : Verdict A) → all_faults (vs ++ v ∷ []) ≡ all_faults vs ++ rules_of.faults_of v
  faults_last [] v = append-nil (rules_of.faults_of v)
  faults_last (w ∷ vs) v =
      ap (λ fs. rules_of.faults_of w ++ fs) (faults_last vs v) ∙ sym (append_assoc (rules_of.faults_of w) (all_faults vs) (rules_of.faults_of v))

module _ {T A : Type 0} (as_is : T → A) where
  in_order_is : (c : code.Verdict T) (v : Verdict A) → short_of as_is c ≡ shortened v → map as_is (in_order c) ≡ and_known v []
  in_order_is (variant.Of t) (Of a) e = let same : as_is t ≡ a = cc in ap (λ b. b ∷ []) same
  in_order_is (variant.Of t) (Faulty f fs) e = absurd cc
  in_order_is (variant.Of t) Unjudged e = absurd cc
  in_order_is (variant.Wrong x) (Of a) e = absurd cc
  in_order_is (variant.Wrong x) (Faulty f fs) e = refl
  in_order_is (variant.Wrong x) Unjudged e = absurd cc
  in_order_is variant.NotJudged (Of a) e = absurd cc
  in_order_is variant.NotJudged (Faulty f fs) e = absurd cc
  in_order_is variant.NotJudged Unjudged e = refl

  used_more : (vs : List (Verdict A)) (v : Verdict A) (u new : Used T) (c : code.Verdict T) → IsUsed as_is vs u → short_of as_is c ≡ shortened v
      → new.known.items ≡ u.known.items ++ in_order c → new.fault ≡ sooner_found u.fault (fault_found c) → IsUsed as_is (vs ++ v ∷ []) new
  used_more vs v u new c h e known fault = record {
    known = ap (map as_is) known ∙ map-append as_is u.known.items (in_order c)
        ∙ ap (λ ts. ts ++ map as_is (in_order c)) h.known ∙ ap (λ ts. all_of vs ++ ts) (in_order_is c v e) ∙ sym (known_last vs v);
    fault = ap faults_of fault ∙ found_sooner u.fault (fault_found c)
        ∙ ap (λ o. first_of o (faults_of (fault_found c))) h.fault ∙ ap (λ o. first_of (earliest (all_faults vs)) o) (fault_is as_is c v e)
        ∙ sym (earliest_of_both (all_faults vs) (rules_of.faults_of v)) ∙ ap earliest (sym (faults_last vs v));
  }

-- some of them were judged
module _ {X T A : Type 0} (as_is : T → A) (judged : X → Verdict A) (xs : List X) where
  abbrev pub UsedTo : ℕ → Used T → Type 0
  UsedTo i u = IsUsed as_is (map judged (take i xs)) u

  pub used_next : (i : ℕ) (x : X) (u new : Used T) (c : code.Verdict T) → i < length xs → x ≡ get_or xs i x → UsedTo i u
      → short_of as_is c ≡ shortened (judged x) → new.known.items ≡ u.known.items ++ in_order c → new.fault ≡ sooner_found u.fault (fault_found c)
      → UsedTo (i + 1) new
  used_next i x u new c lt is h e known fault =
      let next : map judged (take (i + 1) xs) ≡ map judged (take i xs) ++ judged x ∷ [] =
      ap (map judged) (take_more xs i x lt ∙ ap (λ y. take i xs ++ y ∷ []) (sym is)) ∙ map-append judged (take i xs) (x ∷ []) in
      subst (λ vs. IsUsed as_is vs new) (sym next) (used_more as_is (map judged (take i xs)) (judged x) u new c h e known fault)

  pub used_all : (i : ℕ) (u : Used T) → length xs ≤ i → UsedTo i u → IsUsed as_is (map judged xs) u
  used_all i u le h = subst (λ ys. IsUsed as_is (map judged ys) u) (take_all i xs le) h

pub map_twice : {X Y Z : Type 0} (f : Y → Z) (g : X → Y) (xs : List X) → map (λ x. f (g x)) xs ≡ map f (map g xs)
map_twice f g [] = refl
map_twice f g (x ∷ xs) = ap (λ zs. f (g x) ∷ zs) (map_twice f g xs)

-- ---- effects

all_known : (rs : List Region) → all_of (map (λ r. Of r) rs) ≡ rs
all_known [] = refl
all_known (r ∷ rs) = ap (λ qs. r ∷ qs) (all_known rs)

none_wrong : (rs : List Region) → all_faults (map (λ r. Of r) rs) ≡ []
none_wrong [] = refl
none_wrong (r ∷ rs) = none_wrong rs

-- all region variables but those of keys are known
pub levels_used : (keys : List Region) (n : ℕ) (u : Used RegionId) → regions_of u.known.items ≡ levels_but keys n → u.fault ≡ None
    → IsUsed region_of (map (λ r. Of r) (levels_but keys n)) u
levels_used keys n u e f = record {
  known = e ∙ sym (all_known (levels_but keys n));
  fault = ap faults_of f ∙ ap earliest (sym (none_wrong (levels_but keys n)));
}

pub levels_known : (keys : List Region) (n : ℕ) → all_of (map (λ r. Of r) (levels_but keys n)) ≡ levels_but keys n
levels_known keys n = all_known (levels_but keys n)
