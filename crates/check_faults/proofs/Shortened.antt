-- What is answered of a phrase by what is answered of its parts.
use Rattle.std.specs.Prelude.{unwrap_or}
use Rattle.std.proofs.Common.{◌≡◌, Option, Some, None, List, [], ◌∷◌, refl, sym, ◌∙◌, ap}
use Rattle.source_typing.specs.Faults.{Fault, earliest, sooner_of}
use Rattle.source_typing.specs.Verdicts.{Faulty, Of, Unjudged, Verdict, after, both, unless_faulty}
use Rattle.check_faults.specs.Faults.{fault_of, faults_of, first_of, sooner_found}
use Rattle.check_faults.specs.declared.fault.Fault as found
use Rattle.check_faults.specs.Verdicts.{
  Is,
  NotJudged,
  Short,
  Wrong,
  fault_found,
  fault_in,
  paired,
  short_after,
  short_both,
  short_of,
  short_wrong,
  shortened,
  wrong_if,
}
use Rattle.check_faults.specs.declared.verdict.Verdict as code
use Rattle.check_faults.specs.declared.verdict.Verdict.TheVariants as variant
use Rattle.check_faults.proofs.Earliest.{earliest_of_both, found_sooner}

pub shortened_after : {A B : Type 0} (v : Verdict A) (rule : A → Verdict B) → shortened (after v rule) ≡ short_after (shortened v) (λ a. shortened (rule a))
shortened_after (Faulty f fs) rule = refl
shortened_after Unjudged rule = refl
shortened_after (Of a) rule = refl

-- the fault that is answered of two phrases with a fault
both_wrong : (f g : Fault) (a b : Option Fault)
    → Some (unwrap_or (first_of (sooner_of f a) (sooner_of g b)) f) ≡ first_of (Some (unwrap_or (sooner_of f a) f)) (Some (unwrap_or (sooner_of g b) g))
both_wrong f g None None = refl
both_wrong f g None (Some y) = refl
both_wrong f g (Some x) None = refl
both_wrong f g (Some x) (Some y) = refl

pub shortened_both : {A B C : Type 0} (v : Verdict A) (w : Verdict B) (rule : A → B → Verdict C)
    → shortened (both v w rule) ≡ short_both (shortened v) (shortened w) (λ a b. shortened (rule a b))
shortened_both (Faulty f fs) (Faulty g gs) rule =
    ap (λ o. Wrong (unwrap_or o f)) (earliest_of_both (f ∷ fs) (g ∷ gs))
    ∙ ap (λ o. short_wrong o) (both_wrong f g (earliest fs) (earliest gs))
shortened_both (Faulty f fs) Unjudged rule = refl
shortened_both (Faulty f fs) (Of b) rule = refl
shortened_both Unjudged (Faulty g gs) rule = refl
shortened_both Unjudged Unjudged rule = refl
shortened_both Unjudged (Of b) rule = refl
shortened_both (Of a) (Faulty g gs) rule = refl
shortened_both (Of a) Unjudged rule = refl
shortened_both (Of a) (Of b) rule = refl

-- these faults, or else what the rule says
pub shortened_unless : {A : Type 0} (fs : List Fault) (v : Verdict A) → earliest fs ≡ None → shortened (unless_faulty fs v) ≡ shortened v
shortened_unless [] v e = refl
shortened_unless (f ∷ fs) v e = absurd (by (earliest fs) e)
  where
    by : (o : Option Fault) → sooner_of f o ≡ None → ⊥
    by None e = absurd cc
    by (Some g) e = absurd cc

pub shortened_faulty : {A : Type 0} (fs : List Fault) (v : Verdict A) (f : Fault) → earliest fs ≡ Some f → shortened (unless_faulty fs v) ≡ Wrong f
shortened_faulty [] v f e = absurd cc
shortened_faulty (g ∷ fs) v f e = ap (λ o. Wrong (unwrap_or o g)) e

-- ---- two parts in code

pub fault_same : {T A : Type 0} (as_is : T → A) (v : code.Verdict T) → faults_of (fault_found v) ≡ fault_in (short_of as_is v)
fault_same as_is (variant.Wrong f) = refl
fault_same as_is variant.NotJudged = refl
fault_same as_is (variant.Of v) = refl

pub wrong_same : {T A : Type 0} (as_is : T → A) (o : Option found.Fault) → short_of as_is (wrong_if o) ≡ short_wrong (faults_of o)
wrong_same as_is None = refl
wrong_same as_is (Some f) = refl

abbrev pub as_pair : {A B : Type 0} → A → B → Short (A × B)
as_pair a b = Is (a, b)

module _ {T U A B : Type 0} (f : T → A) (g : U → B) where
  abbrev pub both_as : T × U → A × B
  both_as p = (f p.0, g p.1)

  faults_same : (v : code.Verdict T) (w : code.Verdict U)
      → faults_of (sooner_found (fault_found v) (fault_found w)) ≡ first_of (fault_in (short_of f v)) (fault_in (short_of g w))
  faults_same v w =
      found_sooner (fault_found v) (fault_found w)
      ∙ ap (λ o. first_of o (faults_of (fault_found w))) (fault_same f v) ∙ ap (λ o. first_of (fault_in (short_of f v)) o) (fault_same g w)

  not_both : (v : code.Verdict T) (w : code.Verdict U) → short_of both_as (wrong_if (sooner_found (fault_found v) (fault_found w)))
      ≡ short_wrong (first_of (fault_in (short_of f v)) (fault_in (short_of g w)))
  not_both v w = wrong_same both_as (sooner_found (fault_found v) (fault_found w)) ∙ ap (λ o. short_wrong o) (faults_same v w)

  pub paired_same : (v : code.Verdict T) (w : code.Verdict U) → short_of both_as (paired v w) ≡ short_both (short_of f v) (short_of g w) as_pair
  paired_same (variant.Of v) (variant.Of w) = refl
  paired_same (variant.Of v) (variant.Wrong x) = not_both (variant.Of v) (variant.Wrong x)
  paired_same (variant.Of v) variant.NotJudged = not_both (variant.Of v) variant.NotJudged
  paired_same (variant.Wrong x) (variant.Of w) = not_both (variant.Wrong x) (variant.Of w)
  paired_same (variant.Wrong x) (variant.Wrong y) = not_both (variant.Wrong x) (variant.Wrong y)
  paired_same (variant.Wrong x) variant.NotJudged = not_both (variant.Wrong x) variant.NotJudged
  paired_same variant.NotJudged (variant.Of w) = not_both variant.NotJudged (variant.Of w)
  paired_same variant.NotJudged (variant.Wrong y) = not_both variant.NotJudged (variant.Wrong y)
  paired_same variant.NotJudged variant.NotJudged = not_both variant.NotJudged variant.NotJudged

-- what is answered of two parts, and then of both
pub short_then : {A B C : Type 0} (v : Short A) (w : Short B) (rule : A → B → Short C)
    → short_both v w rule ≡ short_after (short_both v w as_pair) (λ p. rule p.0 p.1)
short_then (Is a) (Is b) rule = refl
short_then (Is a) (Wrong g) rule = refl
short_then (Is a) NotJudged rule = refl
short_then (Wrong f) (Is b) rule = refl
short_then (Wrong f) (Wrong g) rule = refl
short_then (Wrong f) NotJudged rule = refl
short_then NotJudged (Is b) rule = refl
short_then NotJudged (Wrong g) rule = refl
short_then NotJudged NotJudged rule = refl

-- ---- by what is answered in code

-- a phrase of one part
module _ {T A B : Type 0} (f : T → A) (v : code.Verdict T) (V : Verdict A) (rule : A → Verdict B) (e : short_of f v ≡ shortened V) where
  after_is : shortened (after V rule) ≡ short_after (short_of f v) (λ a. shortened (rule a))
  after_is = shortened_after V rule ∙ ap (λ s. short_after s (λ a. shortened (rule a))) (sym e)

  abbrev when : code.Verdict T → Short B
  when w = short_after (short_of f w) (λ a. shortened (rule a))

  pub after_of : (t : T) → v ≡ variant.Of t → shortened (after V rule) ≡ shortened (rule (f t))
  after_of t h = after_is ∙ ap (λ w. when w) h

  pub after_wrong : (x : found.Fault) → v ≡ variant.Wrong x → shortened (after V rule) ≡ Wrong (fault_of x)
  after_wrong x h = after_is ∙ ap (λ w. when w) h

  pub after_unjudged : v ≡ variant.NotJudged → shortened (after V rule) ≡ NotJudged
  after_unjudged h = after_is ∙ ap (λ w. when w) h

-- two parts, and what is answered of both
module _ {T U A B C : Type 0} (f : T → A) (g : U → B) (v : code.Verdict T) (w : code.Verdict U) (rule : A → B → Short C) where
  abbrev when_both : code.Verdict (T × U) → Short C
  when_both p = short_after (short_of (both_as f g) p) (λ q. rule q.0 q.1)

  pair_is : short_both (short_of f v) (short_of g w) rule ≡ when_both (paired v w)
  pair_is = short_then (short_of f v) (short_of g w) rule ∙ ap (λ s. short_after s (λ q. rule q.0 q.1)) (sym (paired_same f g v w))

  pub pair_known : (t : T) (u : U) → paired v w ≡ variant.Of (t, u) → short_both (short_of f v) (short_of g w) rule ≡ rule (f t) (g u)
  pair_known t u k = pair_is ∙ ap when_both k

  pub pair_wrong : (x : found.Fault) → paired v w ≡ variant.Wrong x → short_both (short_of f v) (short_of g w) rule ≡ Wrong (fault_of x)
  pair_wrong x k = pair_is ∙ ap when_both k

  pub pair_not_judged : paired v w ≡ variant.NotJudged → short_both (short_of f v) (short_of g w) rule ≡ NotJudged
  pair_not_judged k = pair_is ∙ ap when_both k

-- a phrase of two parts
module _ {T U A B C : Type 0} (f : T → A) (g : U → B) (v : code.Verdict T) (w : code.Verdict U) (V : Verdict A) (W : Verdict B)
    (rule : A → B → Verdict C) (e : short_of f v ≡ shortened V) (h : short_of g w ≡ shortened W) where
  abbrev on_both : A → B → Short C
  on_both a b = shortened (rule a b)

  both_is : shortened (both V W rule) ≡ short_both (short_of f v) (short_of g w) on_both
  both_is =
      shortened_both V W rule ∙ ap (λ s. short_both s (shortened W) on_both) (sym e) ∙ ap (λ s. short_both (short_of f v) s on_both) (sym h)

  pub both_of : (t : T) (u : U) → paired v w ≡ variant.Of (t, u) → shortened (both V W rule) ≡ shortened (rule (f t) (g u))
  both_of t u k = both_is ∙ pair_known f g v w on_both t u k

  pub both_wrong_is : (x : found.Fault) → paired v w ≡ variant.Wrong x → shortened (both V W rule) ≡ Wrong (fault_of x)
  both_wrong_is x k = both_is ∙ pair_wrong f g v w on_both x k

  pub both_unjudged : paired v w ≡ variant.NotJudged → shortened (both V W rule) ≡ NotJudged
  both_unjudged k = both_is ∙ pair_not_judged f g v w on_both k
