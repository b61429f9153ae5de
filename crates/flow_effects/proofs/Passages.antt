-- Passages by what is done to each local.
use Rattle.std.proofs.Common.{Bool, None, Option, Some, [], ap, arith, false, length, nat_eq, nat_lt, refl, suc, sym, true, zero, ℕ, ◌+◌, ◌∙◌, ◌∷◌, ◌≡◌}
use Rattle.std.proofs.Common.{if◌then◌else◌}
use Rattle.source_typing.specs.States.{Plain, State}
use Rattle.check_faults.specs.Faults.{sooner_found}
use Rattle.check_faults.specs.declared.fault.Fault.{Fault}
use Rattle.flow_summaries.proofs.Sooner.{none_later}
use Rattle.flow_summaries.specs.Effects.{Effect, Holds, Keeps, Loses, MayLose, below, met_effect, then_effect, with_number}
use Rattle.flow_summaries.specs.Exits.{lent_from}
use Rattle.flow_summaries.specs.Passages.{Caused, caused_after, caused_by, caused_in, in_turn_or_not, no_cause, repeated, used}
use Rattle.flow_effects.specs.Passed.{added_of, left_after, lent_within, state_of}
use Rattle.flow_effects.specs.Tables.{passage_in}
use Rattle.flow_effects.specs.Touches.{Touch, idle_touch, joined}
use Rattle.flow_effects.specs.declared.passed.Begun.{Begun}
use Rattle.flow_effects.specs.declared.touch.How.TheVariants as how

-- ---- one local, and the first so many

either_effect : (t : Bool) (x y : Touch) → (if t then x else y).effect ≡ (if t then x.effect else y.effect)
either_effect true x y = refl
either_effect false x y = refl

either_caused : (t : Bool) (x y : Touch) → (if t then x else y).caused ≡ (if t then x.caused else y.caused)
either_caused true x y = refl
either_caused false x y = refl

pub number_effect : (n : ℕ) (x : Touch) (f : ℕ → Touch) (i : ℕ) → (with_number n x f i).effect ≡ with_number n x.effect (λ j. (f j).effect) i
number_effect n x f i = either_effect (nat_eq i n) x (f i)

pub number_caused : (n : ℕ) (x : Touch) (f : ℕ → Touch) (i : ℕ) → (with_number n x f i).caused ≡ with_number n x.caused (λ j. (f j).caused) i
number_caused n x f i = either_caused (nat_eq i n) x (f i)

pub below_effect : (n : ℕ) (f : ℕ → Touch) (i : ℕ) → (below n idle_touch f i).effect ≡ below n Keeps (λ j. (f j).effect) i
below_effect n f i = either_effect (nat_lt i n) (f i) idle_touch

pub below_caused : (n : ℕ) (f : ℕ → Touch) (i : ℕ) → (below n idle_touch f i).caused ≡ below n no_cause (λ j. (f j).caused) i
below_caused n f i = either_caused (nat_lt i n) (f i) idle_touch

-- ---- phrases

-- a use of a local
pub used_is : (x : Touch) (n : ℕ) (t : ℕ → Touch) → t ≡ with_number n x (λ i. idle_touch) → passage_in t None ≡ used x.effect x.caused (Some n)
used_is x n t h = ap (λ f. passage_in f None) h ∙ (λ j. record {
  effects = λ i. number_effect n x (λ k. idle_touch) i j;
  faults = record { caused = λ i. number_caused n x (λ k. idle_touch) i j; always = None };
})

-- what may be passed or not meets what isn't passed
pub maybe_then : (d e : Effect) → then_effect d (met_effect Keeps e) ≡ met_effect d (then_effect d e)
maybe_then Keeps Keeps = refl
maybe_then Keeps Holds = refl
maybe_then Keeps Loses = refl
maybe_then Keeps MayLose = refl
maybe_then Holds Keeps = refl
maybe_then Holds Holds = refl
maybe_then Holds Loses = refl
maybe_then Holds MayLose = refl
maybe_then Loses Keeps = refl
maybe_then Loses Holds = refl
maybe_then Loses Loses = refl
maybe_then Loses MayLose = refl
maybe_then MayLose Keeps = refl
maybe_then MayLose Holds = refl
maybe_then MayLose Loses = refl
maybe_then MayLose MayLose = refl

pub maybe_is : (s t : ℕ → Touch) (f g : Option Fault)
    → passage_in (λ i. joined how.Turn (s i) (joined how.Meet idle_touch (t i))) (sooner_found f g) ≡ in_turn_or_not (passage_in s f) (passage_in t g)
maybe_is s t f g = λ j. record (in_turn_or_not (passage_in s f) (passage_in t g)) { effects = λ i. maybe_then (s i).effect (t i).effect j }

none_before : (n : ℕ) (c : ℕ → Caused) → caused_in n c [] ≡ None
none_before zero c = refl
none_before (suc n) c = refl

-- a local that begins alone
pub one_begun : (n : ℕ) (c : ℕ → Caused) (a : State) → caused_in (suc n) c (a ∷ []) ≡ caused_by a (c n)
one_begun n c a = ap (λ f. sooner_found (caused_by a (c n)) f) (none_before n c) ∙ none_later (caused_by a (c n))

-- elements of an array
pub repeated_is : (n : ℕ) (t : ℕ → Touch) (f : Option Fault)
    → passage_in (λ i. joined how.Head idle_touch (below n idle_touch t i)) (sooner_found (caused_by Plain (t n).caused) f) ≡ repeated n (passage_in t f)
repeated_is n t f = λ j. record {
  effects = λ i. met_effect Keeps (below_effect n t i j);
  faults = record {
    caused = λ i. caused_after (met_effect Keeps (below_effect n t i j)) (below_caused n t i j);
    always = sooner_found (sym (one_begun n (λ i. (t i).caused) Plain) j) f;
  };
}

-- ---- locals that go out of scope, and loans

-- no local began
pub left_without : (n : ℕ) (t : ℕ → Touch) (f : Option Fault)
    → passage_in (below n idle_touch t) f ≡ left_after n (length (added_of None) + n) (added_of None) (passage_in t f)
left_without n t f = λ j. record {
  effects = λ i. below_effect n t i j;
  faults = record {
    caused = λ i. below_caused n t i j;
    always = sooner_found (sym (none_before (length (added_of None) + n) (λ i. (t i).caused)) j) f;
  };
}

-- one began
pub left_with : (n : ℕ) (b : Begun) (t : ℕ → Touch) (f a : Option Fault) → a ≡ sooner_found (caused_by (state_of b) (t n).caused) f
    → passage_in (below n idle_touch t) a ≡ left_after n (length (added_of (Some b)) + n) (added_of (Some b)) (passage_in t f)
left_with n b t f a e =
    let c : ℕ → Caused = λ i. (t i).caused in
    let more : suc n ≡ length (added_of (Some b)) + n = omega arith in
    let began : caused_by (state_of b) (c n) ≡ caused_in (length (added_of (Some b)) + n) c (added_of (Some b)) =
    sym (one_begun n c (state_of b)) ∙ ap (λ k. caused_in k c (state_of b ∷ [])) more in
    let whole : a ≡ sooner_found (caused_in (length (added_of (Some b)) + n) c (added_of (Some b))) f = e ∙ ap (λ o. sooner_found o f) began in
    λ j. record { effects = λ i. below_effect n t i j; faults = record { caused = λ i. below_caused n t i j; always = whole j } }

-- a local is lent
pub lent_is : (at i : ℕ) (x : Touch) (t : ℕ → Touch) (f : Option Fault) → x.effect ≡ Holds → x.caused ≡ lent_from at (t i).caused.lent
    → passage_in (with_number i x t) f ≡ lent_within at i (passage_in t f)
lent_is at i x t f e c = λ j. record {
  effects = λ k. (number_effect i x t k ∙ ap (λ d. with_number i d (λ l. (t l).effect) k) e) j;
  faults = record {
    caused = λ k. (number_caused i x t k ∙ ap (λ d. with_number i d (λ l. (t l).caused) k) c) j;
    always = f;
  };
}
