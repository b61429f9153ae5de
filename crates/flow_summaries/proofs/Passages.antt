-- What passages come to: their faults, and passages that are put together.
use Rattle.std.specs.Prelude.{length, ◌+◌, ◌≤◌, ◌++◌}
use Rattle.std.proofs.Common.{◌≡◌, ℕ, zero, suc, Bool, true, false, Option, Some, None, [], ◌∷◌, refl, sym, ap, ap₂, ◌∙◌, arith}
use Rattle.source_typing.specs.Faults.{earliest}
use Rattle.source_typing.specs.Moves.{copy_if, elements_passed, maybe, nothing, without_first}
use Rattle.source_typing.specs.States.{Gone, Held, Lent, Passed, Plain, State, States, loop_head, meet_all, then_passed}
use Rattle.check_faults.proofs.Earliest.{earliest_of_both, found_sooner}
use Rattle.check_faults.specs.Faults.{faults_of, first_of, sooner_found}
use Rattle.check_faults.specs.declared.fault.Fault.{Fault}
use Rattle.flow_summaries.proofs.Effects.{after_met, after_then, below_is, head_is, lent_stays, none_after, without_more}
use Rattle.flow_summaries.proofs.Sooner.{sooner_crossed, sooner_joined, sooner_turned}
use Rattle.flow_summaries.specs.Effects.{Effect, Effects, becomes, below, effects_below, states_after, then_effects, to_head}
use Rattle.flow_summaries.specs.Laws.{DoesAs}
use Rattle.flow_summaries.specs.Passages.{Caused, Faults, Passage, begun, both_caused, both_faults, caused_after, caused_by, caused_in, copied_if, faults_after}
use Rattle.flow_summaries.specs.Passages.{faults_always, found_in, in_turn, in_turn_or_not, no_cause, repeated, unchanged}

-- ---- causes

pub both_by : (b c : Caused) (a : State) → caused_by a (both_caused b c) ≡ sooner_found (caused_by a b) (caused_by a c)
both_by b c = elim [ Plain ↦ refl | _ ↦ refl ]

pub after_by : (e : Effect) (c : Caused) (a : State) → caused_by a (caused_after e c) ≡ caused_by (becomes e a) c
after_by e c Plain = refl
after_by e c Held = refl
after_by e c Gone = refl
after_by e c Lent = sym (ap (λ a. caused_by a c) (lent_stays e))

pub no_cause_by : (a : State) → caused_by a no_cause ≡ None
no_cause_by = elim [ Plain ↦ refl | _ ↦ refl ]

-- ---- causes of all locals

in_both : (n : ℕ) (b c : ℕ → Caused) (s : States) → caused_in n (λ i. both_caused (b i) (c i)) s ≡ sooner_found (caused_in n b s) (caused_in n c s)
in_both zero b c s = refl
in_both (suc n) b c [] = refl
in_both (suc n) b c (a ∷ s) =
    ap₂ sooner_found (both_by (b n) (c n) a) (in_both n b c s)
    ∙ sooner_crossed (caused_by a (b n)) (caused_by a (c n)) (caused_in n b s) (caused_in n c s)

in_after : (n : ℕ) (e : Effects) (c : ℕ → Caused) (s : States) → caused_in n (λ i. caused_after (e i) (c i)) s ≡ caused_in n c (states_after n e s)
in_after zero e c s = refl
in_after (suc n) e c [] = refl
in_after (suc n) e c (a ∷ s) = ap₂ sooner_found (after_by (e n) (c n) a) (in_after n e c s)

pub in_none : (n : ℕ) (s : States) → caused_in n (λ i. no_cause) s ≡ None
in_none zero s = refl
in_none (suc n) [] = refl
in_none (suc n) (a ∷ s) = ap₂ sooner_found (no_cause_by a) (in_none n s)

in_begun : (added : States) (n m : ℕ) (c : ℕ → Caused) (s : States) → m ≡ length added + n
    → caused_in m c (added ++ s) ≡ sooner_found (caused_in m c added) (caused_in n c s)
in_begun [] n m c s h = ap (λ k. caused_in k c s) (omega (arith, h)) ∙ ap (λ o. sooner_found o (caused_in n c s)) (sym (of_none m))
  where
    of_none : (m : ℕ) → caused_in m c [] ≡ None
    of_none zero = refl
    of_none (suc m) = refl
in_begun (a ∷ added) n m c s h =
    let k : ℕ = length added + n in
    let more : m ≡ suc k = omega (arith, h) in
    ap (λ j. caused_in j c (a ∷ added ++ s)) more
    ∙ ap (λ o. sooner_found (caused_by a (c k)) o) (in_begun added n k c s refl)
    ∙ sym (sooner_joined (caused_by a (c k)) (caused_in k c added) (caused_in n c s))
    ∙ ap (λ j. sooner_found (caused_in j c (a ∷ added)) (caused_in n c s)) (sym more)

in_below : (k n : ℕ) (c : ℕ → Caused) (s : States) → k ≤ n → caused_in k c s ≡ caused_in k (below n no_cause c) s
in_below zero n c s h = refl
in_below (suc k) n c [] h = refl
in_below (suc k) n c (a ∷ s) h =
    ap₂ (λ d o. sooner_found (caused_by a d) o) (sym (below_is n k no_cause c h)) (in_below k n c s (omega (arith, h)))

-- ---- faults

pub found_both : (n : ℕ) (f g : Faults) (s : States) → found_in n (both_faults f g) s ≡ sooner_found (found_in n f s) (found_in n g s)
found_both n f g s =
    ap (λ o. sooner_found o (sooner_found f.always g.always)) (in_both n f.caused g.caused s)
    ∙ sooner_crossed (caused_in n f.caused s) (caused_in n g.caused s) f.always g.always

pub found_after : (n : ℕ) (e : Effects) (f : Faults) (s : States) → found_in n (faults_after e f) s ≡ found_in n f (states_after n e s)
found_after n e f s = ap (λ o. sooner_found o f.always) (in_after n e f.caused s)

pub found_always : (n : ℕ) (o : Option Fault) (s : States) → found_in n (faults_always o) s ≡ o
found_always n o s = ap (λ a. sooner_found a o) (in_none n s)

found_with : (added : States) (n m : ℕ) (f : Faults) (s : States) → m ≡ length added + n
    → sooner_found (caused_in n f.caused s) (sooner_found (caused_in m f.caused added) f.always) ≡ found_in m f (added ++ s)
found_with added n m f s h =
    let own : Option Fault = caused_in m f.caused added in
    let others : Option Fault = caused_in n f.caused s in
    sym (sooner_joined others own f.always)
    ∙ ap (λ o. sooner_found o f.always) (sooner_turned others own ∙ sym (in_begun added n m f.caused s h))

pub found_begun : (added : States) (n m : ℕ) (f : Faults) (s : States) → m ≡ length added + n
    → found_in n (begun n m added f) s ≡ found_in m f (added ++ s)
found_begun added n m f s h =
    ap (λ o. sooner_found o (sooner_found (caused_in m f.caused added) f.always)) (sym (in_below n n f.caused s (omega arith)))
    ∙ found_with added n m f s h

-- the faults of two phrases, the second one after the effects of the first
pub found_then : (n : ℕ) (e : Effects) (f g : Faults) (s : States)
    → faults_of (found_in n (both_faults f (faults_after e g)) s)
    ≡ first_of (faults_of (found_in n f s)) (faults_of (found_in n g (states_after n e s)))
found_then n e f g s =
    ap faults_of (found_both n f (faults_after e g) s ∙ ap (λ o. sooner_found (found_in n f s) o) (found_after n e g s))
    ∙ found_sooner (found_in n f s) (found_in n g (states_after n e s))

-- ---- passages

pub does_nothing : (n : ℕ) → DoesAs n nothing unchanged
does_nothing n = record { states = λ s. sym (none_after n s); faults = λ s. ap faults_of (sym (found_always n None s)) }

pub does_copy : (n : ℕ) (b : Bool) (at : ℕ) → DoesAs n (copy_if b at) (copied_if b at)
does_copy n true at =
    record { states = λ s. sym (none_after n s); faults = λ s. ap faults_of (sym (found_always n (copied_if true at).faults.always s)) }
does_copy n false at = does_nothing n

module _ (n : ℕ) (f g : States → Passed) (p q : Passage) (h : DoesAs n f p) (k : DoesAs n g q) where
  next_states : (s : States) → (g (f s).states).states ≡ states_after n (then_effects p.effects q.effects) s
  next_states s = ap (λ t. (g t).states) (h.states s) ∙ k.states (states_after n p.effects s) ∙ sym (after_then n p.effects q.effects s)

  next_faults : (s : States)
      → earliest ((f s).faults ++ (g (f s).states).faults) ≡ faults_of (found_in n (both_faults p.faults (faults_after p.effects q.faults)) s)
  next_faults s =
      earliest_of_both (f s).faults (g (f s).states).faults
      ∙ ap₂ first_of (h.faults s) (ap (λ t. earliest (g t).faults) (h.states s) ∙ k.faults (states_after n p.effects s))
      ∙ sym (found_then n p.effects p.faults q.faults s)

  pub does_in_turn : DoesAs n (λ s. then_passed (f s) g) (in_turn p q)
  does_in_turn = record { states = next_states; faults = next_faults }

  pub does_in_turn_or_not : DoesAs n (λ s. maybe (f s) g) (in_turn_or_not p q)
  does_in_turn_or_not = record {
    states = λ s. ap₂ meet_all (h.states s) (next_states s) ∙ after_met n p.effects (then_effects p.effects q.effects) s;
    faults = next_faults;
  }

-- ---- elements

module _ (n : ℕ) (element : States → Passed) (p : Passage) (h : DoesAs (suc n) element p) where
  abbrev turn : States → Option States
  turn t = Some (without_first (element (Plain ∷ t)).states)

  abbrev head_effects : Effects
  head_effects = to_head (Some (effects_below n p.effects))

  head_states : (s : States) → loop_head s turn ≡ states_after n head_effects s
  head_states =
      head_is n turn (Some (effects_below n p.effects))
      (λ t. ap (λ u. Some (without_first u)) (h.states (Plain ∷ t)) ∙ ap Some (without_more n p.effects t))

  element_faults : (s : States) → earliest (element (Plain ∷ loop_head s turn)).faults ≡ faults_of (found_in n (repeated n p).faults s)
  element_faults s =
      ap (λ t. earliest (element (Plain ∷ t)).faults) (head_states s)
      ∙ h.faults (Plain ∷ states_after n head_effects s)
      ∙ ap faults_of (sym (found_begun (Plain ∷ []) n (suc n) p.faults (states_after n head_effects s) (omega arith))
      ∙ sym (found_after n head_effects (begun n (suc n) (Plain ∷ []) p.faults) s))

  pub does_repeat : DoesAs n (elements_passed element) (repeated n p)
  does_repeat = record { states = head_states; faults = element_faults }
