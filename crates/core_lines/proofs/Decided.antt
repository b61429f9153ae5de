-- A choice that is decided where its code is made: what it tests is known to be a number. Only one of its ways has code.
use Rattle.std.proofs.Common.{◌≡◌, ℕ, suc, Bool, List, ◌∷◌, Option, Some, None, refl, sym, ap, subst, ◌∙◌, arith}
use Rattle.std.proofs.lemmas.Option.{none-some}
use Rattle.core_meaning.specs.Memory.{Content}
use Rattle.core_meaning.specs.Meaning as core
use Rattle.core_meaning.specs.Steps.{Config, Step}
use Rattle.core_lines.specs.Held.{Source, Register, Number, Compared, ComparedWith, Holding, source_of, number_in}
use Rattle.core_lines.specs.Lies.{Maps, Shows}
use Rattle.core_lines.specs.Machines.{Machine}
use Rattle.core_lines.proofs.memory.Relations.{World, Waiting, Goes, active_of, keeping}
use Rattle.core_lines.proofs.memory.Moving.{goes_nowhere, goes_stuck}
use Rattle.core_lines.proofs.frames.Going.{with_config, GoesHolding}
use Rattle.core_lines.proofs.operations.Registers.{AtHolding, with_there, there_found}
use Rattle.core_lines.proofs.Ways.{Tested, Fails, Holds, Neither}
use Rattle.core_lines.proofs.Tests.{fails_zero, holds_other, tested}

-- where the number is from
pub number_found : (s : Option Source) (n : ℕ) → number_in s ≡ Some n → s ≡ Some (Number n)
number_found None n e = absurd (none-some n e)
number_found (Some (Register r)) n e = absurd (none-some n e)
number_found (Some (Number w)) n e = cc e
number_found (Some (Compared c)) n e = absurd (none-some n e)
number_found (Some (ComparedWith c)) n e = absurd (none-some n e)

module _ (w : World) (x : Waiting) (outer : List Waiting) (kept : List Bool) (fuel : ℕ) (held : List Holding) (t place : ℕ) where
  abbrev At_choice : Config → Machine → Type 0
  At_choice c s = AtHolding w (with_config (keeping kept x) c) outer c.memory place held s

  -- the number is what the temporary holds
  shown : (n : ℕ) → source_of held t ≡ Some (Number n) → (c : Config) (s : Machine) → At_choice c s → (m : Maps) × Shows m (c.temps t) n
  shown n known c s a =
      let b = with_there w (with_config (keeping kept x) c) outer c.memory place held s a in
      (b.maps, (there_found held t (Number n) c.temps b.maps s.registers b.holds known).0)

  -- 0 fails the test
  pub fails_known : (these those : Config → Step) → source_of held t ≡ Some (Number 0) → GoesHolding w (keeping kept x) outer fuel place held those
      → GoesHolding w (keeping kept x) outer fuel place held (λ c. core.branch (c.temps t) (these c) (those c))
  fails_known these those known goes c is = by (c.temps t) refl (tested (c.temps t))
    where
      by : (v : Content) → c.temps t ≡ v → Tested v → Goes w fuel (core.branch (c.temps t) (these c) (those c)) (At_choice c) (active_of w (x ∷ outer))
      by v e (Fails u f) =
          subst (λ q. Goes w fuel q (At_choice c) (active_of w (x ∷ outer)))
          (sym (ap (λ q. core.branch q (these c) (those c)) e ∙ f (these c) (those c))) (goes c is)
      by v e (Holds u f) = goes_nowhere w (At_choice c) (active_of w (x ∷ outer)) fuel (core.branch (c.temps t) (these c) (those c)) (λ s a.
          let found = shown 0 known c s a in
          let other = holds_other found.0 (c.temps t) 0 found.1 (λ a b. ap (λ q. core.branch q a b) e ∙ f a b) in cc other)
      by v e (Neither u f) =
          subst (λ q. Goes w fuel q (At_choice c) (active_of w (x ∷ outer)))
          (sym (ap (λ q. core.branch q (these c) (those c)) e ∙ f (these c) (those c)))
          (goes_stuck w (At_choice c) (active_of w (x ∷ outer)) fuel)

  -- and no other number does
  pub holds_known : (n : ℕ) (these those : Config → Step) → source_of held t ≡ Some (Number (suc n))
      → GoesHolding w (keeping kept x) outer fuel place held these
      → GoesHolding w (keeping kept x) outer fuel place held (λ c. core.branch (c.temps t) (these c) (those c))
  holds_known n these those known goes c is = by (c.temps t) refl (tested (c.temps t))
    where
      by : (v : Content) → c.temps t ≡ v → Tested v → Goes w fuel (core.branch (c.temps t) (these c) (those c)) (At_choice c) (active_of w (x ∷ outer))
      by v e (Fails u f) = goes_nowhere w (At_choice c) (active_of w (x ∷ outer)) fuel (core.branch (c.temps t) (these c) (those c)) (λ s a.
          let found = shown (suc n) known c s a in
          let none = fails_zero found.0 (c.temps t) (suc n) found.1 (λ a b. ap (λ q. core.branch q a b) e ∙ f a b) in omega (arith, none))
      by v e (Holds u f) =
          subst (λ q. Goes w fuel q (At_choice c) (active_of w (x ∷ outer)))
          (sym (ap (λ q. core.branch q (these c) (those c)) e ∙ f (these c) (those c))) (goes c is)
      by v e (Neither u f) =
          subst (λ q. Goes w fuel q (At_choice c) (active_of w (x ∷ outer)))
          (sym (ap (λ q. core.branch q (these c) (those c)) e ∙ f (these c) (those c)))
          (goes_stuck w (At_choice c) (active_of w (x ∷ outer)) fuel)
