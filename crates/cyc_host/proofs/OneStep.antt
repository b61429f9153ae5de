-- A step of the machine: what it leaves, what it shows, and that it is refused by the store exactly where that has no room.
use Rattle.std.proofs.Common.{◌≡◌, ℕ, ◌+◌, ◌<◌, Bool, true, false, Option, refl, ap, ◌∙◌, subst, arith}
use Rattle.std.specs.Prelude.{nat_lt}
use Rattle.std.proofs.lemmas.Bool.Decides.{nat_tests}
use Rattle.arena_laws.specs.Lawful.{Answer}
use Rattle.rv32_machine.specs.State.{State, Areas, Stop, Over, Runs}
use Rattle.rv32_machine.specs.Step.{Shown, Nothing, Writes, Asks, Stops, step, given}
use Rattle.rv32_machine.specs.Run.{Run, run_steps}
use Rattle.rv32_machine.specs.Shortage.{IsShortage, asked_at}
use Rattle.cyc_host.specs.Hosted.{IsExact}
use Rattle.rv32_machine.proofs.Modes.{stopped, runs_on, runs_after_write, waits_for, runs_again}

-- the machine's step from one state to another with an answer of the store, and what it shows
pub record IsStep (n : Areas) (answer : Answer) (old new : State) (shown : Shown) : Type 0 where
  pub state : new ≡ (step n answer old).state
  pub shows : shown ≡ (step n answer old).shown
  pub exact : IsShortage n (asked_at n old) old.holdings shown

pub step_at : (m n : Areas) (answer : Answer) (old new : State) (shown : Shown) → m ≡ n → new ≡ (step m answer old).state →
    shown ≡ (step m answer old).shown → IsShortage m (asked_at m old) old.holdings shown → IsStep n answer old new shown
step_at m n answer old new shown same state shows exact =
    subst (λ (k : Areas). IsStep k answer old new shown) same (record { state = state; shows = shows; exact = exact })

-- each step of a run so far is exact, and one more
pub one_more_exact : (n : Areas) (count : ℕ) (start : Run) → ((k : ℕ) → k < count → IsExact n (run_steps n k start)) →
    IsExact n (run_steps n count start) → (k : ℕ) → k < count + 1 → IsExact n (run_steps n k start)
one_more_exact n count start before last k below = by_place (nat_lt k count) refl
  where
    by_place : (is_before : Bool) → nat_lt k count ≡ is_before → IsExact n (run_steps n k start)
    by_place true e = before k (grind (arith, nat_tests))
    by_place false e = let same : count ≡ k = grind (arith, nat_tests) in subst (λ j. IsExact n (run_steps n j start)) same last

module _ {n : Areas} {answer : Answer} {old : State} where
  -- a step that stops leaves the machine over
  pub over_at : {new : State} {why : Stop} → IsStep n answer old new (Stops why) → new.mode ≡ Over why
  over_at {new} {why} x = ap (λ (s : State). s.mode) x.state ∙ stopped n answer old why x.shows

  -- a step that doesn't stop leaves it running, with the answer where it asks
  pub runs_at : {new : State} → IsStep n answer old new Nothing → new.mode ≡ Runs
  runs_at {new} x = ap (λ (s : State). s.mode) x.state ∙ runs_on n answer old x.shows

  pub runs_at_write : {new : State} {byte : ℕ} → IsStep n answer old new (Writes byte) → new.mode ≡ Runs
  runs_at_write {new} {byte} x = ap (λ (s : State). s.mode) x.state ∙ runs_after_write n answer old byte x.shows

  pub runs_at_answer : {waiting new : State} (given_byte : Option ℕ) → IsStep n answer old waiting Asks → new ≡ given given_byte waiting → new.mode ≡ Runs
  runs_at_answer {waiting} {new} given_byte x e =
      ap (λ (s : State). s.mode) e ∙ runs_again given_byte waiting (ap (λ (s : State). s.mode) x.state ∙ waits_for n answer old x.shows)
