-- A run goes on by steps that show nothing and ask the store for nothing.
use Rattle.std.proofs.Common.{◌≡◌, ℕ, zero, suc, ◌+◌, ◌⊎◌, Bool, false, List, [], ◌∷◌, ◌++◌, Option, ◌∙◌, refl, sym, ap, subst, inl, inr, arith}
use Rattle.arena_laws.specs.Asked.{Asked}
use Rattle.arena_laws.specs.Lawful.{Refuses}
use Rattle.rv32_machine.specs.State.{State, Areas, Runs}
use Rattle.rv32_machine.specs.Step.{Stepped, Nothing}
use Rattle.rv32_machine.specs.Served.{lacks}
use Rattle.rv32_machine.specs.Shortage.{IsShortage}
use Rattle.rv32_machine.specs.Quiet.{IsQuietStep, AreQuietSteps}
use Rattle.cyc_host.proofs.OneStep.{IsStep, runs_at}
use Rattle.cyc_host.proofs.Progress.{Progress, went_on}

-- such a step is one
pub one_quiet : (n : Areas) (s t : State) → IsQuietStep n s t → IsStep n Refuses s t Nothing
one_quiet n s t q = record {
  state = sym (ap (λ (x : Stepped). x.state) (q.steps Refuses));
  shows = sym (ap (λ (x : Stepped). x.shown) (q.steps Refuses));
  exact = subst (λ (asked : Option Asked). IsShortage n asked s.holdings Nothing) (sym q.asks) tt;
}

-- A run goes on by so many of them. Where they are none, no instruction began.
pub went_quietly : {n : Areas} {old now : State} {count : ℕ} {is_over : Bool} {reader_old reader writer_old writer : Option (List ℕ)} {gathered : List ℕ}
    {states : List State}
    → Progress n old count is_over now reader_old reader writer_old writer gathered states → (k : ℕ) (new : State) → AreQuietSteps n k now new
    → (further : List State) × ((k ≡ 0 → further ≡ states) × Progress n old (count + k) is_over new reader_old reader writer_old writer gathered further)
went_quietly {n} {old} {now} {count} {is_over} {reader_old} {reader} {writer_old} {writer} {gathered} {states} p zero new same =
    let here : Progress n old count is_over new reader_old reader writer_old writer gathered states =
    subst (λ (t : State). Progress n old count is_over t reader_old reader writer_old writer gathered states) (sym same) p in
    let none : count ≡ count + 0 = omega arith in
    (states, ((λ _. refl), subst (λ c. Progress n old c is_over new reader_old reader writer_old writer gathered states) none here))
went_quietly {n} {old} {now} {count} {is_over} {reader_old} {reader} {writer_old} {writer} {gathered} {states} p (suc k) new (m, before, last) =
    let (states_before, (_, q)) = went_quietly p k m before in
    let further : Progress n old (count + k + 1) is_over new reader_old reader writer_old writer gathered (states_before ++ m ∷ []) =
    went_on q Refuses new (one_quiet n m new last) in
    let one : count + k + 1 ≡ count + suc k = omega arith in (
      states_before ++ m ∷ [],
      (
        (λ none. absurd (omega (arith, none))),
        subst (λ c. Progress n old c is_over new reader_old reader writer_old writer gathered (states_before ++ m ∷ [])) one further,
      ),
    )

-- after some of them it runs
pub runs_quietly : (n : Areas) (k : ℕ) (s t : State) → AreQuietSteps n k s t → (t ≡ s) ⊎ (t.mode ≡ Runs)
runs_quietly n zero s t same = inl same
runs_quietly n (suc k) s t (m, before, last) = inr (runs_at (one_quiet n m t last))

-- and isn't over because memory is out where it wasn't before
pub keeps_memory : (n : Areas) (k : ℕ) (s t : State) → AreQuietSteps n k s t → lacks s.mode ≡ false → lacks t.mode ≡ false
keeps_memory n k s t q before = elim (runs_quietly n k s t q) [
  | inl same ↦ ap (λ (x : State). lacks x.mode) same ∙ before
  | inr runs ↦ ap lacks runs
]

-- the same with the areas as they were at the start
pub quiet_at : (m n : Areas) (k : ℕ) (s t : State) → m ≡ n → AreQuietSteps m k s t → AreQuietSteps n k s t
quiet_at m n k s t same q = subst (λ (x : Areas). AreQuietSteps x k s t) same q
