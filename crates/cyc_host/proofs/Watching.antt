-- A tally that takes in the states at which the instructions of a run begin.
use Rattle.std.proofs.Common.{◌≡◌, ℕ, zero, suc, ◌+◌, Bool, true, List, [], ◌∷◌, ◌++◌, refl, sym, ap, ◌∙◌, subst, add-one}
use Rattle.rv32_machine.specs.State.{State, Areas}
use Rattle.rv32_machine.specs.Run.{Run, run_step, run_steps}
use Rattle.rv32_machine.specs.Quiet.{AreQuietSteps}
use Rattle.cyc_host.specs.declared.actions.Action.{Action}
use Rattle.cyc_host.specs.Watched.{Tally, Known, AreActive, AreTakenIn, action_at, active_after, active_by, take_in, taken_in, visited}

-- the last of one more
last_visited : (n : Areas) (count : ℕ) (r : Run) → visited n (suc count) r ≡ visited n count r ++ (run_steps n count r).state ∷ []
last_visited n zero r = refl
last_visited n (suc count) r = ap (λ (l : List State). r.state ∷ l) (last_visited n count (run_step n r))

pub one_more_visited : (n : Areas) (count : ℕ) (r : Run) → visited n (count + 1) r ≡ visited n count r ++ (run_steps n count r).state ∷ []
one_more_visited n count r = ap (λ k. visited n k r) (add-one count) ∙ last_visited n count r

-- one state more
pub taken_in_more : (tally : Tally) (states : List State) (s : State) → taken_in tally (states ++ s ∷ []) ≡ take_in (taken_in tally states) s
taken_in_more tally [] s = refl
taken_in_more tally (first ∷ rest) s = taken_in_more (take_in tally first) rest s

active_after_more : (actions : List Action) (states : List State) (s : State) (calls : List ℕ)
    → active_after actions (states ++ s ∷ []) calls ≡ active_by (action_at actions s.pc) s.pc (active_after actions states calls)
active_after_more actions [] s calls = refl
active_after_more actions (first ∷ rest) s calls = active_after_more actions rest s (active_by (action_at actions first.pc) first.pc calls)

actions_stay : (tally : Tally) (states : List State) → (taken_in tally states).actions ≡ tally.actions
actions_stay tally [] = refl
actions_stay tally (first ∷ rest) = actions_stay (take_in tally first) rest

pub taken_in_both : (states : List State) (s : State) {before now after : Tally} {known_before known_now known_after : Known}
    → AreTakenIn states before now known_before known_now → AreTakenIn (s ∷ []) now after known_now known_after
    → AreTakenIn (states ++ s ∷ []) before after known_before known_after
taken_in_both states s {before} {now} {after} {known_before} {known_now} {known_after} had takes = record {
  tally = takes.tally ∙ ap (λ (x : Tally). take_in x s) had.tally ∙ sym (taken_in_more before states s);
  active = λ calls known.
      let same : now.actions ≡ before.actions = ap (λ (x : Tally). x.actions) had.tally ∙ actions_stay before states in
      subst (AreActive known_after) (ap (λ (actions : List Action). active_by (action_at actions s.pc) s.pc (active_after before.actions states calls)) same
      ∙ sym (active_after_more before.actions states s calls)) (takes.active (active_after before.actions states calls) (had.active calls known));
}

-- What a pace that takes in each step has when the next instruction begins, and no step was made ahead of it.
pub took_one : (n : Areas) {k : ℕ} (s t : State) {did does will : Bool} (before : Tally) {now after : Tally} {known_before known_now known_after : Known}
    {states further : List State}
    → (did ≡ true → (does ≡ true) × AreTakenIn states before now known_before known_now)
    → (does ≡ true → (k ≡ 0) × ((will ≡ true) × AreTakenIn (s ∷ []) now after known_now known_after))
    → AreQuietSteps n k s t → (k ≡ 0 → further ≡ states)
    → did ≡ true → (will ≡ true) × AreTakenIn (further ++ t ∷ []) before after known_before known_after
took_one n {k} s t {did} {does} {will} before {now} {after} {known_before} {known_now} {known_after} {states} {further} saw takes quiet stays is =
    let (was, have) = saw is in
    let (none, (will_be, more)) = takes was in
    let same : t ≡ s = subst (λ j. AreQuietSteps n j s t) none quiet in
    let all : states ++ s ∷ [] ≡ further ++ t ∷ [] =
    ap (λ (l : List State). l ++ s ∷ []) (sym (stays none)) ∙ ap (λ (x : State). further ++ x ∷ []) (sym same) in
    (will_be, subst (λ (l : List State). AreTakenIn l before after known_before known_after) all (taken_in_both states s have more))
