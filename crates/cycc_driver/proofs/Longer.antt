-- A run on an input, and on that input with more behind it: where the input's end wasn't told, both do the same.
use Rattle.std.proofs.Common.{◌≡◌, ℕ, zero, suc, ◌+◌, ◌-◌, ◌≤◌, ◌<◌, List, [], ◌∷◌, ◌++◌, true, Option, None, Ok, Err, inl, inr, refl, sym, ap, subst, ◌∙◌}
use Rattle.std.proofs.Common.{arith, append-nil, add-sub_of_le, ⊎_elim}
use Rattle.std.proofs.lemmas.Bool.{cases_lt}
use Rattle.std.proofs.lemmas.List.Elements.{Contains-append_left, Contains-append_right}
use Rattle.std.specs.List.{Contains}
use Rattle.cyc_words.specs.Events.{Event, ByteRead, visible, SourceEnding, Request, MachineEnding}
use Rattle.arena_laws.specs.declared.refusal.StoreRefusal.{StoreRefusal}
use Rattle.arena_laws.specs.declared.refusal.StoreRefusal.TheVariants as refusal
use Rattle.arena_laws.specs.Asked.{Asked}
use Rattle.arena_laws.specs.Lawful.{Answer}
use Rattle.rv32_machine.specs.State.{State, Areas, Stop, Mode, Runs, Waits, Over}
use Rattle.rv32_machine.specs.Step.{Shown, Nothing, Writes, Asks, Stops, Told, Silent, Says, step}
use Rattle.rv32_machine.specs.Run.{Run, answer_from, refused_by, after_call, after_step, run_step, run_steps, from, ending_in, ending_of}
use Rattle.rv32_machine.specs.Implements.{Meaning, is_cut_short, EndsWith, Reaches}
use Rattle.rv32_machine.proofs.LongerRuns.{run_more, over_steps, steps_show}
use Rattle.rv32_machine.specs.Shortage.{IsShortage, asked_at}
use Rattle.exhaustion_proof.specs.Laws.{AreExact}
use Rattle.cycc_driver.specs.Outcome.{IsOver}

-- ---- more input

-- the run with more input behind its own
abbrev with_more : List ℕ → Run → Run
with_more more r = record r { input = r.input ++ more }

-- the end of the input was told
abbrev IsTold : Run → Type 0
IsTold r = Contains r.events (ByteRead None)

told_then : (n : Areas) (count : ℕ) (r : Run) → IsTold r → IsTold (run_steps n count r)
told_then n count r told =
    let shown = steps_show n count r in
    subst (λ es. Contains es (ByteRead None)) (sym shown.1) (Contains-append_left r.events shown.0 (ByteRead None) told)

ask_longer : (more input : List ℕ) (r : Run) (s : State) → r.input ≡ input → (IsTold (answer_from input r s) → ⊥)
    → answer_from (input ++ more) (with_more more r) s ≡ with_more more (answer_from input r s)
ask_longer more [] r s is untold = absurd (untold (Contains-append_right r.events (ByteRead None ∷ []) (ByteRead None) (0, omega arith, refl)))
ask_longer more (byte ∷ rest) r s is untold = refl

call_longer : (more : List ℕ) (r : Run) (told : Told) (s : State) → after_call told (with_more more r) s ≡ with_more more (after_call told r s)
call_longer more r Silent s = refl
call_longer more r (Says asked (Ok number)) s = refl
call_longer more r (Says asked (Err why)) s = refl

step_longer : (more : List ℕ) (r : Run) (shown : Shown) (told : Told) (s : State)
    → (IsTold (after_step r (record { shown = shown; told = told; state = s })) → ⊥)
    → after_step (with_more more r) (record { shown = shown; told = told; state = s })
    ≡ with_more more (after_step r (record { shown = shown; told = told; state = s }))
step_longer more r Nothing told s untold = call_longer more r told s
step_longer more r (Writes byte) told s untold = refl
step_longer more r (Stops why) told s untold = call_longer more r told s
step_longer more r Asks told s untold = ask_longer more r.input r s refl untold

steps_longer : (n : Areas) (count : ℕ) (more : List ℕ) (r : Run) → (IsTold (run_steps n count r) → ⊥)
    → run_steps n count (with_more more r) ≡ with_more more (run_steps n count r)
steps_longer n zero more r untold = refl
steps_longer n (suc count) more r untold =
    let x = step n (r.answers 0) r.state in
    ap (run_steps n count) (step_longer more r x.shown x.told x.state (λ told. untold (told_then n count (run_step n r) told)))
    ∙ steps_longer n count more (run_step n r) untold

-- more input, or none where the end was told: what is seen of the run beside its input is the same
pub same_seen : {A : Type 0} (see : Run → A) (n : Areas) (count : ℕ) (s : State) (input : List ℕ) (answers : ℕ → Answer) (more : List ℕ)
    → ((r : Run) → see (with_more more r) ≡ see r) → (IsTold (run_steps n count (from s input answers)) → more ≡ [])
    → see (run_steps n count (from s (input ++ more) answers)) ≡ see (run_steps n count (from s input answers))
same_seen see n count s input answers [] blind none = ap (λ l. see (run_steps n count (from s l answers))) (append-nil input)
same_seen see n count s input answers (byte ∷ more) blind none =
    ap see (steps_longer n count (byte ∷ more) (from s input answers) (λ told. cons_is_some (none told))) ∙ blind (run_steps n count (from s input answers))
  where
    cons_is_some : byte ∷ more ≡ [] → ⊥
    cons_is_some same = absurd (cc)

-- the state is the same
pub same_state : (n : Areas) (count : ℕ) (s : State) (input : List ℕ) (answers : ℕ → Answer) (more : List ℕ)
    → (IsTold (run_steps n count (from s input answers)) → more ≡ [])
    → (run_steps n count (from s (input ++ more) answers)).state ≡ (run_steps n count (from s input answers)).state
same_state n count s input answers more none = same_seen (λ (r : Run). r.state) n count s input answers more (λ r. refl) none

-- and so are the events
pub same_events : (n : Areas) (count : ℕ) (s : State) (input : List ℕ) (answers : ℕ → Answer) (more : List ℕ)
    → (IsTold (run_steps n count (from s input answers)) → more ≡ [])
    → (run_steps n count (from s (input ++ more) answers)).events ≡ (run_steps n count (from s input answers)).events
same_events n count s input answers more none = same_seen (λ (r : Run). r.events) n count s input answers more (λ r. refl) none

-- what the store answers is so exact as before
pub same_exact : (n : Areas) (count : ℕ) (s : State) (input : List ℕ) (answers : ℕ → Answer) (more : List ℕ)
    → (IsTold (run_steps n count (from s input answers)) → more ≡ []) → AreExact n count (from s input answers)
    → AreExact n count (from s (input ++ more) answers)
same_exact n count s input answers more none exact = λ k less.
    let told_later : IsTold (run_steps n k (from s input answers)) → more ≡ [] = λ told. none
    (subst IsTold (sym (run_more n k (count - k) (from s input answers)) ∙ ap (λ j. run_steps n j (from s input answers)) (whole k less))
    (told_then n (count - k) (run_steps n k (from s input answers)) told)) in
    let same = same_seen (λ (r : Run). (r.state, r.answers)) n k s input answers more (λ r. refl) told_later in
    subst (λ (p : State × (ℕ → Answer)). IsShortage n (asked_at n p.0) p.0.holdings (step n (p.1 0) p.0).shown) (sym same) (exact k less)
  where
    whole : (k : ℕ) → k < count → k + (count - k) ≡ count
    whole k less = omega (arith, less)

-- ---- runs that are over

-- a run that doesn't go on is over
ended_is_over : (mode : Mode) (refused : Option Request) → (ending_in mode refused ≡ MachineEnding.Running → ⊥) → (why : Stop) × (mode ≡ Over why)
ended_is_over Runs refused ended = absurd (ended refl)
ended_is_over Waits refused ended = absurd (ended refl)
ended_is_over (Over why) refused ended = (why, refl)

-- so is one that was cut short, or has come as far as a meaning that is over
cut_is_over : (e : MachineEnding) → is_cut_short e ≡ true → e ≡ MachineEnding.Running → ⊥
cut_is_over MachineEnding.Running cut runs = absurd (cc cut)
cut_is_over MachineEnding.Lacking cut runs = absurd (cc runs)
cut_is_over (MachineEnding.Ended status) cut runs = absurd (cc runs)
cut_is_over (MachineEnding.Raised kind) cut runs = absurd (cc runs)
cut_is_over (MachineEnding.Refused q) cut runs = absurd (cc runs)
cut_is_over MachineEnding.NoStack cut runs = absurd (cc runs)
cut_is_over (MachineEnding.Fault fault) cut runs = absurd (cc runs)

ends_over : (e : SourceEnding) (meant : List Event) (r : Run) → IsOver e → EndsWith e meant r → ending_of r ≡ MachineEnding.Running → ⊥
ends_over (SourceEnding.Ended status) meant r over ends runs = absurd (cc (ends.0, runs))
ends_over (SourceEnding.Raised kind) meant r over ends runs = absurd (cc (ends.0, runs))
ends_over SourceEnding.Running meant r over ends runs = over
ends_over SourceEnding.Stuck meant r over ends runs = over

pub reached_is_over : (r : Run) (m : Meaning) (fuel : ℕ) → IsOver (m.ending fuel) → Reaches r m fuel → (why : Stop) × (r.state.mode ≡ Over why)
reached_is_over r m fuel over (inl cut) = ended_is_over r.state.mode r.refused (cut_is_over (ending_of r) cut)
reached_is_over r m fuel over (inr (begins, ends)) =
    ended_is_over r.state.mode r.refused (ends_over (m.ending fuel) (visible (m.events fuel)) r over ends)
