-- Where a hosted run is exhausted, by the program's own events.
use Rattle.std.proofs.Common.{◌≡◌, ℕ, ◌+◌, ◌-◌, ◌<◌, ◌≤◌, ◌⊎◌, inl, inr, true, List, [], ◌∷◌, ◌++◌, Option, None, refl, sym, ap, subst, ◌∙◌, arith, ⊎_elim}
use Rattle.std.proofs.lemmas.Bool.{cases_lt}
use Rattle.std.specs.Io.KnownBytes.{Appends}
use Rattle.cyc_words.specs.Words.{word}
use Rattle.cyc_words.specs.Events.{AreBytes, Event, SourceEvent, Visible, visible, output}
use Rattle.cyc_tree.specs.Tree.{Program}
use Rattle.source_meaning.specs.Programs.{source}
use Rattle.source_meaning.proofs.Fuel.{only_grows}
use Rattle.arena_laws.specs.Lawful.{Answer}
use Rattle.rv32_machine.specs.State.{State, Areas, Stop, Mode, Runs, Over}
use Rattle.rv32_machine.specs.Step.{step}
use Rattle.rv32_machine.specs.Run.{Run, run_steps}
use Rattle.rv32_machine.specs.Shortage.{IsShortage, asked_at, asked_in}
use Rattle.rv32_machine.proofs.LongerRuns.{run_more, over_steps}
use Rattle.cyc_host.specs.declared.ending.Ending.{Ending}
use Rattle.cyc_host.specs.declared.ending.Ending.TheVariants as ending
use Rattle.cyc_host.specs.Hosted.{Written, EndsAs}
use Rattle.compile_proof.specs.Promise.{meaning_of}
use Rattle.exhaustion_proof.specs.Room.{HasRoom}
use Rattle.exhaustion_proof.specs.Laws.{AreExact, IsGrowing}
use Rattle.cycc_driver.specs.Outcome.{IsStoppedBefore}

pub bytes_and : (some more : List ℕ) → AreBytes some → AreBytes more → AreBytes (some ++ more)
bytes_and [] more all others = others
bytes_and (byte ∷ some) more (fits, all) others = (fits, bytes_and some more all others)

-- a program's meaning grows with its fuel
pub meaning_grows : (program : Program) (input : List ℕ) → IsGrowing (meaning_of program input)
meaning_grows program input n k less = let g = only_grows program input n k less in (g.0, sym g.1)

-- room is the same for the same pages and stack
pub room_as : (bound : List ℕ → ℕ) (pages stack n m : ℕ) (events : List SourceEvent) → n ≡ pages → m ≡ stack → HasRoom bound pages stack events
    → HasRoom bound n m events
room_as bound pages stack n m events a b room =
    subst (λ k. HasRoom bound k m events) (sym a) (subst (λ k. HasRoom bound pages k events) (sym b) room)

-- ---- a run that is over stays exact

exact_beyond : (n : Areas) (count more : ℕ) (r : Run) (why : Stop) → (run_steps n count r).state.mode ≡ Over why → AreExact n count r
    → AreExact n (count + more) r
exact_beyond n count more r why over exact = λ k less. ⊎_elim (λ under. exact k under) (λ within. there k within) (cases_lt k count)
  where
    there : (k : ℕ) → count ≤ k → IsShortage n (asked_at n (run_steps n k r).state) (run_steps n k r).state.holdings
        (step n ((run_steps n k r).answers 0) (run_steps n k r).state).shown
    there k within =
        let parts : count + (k - count) ≡ k = omega (arith, within) in
        let same = ap (λ j. run_steps n j r) (sym parts) ∙ run_more n count (k - count) r ∙ over_steps n (k - count) (run_steps n count r) why over in
        let mode : (run_steps n k r).state.mode ≡ Over why = ap (λ (x : Run). x.state.mode) same ∙ over in
        subst (λ (o : Mode). IsShortage n (asked_in o n (run_steps n k r).state) (run_steps n k r).state.holdings
        (step n ((run_steps n k r).answers 0) (run_steps n k r).state).shown) (sym mode) tt

-- ---- how a run that is long enough was stopped

-- what an ending says of the stop that the machine is at
abbrev pub ending_stop : Ending → Stop → Type 0
ending_stop (ending.Ended status) stop = stop ≡ Stop.Ended (word status)
ending_stop (ending.Raised kind) stop = stop ≡ Stop.Raised kind
ending_stop ending.Exhausted stop = stop ≡ Stop.Exhausted
ending_stop (ending.Fault fault) stop = stop ≡ Stop.Fault fault
ending_stop why stop = ⊥

-- the machine is at the stop of a run's ending
pub ends_at : (n : Areas) (why : Ending) (limit count : ℕ) (left : Run) (now : State) → EndsAs why n limit count left now → (stop : Stop) → ending_stop why stop
    → left.state.mode ≡ Over stop
ends_at n (ending.Ended status) limit count left now at stop is = at.1 ∙ ap (λ k. Over k) (sym is)
ends_at n (ending.Raised kind) limit count left now at stop is = at.1 ∙ ap (λ k. Over k) (sym is)
ends_at n ending.Exhausted limit count left now at stop is = at.1 ∙ ap (λ k. Over k) (sym is)
ends_at n (ending.Fault fault) limit count left now at stop is = at.1 ∙ ap (λ k. Over k) (sym is)
ends_at n ending.HostMemory limit count left now at stop is = absurd is
ends_at n ending.StepLimit limit count left now at stop is = absurd is
ends_at n ending.ReadFault limit count left now at stop is = absurd is
ends_at n ending.WriteFault limit count left now at stop is = absurd is

module _ (n : Areas) (limit enough : ℕ) (r : Run) (before : List SourceEvent) (old new : Option (List ℕ)) (within : enough ≤ limit)
    (law : (count : ℕ) → enough ≤ count → AreExact n count r
    → ((run_steps n count r).state.mode ≡ Over Stop.Lacking)
    ⊎ (((run_steps n count r).state.mode ≡ Over Stop.Exhausted) × ((run_steps n count r).events ≡ visible before))) where
  -- a run that is over, with as many steps more as are enough
  over_stopped : (count : ℕ) (why : Stop) → AreExact n count r → (run_steps n count r).state.mode ≡ Over why
      → (Over why ≡ Over Stop.Lacking) ⊎ ((Over why ≡ Over Stop.Exhausted) × ((run_steps n count r).events ≡ visible before))
  over_stopped count why exact over =
      let same : run_steps n (count + enough) r ≡ run_steps n count r = run_more n count enough r ∙ over_steps n enough (run_steps n count r) why over in
      let found = law (count + enough) (omega arith) (exact_beyond n count enough r why over exact) in
      subst (λ (x : Run). (Over why ≡ Over Stop.Lacking) ⊎ ((Over why ≡ Over Stop.Exhausted) × (x.events ≡ visible before))) same
      (subst (λ (o : Mode). (o ≡ Over Stop.Lacking) ⊎ ((o ≡ Over Stop.Exhausted) × ((run_steps n (count + enough) r).events ≡ visible before)))
      (ap (λ (x : Run). x.state.mode) same ∙ over) found)

  pub stopped_before : (why : Ending) (count : ℕ) → AreExact n count r
      → ((stop : Stop) → ending_stop why stop → (run_steps n count r).state.mode ≡ Over stop)
      → (why ≡ ending.StepLimit → (count ≡ limit) × ((run_steps n count r).state.mode ≡ Runs))
      → Written why old new (output (run_steps n count r).events) → IsStoppedBefore why (visible before) old new
  stopped_before (ending.Ended status) count exact over limits written =
      neither (over_stopped count (Stop.Ended (word status)) exact (over (Stop.Ended (word status)) refl))
    where
      neither : {A B : Type 0} → (Over (Stop.Ended (word status)) ≡ Over Stop.Lacking) ⊎ ((Over (Stop.Ended (word status)) ≡ Over Stop.Exhausted) × A) → B
      neither (inl e) = absurd cc
      neither (inr e) = absurd (let z = e.0 in cc)
  stopped_before (ending.Raised kind) count exact over limits written = neither (over_stopped count (Stop.Raised kind) exact (over (Stop.Raised kind) refl))
    where
      neither : {A B : Type 0} → (Over (Stop.Raised kind) ≡ Over Stop.Lacking) ⊎ ((Over (Stop.Raised kind) ≡ Over Stop.Exhausted) × A) → B
      neither (inl e) = absurd cc
      neither (inr e) = absurd (let z = e.0 in cc)
  stopped_before (ending.Fault fault) count exact over limits written = neither (over_stopped count (Stop.Fault fault) exact (over (Stop.Fault fault) refl))
    where
      neither : {A B : Type 0} → (Over (Stop.Fault fault) ≡ Over Stop.Lacking) ⊎ ((Over (Stop.Fault fault) ≡ Over Stop.Exhausted) × A) → B
      neither (inl e) = absurd cc
      neither (inr e) = absurd (let z = e.0 in cc)
  stopped_before ending.Exhausted count exact over limits written = all (over_stopped count Stop.Exhausted exact (over Stop.Exhausted refl))
    where
      all : (Over Stop.Exhausted ≡ Over Stop.Lacking) ⊎ ((Over Stop.Exhausted ≡ Over Stop.Exhausted) × ((run_steps n count r).events ≡ visible before))
          → IsStoppedBefore ending.Exhausted (visible before) old new
      all (inl e) = absurd cc
      all (inr e) = subst (λ (es : List Event). Appends old new (output es)) e.1 written
  stopped_before ending.StepLimit count exact over limits written =
      let at = limits refl in
      neither at.1 (law count (omega (arith, within, at)) exact)
    where
      neither : {A B : Type 0} → (run_steps n count r).state.mode ≡ Runs
          → ((run_steps n count r).state.mode ≡ Over Stop.Lacking) ⊎ (((run_steps n count r).state.mode ≡ Over Stop.Exhausted) × A) → B
      neither runs (inl e) = absurd (let z : Runs ≡ Over Stop.Lacking = sym runs ∙ e in cc)
      neither runs (inr e) = absurd (let z : Runs ≡ Over Stop.Exhausted = sym runs ∙ e.0 in cc)
  stopped_before ending.HostMemory count exact over limits written = tt
  stopped_before ending.ReadFault count exact over limits written = tt
  stopped_before ending.WriteFault count exact over limits written = tt
