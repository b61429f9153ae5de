-- A run that may make enough steps to come to its meaning's end: it ends there, unless it is cut short.
use Rattle.std.proofs.Common.{◌≡◌, ℕ, ◌+◌, ◌-◌, ◌≤◌, List, Option, inl, inr, true, refl, sym, ap, subst, ◌∙◌, arith, add_comm, add-sub_of_le}
use Rattle.std.specs.Io.KnownBytes.{Appends}
use Rattle.cyc_words.specs.Words.{word}
use Rattle.cyc_words.specs.Events.{Event, visible, output, SourceEnding, MachineEnding}
use Rattle.cyc_tree.specs.Tree.{Program}
use Rattle.source_meaning.specs.Programs.{source}
use Rattle.rv32_machine.specs.State.{Areas, Stop, Mode, Runs, Over}
use Rattle.rv32_machine.specs.Run.{Run, run_steps, ending_in, ending_of}
use Rattle.rv32_machine.specs.Implements.{is_cut_short, EndsWith, Reaches}
use Rattle.rv32_machine.proofs.LongerRuns.{run_more, over_steps}
use Rattle.cyc_host.specs.declared.ending.Ending.{Ending}
use Rattle.cyc_host.specs.declared.ending.Ending.TheVariants as ending
use Rattle.cyc_host.specs.Hosted.{Written}
use Rattle.compile_proof.specs.Promise.{meaning_of}
use Rattle.cycc_driver.specs.Outcome.{IsOver, EndsOrIsStopped}
use Rattle.cycc_driver.proofs.Exhaustions.{ending_stop}
use Rattle.cycc_driver.proofs.Longer.{reached_is_over}

-- ---- how a run has ended that is as far as a meaning that is over

-- what is said of a machine's ending where it is no cut: the meaning's ending and events
abbrev EndsLike : MachineEnding → SourceEnding → List Event → Run → Type 0
EndsLike (MachineEnding.Ended status) e meant r = (e ≡ SourceEnding.Ended status) × (r.events ≡ meant)
EndsLike (MachineEnding.Raised kind) e meant r = (e ≡ SourceEnding.Raised kind) × (r.events ≡ meant)
EndsLike (MachineEnding.Refused q) e meant r = Unit {0}
EndsLike MachineEnding.NoStack e meant r = Unit {0}
EndsLike MachineEnding.Lacking e meant r = Unit {0}
EndsLike (MachineEnding.Fault fault) e meant r = ⊥
EndsLike MachineEnding.Running e meant r = ⊥

cut_like : (end : MachineEnding) (e : SourceEnding) (meant : List Event) (r : Run) → is_cut_short end ≡ true → EndsLike end e meant r
cut_like (MachineEnding.Ended status) e meant r cut = absurd (cc cut)
cut_like (MachineEnding.Raised kind) e meant r cut = absurd (cc cut)
cut_like (MachineEnding.Refused q) e meant r cut = tt
cut_like MachineEnding.NoStack e meant r cut = tt
cut_like MachineEnding.Lacking e meant r cut = tt
cut_like (MachineEnding.Fault fault) e meant r cut = absurd (cc cut)
cut_like MachineEnding.Running e meant r cut = absurd (cc cut)

ends_like : (e : SourceEnding) (meant : List Event) (r : Run) → IsOver e → EndsWith e meant r → EndsLike (ending_of r) e meant r
ends_like (SourceEnding.Ended status) meant r over ends =
    subst (λ (end : MachineEnding). EndsLike end (SourceEnding.Ended status) meant r) (sym ends.0) (refl, ends.1)
ends_like (SourceEnding.Raised kind) meant r over ends =
    subst (λ (end : MachineEnding). EndsLike end (SourceEnding.Raised kind) meant r) (sym ends.0) (refl, ends.1)
ends_like SourceEnding.Running meant r over ends = absurd over
ends_like SourceEnding.Stuck meant r over ends = absurd over

-- ---- so many steps, or others

module _ (n : Areas) (r : Run) (program : Program) (input : List ℕ) (fuel enough : ℕ) (old new : Option (List ℕ))
    (over : IsOver (source program input fuel).ending) (reached : Reaches (run_steps n enough r) (meaning_of program input) fuel) where
  abbrev meant : List Event
  meant = visible (source program input fuel).events

  -- where the run is over after other steps too, it is so as far as the meaning
  same_end : (count : ℕ) (why : Stop) → (run_steps n count r).state.mode ≡ Over why → run_steps n enough r ≡ run_steps n count r
  same_end count why is_over =
      let o = reached_is_over (run_steps n enough r) (meaning_of program input) fuel over reached in
      sym (over_steps n count (run_steps n enough r) o.0 o.1) ∙ sym (run_more n enough count r) ∙ ap (λ k. run_steps n k r) (add_comm enough count)
      ∙ run_more n count enough r ∙ over_steps n enough (run_steps n count r) why is_over

  reaches_like : (x : Run) → Reaches x (meaning_of program input) fuel → EndsLike (ending_of x) (source program input fuel).ending meant x
  reaches_like x (inl cut) = cut_like (ending_of x) (source program input fuel).ending meant x cut
  reaches_like x (inr (begins, ends)) = ends_like (source program input fuel).ending meant x over ends

  -- so it has ended as the meaning does
  over_like : (count : ℕ) (why : Stop) → (run_steps n count r).state.mode ≡ Over why
      → EndsLike (ending_in (Over why) (run_steps n count r).refused) (source program input fuel).ending meant (run_steps n count r)
  over_like count why is_over =
      let now = subst (λ (x : Run). Reaches x (meaning_of program input) fuel) (same_end count why is_over) reached in
      subst (λ (m : Mode). EndsLike (ending_in m (run_steps n count r).refused) (source program input fuel).ending meant (run_steps n count r)) is_over
      (reaches_like (run_steps n count r) now)

  -- and doesn't run on after as many steps as were enough
  not_running : (count : ℕ) → enough ≤ count → (run_steps n count r).state.mode ≡ Runs → ⊥
  not_running count within runs =
      let o = reached_is_over (run_steps n enough r) (meaning_of program input) fuel over reached in
      let later = ap (λ k. run_steps n k r) (sym (add-sub_of_le within)) ∙ run_more n enough (count - enough) r
      ∙ over_steps n (count - enough) (run_steps n enough r) o.0 o.1 in
      let same : Runs ≡ Over o.0 = sym runs ∙ ap (λ (x : Run). x.state.mode) later ∙ o.1 in
      absurd (cc)

  pub ends_with_enough : (why : Ending) (count : ℕ) → ((stop : Stop) → ending_stop why stop → (run_steps n count r).state.mode ≡ Over stop)
      → (why ≡ ending.StepLimit → (enough ≤ count) × ((run_steps n count r).state.mode ≡ Runs))
      → Written why old new (output (run_steps n count r).events) → EndsOrIsStopped why (source program input fuel) old new
  ends_with_enough (ending.Ended status) count at limits written =
      let like = over_like count (Stop.Ended (word status)) (at (Stop.Ended (word status)) refl) in
      (like.0, subst (λ (es : List Event). Appends old new (output es)) like.1 written)
  ends_with_enough (ending.Raised kind) count at limits written =
      let like = over_like count (Stop.Raised kind) (at (Stop.Raised kind) refl) in
      (like.0, subst (λ (es : List Event). Appends old new (output es)) like.1 written)
  ends_with_enough (ending.Fault fault) count at limits written = over_like count (Stop.Fault fault) (at (Stop.Fault fault) refl)
  ends_with_enough ending.StepLimit count at limits written = let l = limits refl in not_running count l.0 l.1
  ends_with_enough ending.Exhausted count at limits written = tt
  ends_with_enough ending.HostMemory count at limits written = tt
  ends_with_enough ending.ReadFault count at limits written = tt
  ends_with_enough ending.WriteFault count at limits written = tt
