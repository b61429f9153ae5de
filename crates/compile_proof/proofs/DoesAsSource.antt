-- A machine that begins with the lines of a program's lowered Core does what the source does.
use Rattle.std.proofs.Common.{◌≡◌, ℕ, ⊎_elim, List, [], ◌∷◌, Option, refl, sym, ap, ◌∙◌, subst}
use Rattle.cyc_words.specs.Events as events
use Rattle.cyc_words.specs.Events.{AreBytes, SourceEvent, SourceEnding}
use Rattle.cyc_tree.specs.Tree.{Program}
use Rattle.source_meaning.specs.Steps.{World, Routine}
use Rattle.source_meaning.specs.Programs.{world_of, source}
use Rattle.core_meaning.specs.Steps as core_steps
use Rattle.core_meaning.specs.Meaning.{core as core_source}
use Rattle.rv32_machine.specs.State.{Areas, State}
use Rattle.rv32_machine.specs.Run.{run_steps, from, ending_of}
use Rattle.rv32_machine.specs.Implements.{Meaning, Implements, AgreesIn, Reaches}
use Rattle.core_lines.specs.Running.{named, core_meaning, AreBounded, IsNeverStuck}
use Rattle.source_lowering.specs.Programs.{program_code}
use Rattle.source_lowering.specs.Lowerable.{IsLowerable}
use Rattle.source_lowering.specs.Simulation.{SameEvent, BothVisible, BothCalled, BothReturned, SameEvents, SameOutcome}
use Rattle.source_lowering.proofs.Programs.{programs_are_the_same}
use Rattle.compile_proof.specs.Promise.{meaning_of, name_in, names_of, DoesWithin, AreNamedApart}
use Rattle.selectable_proof.proofs.Selectable.{selectable}

-- ---- one meaning for another

-- two meanings with the same events and endings
record SameMeaning (m k : Meaning) : Type 0 where
  events : (fuel : ℕ) → m.events fuel ≡ k.events fuel
  ending : (fuel : ℕ) → m.ending fuel ≡ k.ending fuel

implements_same : (bound : List ℕ → ℕ) (n : Areas) (s : State) (input : List ℕ) (m k : Meaning) → SameMeaning m k → Implements bound n s input m
    → Implements bound n s input k
implements_same bound n s input m k same does = record {
  each_run = λ answers count.
      let one = does.each_run answers count in
      let r = run_steps n count (from s input answers) in (
        one.0,
        subst (λ e. AgreesIn bound n (ending_of r) r.events e (k.ending one.0)) (same.events one.0)
            (subst (λ e. AgreesIn bound n (ending_of r) r.events (m.events one.0) e) (same.ending one.0) one.1),
      );
  each_fuel = λ fuel.
      let one = does.each_fuel fuel in (
        one.0,
        λ answers. subst (λ e. Reaches (run_steps n one.0 (from s input answers)) (record { events = λ f. e; ending = λ f. k.ending fuel }) fuel)
            (same.events fuel)
            (subst (λ e. Reaches (run_steps n one.0 (from s input answers)) (record { events = λ f. m.events fuel; ending = λ f. e }) fuel) (same.ending fuel)
            (one.1 answers)),
      );
  lawful = does.lawful;
}

-- ---- the source for Core

one_named : (w : World) (e : SourceEvent) (f : core_steps.Event) (es : List SourceEvent) (fs : List core_steps.Event) → SameEvent w e f
    → named (names_of w.functions) fs ≡ es → named (names_of w.functions) (f ∷ fs) ≡ e ∷ es
one_named w _ _ es fs (BothVisible e) h = ap (λ (z : List SourceEvent). events.Visible e ∷ z) h
one_named w _ _ es fs (BothCalled number f is) h =
    ap (λ (z : List SourceEvent). events.Called (names_of w.functions number) ∷ z) h ∙
    ap (λ (z : Option Routine). events.Called (name_in z) ∷ es) is
one_named w _ _ es fs (BothReturned number f is) h =
    ap (λ (z : List SourceEvent). events.Returned (names_of w.functions number) ∷ z) h ∙
    ap (λ (z : Option Routine). events.Returned (name_in z) ∷ es) is

-- the events of Core, with the functions' names, are the source's
all_named : (w : World) (es : List SourceEvent) (fs : List core_steps.Event) → SameEvents w es fs → named (names_of w.functions) fs ≡ es
all_named w [] [] h = refl
all_named w (e ∷ es) (f ∷ fs) h = one_named w e f es fs h.0 (all_named w es fs h.1)
all_named w [] (f ∷ fs) h = absurd h
all_named w (e ∷ es) [] h = absurd h

-- an input of bytes
module _ (p : Program) (lowerable : IsLowerable p) (input : List ℕ) (bytes : AreBytes input) (sound : IsNeverStuck (meaning_of p input)) where
  abbrev w : World
  w = world_of p

  both : (fuel : ℕ) → SameOutcome w (source p input fuel) (core_source (program_code p) input fuel)
  both fuel =
      ⊎_elim
      (λ (stuck : (source p input fuel).ending ≡ SourceEnding.Stuck). absurd (sound fuel stuck))
      (λ (same : SameOutcome w (source p input fuel) (core_source (program_code p) input fuel)). same)
      (programs_are_the_same p lowerable input bytes fuel)

  core_is_source : SameMeaning (core_meaning (names_of w.functions) (program_code p) input) (meaning_of p input)
  core_is_source = record {
    events = λ fuel. all_named w (source p input fuel).events (core_source (program_code p) input fuel).events (both fuel).events;
    ending = λ fuel. sym (both fuel).ending;
  }

  core_sound : IsNeverStuck (core_meaning (names_of w.functions) (program_code p) input)
  core_sound fuel stuck = sound fuel ((both fuel).ending ∙ stuck)

-- Lines of the Core of a program that is taken do what its source does, where no two functions have one name, with all bounds that its frames are within.
pub does_within : (bound : List ℕ → ℕ) (p : Program) → IsLowerable p → AreNamedApart (world_of p).functions
    → AreBounded (names_of (world_of p).functions) bound (program_code p).functions → DoesWithin bound p
does_within bound p lowerable named_apart bounded lines are wide each n places s input bytes begins sound =
    let names = names_of (world_of p).functions in
    implements_same bound n s input (core_meaning names (program_code p) input) (meaning_of p input) (core_is_source p lowerable input bytes sound)
    (are.does (selectable p lowerable) wide each names bound n places s input bytes bounded begins (core_sound p lowerable input bytes sound))
