-- View of two runs side by side: when a program and its Core show the same and end alike, and the laws of lowering: that they do, and how large frames and code
-- are.
use Rattle.std.specs.Prelude.{◌≡◌, ℕ, ◌≤◌, ◌⊎◌, List, [], ◌∷◌, Some, slice_get}
use Rattle.cyc_words.specs.Events as events
use Rattle.cyc_words.specs.Events.{AreBytes, SourceEnding}
use Rattle.cyc_tree.specs.Tree.{Program}
use Rattle.step_trees.specs.Trees.{Outcome}
use Rattle.source_meaning.specs.Steps.{Routine, World}
use Rattle.source_meaning.specs.Programs.{source, world_of}
use Rattle.core_meaning.specs.Steps as core_steps
use Rattle.core_meaning.specs.Meaning.{core}
use Rattle.source_lowering.specs.Programs.{program_code}
use Rattle.source_lowering.specs.Lowerable.{IsLowerable}
use Rattle.source_lowering.specs.Bounds.{FramesFit, code_bound}
use Rattle.core_meaning.specs.Bounds.{core_code}

-- an event of Core is the source's; functions by their numbers and their names
pub data SameEvent (w : World) : events.SourceEvent → core_steps.Event → Type 0 where
  BothVisible : (e : events.Event) → SameEvent w (events.Visible e) (core_steps.Visible e)
  BothCalled : (number : ℕ) (f : Routine) → slice_get w.functions number ≡ Some f → SameEvent w (events.Called f.name) (core_steps.Called number)
  BothReturned : (number : ℕ) (f : Routine) → slice_get w.functions number ≡ Some f → SameEvent w (events.Returned f.name) (core_steps.Returned number)

abbrev pub SameEvents : World → List events.SourceEvent → List core_steps.Event → Type 0
SameEvents w [] [] = Unit {0}
SameEvents w (e ∷ es) (f ∷ fs) = SameEvent w e f × SameEvents w es fs
SameEvents w [] (f ∷ fs) = ⊥
SameEvents w (e ∷ es) [] = ⊥

pub record SameOutcome (w : World) (s : Outcome events.SourceEvent) (c : Outcome core_steps.Event) : Type 0 where
  pub events : SameEvents w s.events c.events
  pub ending : s.ending ≡ c.ending

-- On each input of bytes and with each amount of fuel a program that is taken is Stuck, or its Core shows the same events, calls and returns too, and ends
-- alike.
abbrev pub ProgramsAreTheSame : Type 0
ProgramsAreTheSame =
    (p : Program) → IsLowerable p → (input : List ℕ) → AreBytes input → (n : ℕ)
    → ((source p input n).ending ≡ SourceEnding.Stuck) ⊎ SameOutcome (world_of p) (source p input n) (core (program_code p) input n)

-- each function's frame is within the bound of the source's function
abbrev pub FramesAreBounded : Type 0
FramesAreBounded = (p : Program) → IsLowerable p → FramesFit (world_of p) (world_of p).functions

-- so is the code of the whole
abbrev pub CodeIsBounded : Type 0
CodeIsBounded = (p : Program) → IsLowerable p → core_code (program_code p) ≤ code_bound (world_of p).functions
