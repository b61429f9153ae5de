-- Believed: what is promised of a program whose functions fit so many bytes of stack.
use Rattle.std.specs.Prelude.{◌≡◌, ◌≢◌, ℕ, ◌≤◌, ◌⊎◌, List, ◌∷◌, ◌++◌, []}
use Rattle.cyc_words.specs.Events.{Event, SourceEvent, Called, Request, MachineEnding}
use Rattle.arena_laws.specs.Lawful.{Answer}
use Rattle.cyc_tree.specs.Tree.{Program}
use Rattle.source_meaning.specs.Programs.{source}
use Rattle.rv32_machine.specs.State.{Areas, State}
use Rattle.rv32_machine.specs.Run.{ending_of, from, run_steps}
use Rattle.rv32_machine.specs.Implements.{Meaning, Implements, HasNoFrame, IsCut, IsRefused, active_after, frames}
use Rattle.exhaustion_proof.specs.Room.{HasRoom, WantsPages}
use Rattle.stack_proof.specs.Fits.{ProgramFits}

-- On each input and with each amount of fuel, at each call that is seen the frames of the active functions and of the called one fit the bytes that `main`
-- fits.
abbrev pub StackSuffices : Type 0
StackSuffices =
    (bound : List ℕ → ℕ) (p : Program) (n : ℕ) → ProgramFits bound p n → (input : List ℕ) (fuel : ℕ)
    (before : List SourceEvent) (name : List ℕ) (rest : List SourceEvent) → (source p input fuel).events ≡ before ++ Called name ∷ rest
    → frames bound (name ∷ active_after [] before) ≤ n

-- a program with a stack that it fits
pub record FitsStack (bound : List ℕ → ℕ) (p : Program) (stack : ℕ) : Type 0 where
  pub bytes : ℕ
  pub fits : ProgramFits bound p bytes
  pub enough : bytes ≤ stack

-- what a program does on an input
abbrev pub meaning_of : Program → List ℕ → Meaning
meaning_of p input = record { events = λ fuel. (source p input fuel).events; ending = λ fuel. (source p input fuel).ending }

-- a machine that does what the program does is never out of stack, whatever its store answers
abbrev pub NeverOutOfStack : Type 0
NeverOutOfStack =
    (bound : List ℕ → ℕ) (p : Program) (n : Areas) (s : State) (input : List ℕ) → FitsStack bound p n.stack → Implements bound n s input (meaning_of p input)
    → (answers : ℕ → Answer) (count : ℕ) → ending_of (run_steps n count (from s input answers)) ≢ MachineEnding.NoStack

-- there are pages for each of these events
abbrev pub HasPages : ℕ → List SourceEvent → Type 0
HasPages count all =
    (before : List SourceEvent) (next : SourceEvent) (rest : List SourceEvent) → all ≡ before ++ next ∷ rest → WantsPages count before next → ⊥

-- there is room for its events where there are pages for them
abbrev pub RoomIsPages : Type 0
RoomIsPages =
    (bound : List ℕ → ℕ) (p : Program) (count stack : ℕ) (input : List ℕ) (fuel : ℕ) → FitsStack bound p stack
    → HasPages count (source p input fuel).events → HasRoom bound count stack (source p input fuel).events

-- a run of it that was cut for want of room was cut at a request of the store
abbrev pub CutsAreRequests : Type 0
CutsAreRequests =
    (bound : List ℕ → ℕ) (p : Program) (stack : ℕ) (input : List ℕ) (fuel : ℕ) (shown : List Event) → FitsStack bound p stack
    → IsCut shown (source p input fuel).events
    (λ before next. ((q : Request) × IsRefused q next) ⊎ HasNoFrame bound stack (active_after [] before) next)
    → IsCut shown (source p input fuel).events (λ before next. (q : Request) × IsRefused q next)
