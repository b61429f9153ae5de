-- Believed: when a machine with lines of code does what a program of Core does.
use Rattle.std.specs.Prelude.{◌≡◌, ◌≢◌, ℕ, zero, suc, ◌+◌, ◌≤◌, ◌<◌, ◌^◌, ◌%◌, List, [], ◌∷◌, Option, Some, None, nat_eq, if◌then◌else◌, slice_get}
use Rattle.cyc_words.specs.Events.{AreBytes, SourceEvent, SourceEnding}
use Rattle.cyc_words.specs.Events as source
use Rattle.step_trees.specs.Trees.{Outcome, Bodies, run}
use Rattle.core_meaning.specs.Memory.{Region, Frame, Own, Born, Content, Part, Memory}
use Rattle.core_meaning.specs.Core.{Function, Datum, Program}
use Rattle.core_meaning.specs.Steps.{Config, Event, Visible, Called, Returned, Exit, Invocation, LoopTurn, Step, read_event}
use Rattle.core_meaning.specs.Meaning.{called, turned, datum_parts, core}
use Rattle.rv32_machine.specs.State.{State, Areas, Runs, code_base, data_base, stack_end}
use Rattle.rv32_machine.specs.Arrays.{longest_stack}
use Rattle.rv32_machine.specs.Implements.{Meaning, Implements}
use Rattle.arena_laws.specs.Counts.{block_limit}
use Rattle.core_lines.specs.declared.line.Line.{Line}
use Rattle.core_lines.specs.Lines.{HasLines, IsPlace}
use Rattle.core_lines.specs.Lies.{Maps, Shows, read}
use Rattle.core_lines.specs.Selected.{offsets_from, end_from, datum_locals, frame_bytes}

-- ---- names

-- events with the names of functions in the place of their numbers
abbrev pub named : (ℕ → List ℕ) → List Event → List SourceEvent
named names [] = []
named names (Visible e ∷ es) = source.Visible e ∷ named names es
named names (Called f ∷ es) = source.Called (names f) ∷ named names es
named names (Returned f ∷ es) = source.Returned (names f) ∷ named names es

abbrev pub core_bodies : List Function → Bodies Event Invocation (List Content) Memory LoopTurn Exit Config
core_bodies functions = record { read = read_event; call = called functions; turn = turned }

-- what steps of Core come to with `fuel` units, where these are the functions
abbrev pub core_run : List Function → ℕ → Step → List ℕ → Outcome Event
core_run functions fuel step input = run (core_bodies functions) fuel step input

-- what a program of Core does on an input, where its functions have these names
abbrev pub core_meaning : (ℕ → List ℕ) → Program → List ℕ → Meaning
core_meaning names p input =
    record { events = λ fuel. named names (core p input fuel).events; ending = λ fuel. (core p input fuel).ending }

-- ---- the start

-- the offset of each object of the data, behind the data's first address
abbrev pub data_offsets : List Datum → List ℕ
data_offsets ds = offsets_from 0 (datum_locals ds)

abbrev pub data_end : List Datum → ℕ
data_end ds = end_from 0 (datum_locals ds)

abbrev pub in_data : Option ℕ → Option ℕ
in_data None = None
in_data (Some offset) = Some (data_base + offset)

-- only the data have addresses, and the heap's number is 0
abbrev pub first_base : List ℕ → Region → ℕ → Option ℕ
first_base offsets (Born zero) object = in_data (slice_get offsets object)
first_base offsets (Born (suc d)) object = None
first_base offsets (Frame k) object = None
first_base offsets (Own k) object = None

abbrev pub first_maps : List ℕ → Maps
first_maps offsets = record { base = λ r o. first_base offsets r o; number = λ d. if nat_eq d 0 then Some 0 else None }

-- the bytes of a part of a global or string show what it holds first
abbrev pub ShowsData : List Datum → List ℕ → (ℕ → ℕ) → Type 0
ShowsData ds offsets bytes =
    (object cell part offset : ℕ) (p : Part) → datum_parts ds object cell part ≡ Some p → slice_get offsets object ≡ Some offset
    → Shows (first_maps offsets) p.content (read bytes (data_base + offset + p.offset) p.width)

-- A machine that begins with the first of the lines, and with the program's data: it runs, the stack pointer is the end of its stack of whole pages, nothing
-- was asked of its store, which has the arena's pages, and a region's blocks may be as long as the store's.
pub record Begins (n : Areas) (places : ℕ → ℕ) (lines : List Line) (ds : List Datum) (s : State) : Type 0 where
  pub runs : s.mode ≡ Runs
  pub at_first : s.pc ≡ code_base
  pub pointer : s.registers 2 ≡ stack_end n
  pub words : (register : ℕ) → s.registers register < 2 ^ 32
  pub small : (at : ℕ) → s.bytes at < 256
  pub unheld : (number : ℕ) → s.holdings.standing number ≡ None
  pub has_pages : s.holdings.pages ≡ n.pages
  pub code_within : n.code ≤ 2 ^ 20
  pub statics_within : n.statics ≤ 2 ^ 20
  pub stack_within : n.stack ≤ longest_stack
  pub stack_pages : n.stack % 4096 ≡ 0
  pub blocks : n.block_limit ≡ block_limit
  pub pages_within : n.pages ≤ 4096
  pub labels : (label : ℕ) → IsPlace (places label)
  pub has : HasLines n s.bytes places 0 lines
  pub data_within : data_end ds ≤ n.statics
  pub shows_data : ShowsData ds (data_offsets ds) s.bytes

-- ---- the promise

-- it is never out of order
abbrev pub IsNeverStuck : Meaning → Type 0
IsNeverStuck m = (fuel : ℕ) → m.ending fuel ≢ SourceEnding.Stuck

-- each function's frame is within a bound on frames by names
abbrev pub AreBounded : (ℕ → List ℕ) → (List ℕ → ℕ) → List Function → Type 0
AreBounded names bound functions = (number : ℕ) (f : Function) → slice_get functions number ≡ Some f → frame_bytes f ≤ bound (names number)

-- A machine that begins with the lines does what the program does, on each input of bytes on which it is never out of order, whatever its store answers, where
-- its functions have any names, and their frames are within a bound by these.
abbrev pub DoesAsCore : Program → List Line → Type 0
DoesAsCore p lines =
    (names : ℕ → List ℕ) (bound : List ℕ → ℕ) (n : Areas) (places : ℕ → ℕ) (s : State) (input : List ℕ) → AreBytes input
    → AreBounded names bound p.functions → Begins n places lines p.data_objects s
    → IsNeverStuck (core_meaning names p input) → Implements bound n s input (core_meaning names p input)
