-- Believed: the states of Core, and its runs as trees of steps.
use Rattle.std.specs.Prelude.{ℕ, Bool, true, false, Option, Some, None, List, nat_eq, if◌then◌else◌}
use Rattle.cyc_words.specs.Events as events
use Rattle.cyc_words.specs.Events.{SourceEnding}
use Rattle.step_trees.specs.Trees.{Tree, Stops}
use Rattle.core_meaning.specs.Memory.{Spot, Content, Blank, Word, Null, Pointer, Birth, Memory}
use Rattle.core_meaning.specs.Core.{Statements}

-- ---- an activation

-- the temporaries, the regions of the blocks that it is in, the innermost first, the activation's number, and the memory
pub record Config : Type 0 where
  pub temps : ℕ → Content
  pub blocks : List ℕ
  pub own : ℕ
  pub memory : Memory

abbrev pub set_temp : ℕ → Content → (ℕ → Content) → ℕ → Content
set_temp t v temps k = (if nat_eq k t then v else temps k)

abbrev pub with_temp : ℕ → Content → Config → Config
with_temp t v c = record c { temps = set_temp t v c.temps }

abbrev pub with_memory : Memory → Config → Config
with_memory m c = record c { memory = m }

-- ---- steps

-- a visible event, or a call of a function by its number, or its return
pub data Event : Type 0 where
  Visible : events.Event → Event
  Called : ℕ → Event
  Returned : ℕ → Event

-- how a statement is left
pub data Exit : Type 0 where
  Falls : Exit
  Breaks : Exit
  Continues : Exit
  Returns : List Content → Exit

-- a call of a function, by its number, with what it is passed
pub record Invocation : Type 0 where
  pub function : ℕ
  pub arguments : List Content

-- a turn of a loop: its test, the temporary that holds what the test gave, and its body
pub record LoopTurn : Type 0 where
  pub test : Statements
  pub flag : ℕ
  pub body : Statements

-- the steps of a run of Core
abbrev pub Step : Type 0
Step = Tree Event Invocation (List Content) Memory LoopTurn Exit Config

-- a byte that was read, as it is seen
abbrev pub read_event : Option ℕ → Event
read_event byte = Visible (events.ByteRead byte)

-- what no rule gives a meaning
abbrev pub stuck : Step
stuck = Stops SourceEnding.Stuck

-- ---- what an operation needs

abbrev pub word_of : Content → (ℕ → Step) → Step
word_of (Word n) next = next n
word_of Blank next = stuck
word_of Null next = stuck
word_of (Pointer s b) next = stuck
word_of (Birth d) next = stuck

abbrev pub pointer_of : Content → (Spot → ℕ → Step) → Step
pointer_of (Pointer s b) next = next s b
pointer_of Blank next = stuck
pointer_of (Word n) next = stuck
pointer_of Null next = stuck
pointer_of (Birth d) next = stuck

abbrev pub birth_of : Content → (ℕ → Step) → Step
birth_of (Birth d) next = next d
birth_of Blank next = stuck
birth_of (Word n) next = stuck
birth_of Null next = stuck
birth_of (Pointer s b) next = stuck

abbrev pub needed : {A : Type 0} → Option A → (A → Step) → Step
needed None next = stuck
needed (Some a) next = next a

abbrev pub checked : Bool → Step → Step
checked true next = next
checked false next = stuck
