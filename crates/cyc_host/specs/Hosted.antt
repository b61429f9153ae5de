-- Believed: what a run between a reader and a writer does: the machine's run on the bytes that the reader gave, whose output goes to the writer.
use Rattle.std.specs.Prelude.{◌≡◌, ℕ, ◌<◌, ◌≤◌, ◌⊎◌, List, [], Option, None, take, Contains}
use Rattle.std.specs.Io.KnownBytes.{Appends, Consumes, IsAtEnd}
use Rattle.cyc_words.specs.Events.{AreBytes, output, ByteRead}
use Rattle.cyc_words.specs.Words.{word}
use Rattle.rv32_machine.specs.State.{State, Areas, Stop, Over, Runs}
use Rattle.rv32_machine.specs.Step.{step, Asks}
use Rattle.arena_laws.specs.Lawful.{Answer}
use Rattle.rv32_machine.specs.Run.{Run, run_steps, from}
use Rattle.rv32_machine.specs.Shortage.{IsShortage, asked_at}
use Rattle.cyc_host.specs.declared.ending.Ending.{Ending}
use Rattle.cyc_host.specs.declared.ending.Ending.TheVariants as ending

-- The bytes that a run has written reach the writer: all of them, or where a write failed a prefix of them.
abbrev pub Written : Ending → Option (List ℕ) → Option (List ℕ) → List ℕ → Type 0
Written ending.WriteFault old new bytes = (count : ℕ) × Appends old new (take count bytes)
Written (ending.Ended status) old new bytes = Appends old new bytes
Written (ending.Raised kind) old new bytes = Appends old new bytes
Written ending.Exhausted old new bytes = Appends old new bytes
Written ending.HostMemory old new bytes = Appends old new bytes
Written ending.StepLimit old new bytes = Appends old new bytes
Written (ending.Fault fault) old new bytes = Appends old new bytes
Written ending.ReadFault old new bytes = Appends old new bytes

-- The run in which `count` of at most `limit` steps have left the machine, and why it ended there. At a step limit the machine has made all the steps that were
-- allowed and runs on. A read fault leaves it waiting, by one step more, so that another run reads again. A write fault before a read leaves it waiting too.
abbrev pub EndsAs : Ending → Areas → (limit count : ℕ) → (left : Run) → (now : State) → Type 0
EndsAs (ending.Ended status) n limit count left now = (now ≡ left.state) × (left.state.mode ≡ Over (Stop.Ended (word status)))
EndsAs (ending.Raised kind) n limit count left now = (now ≡ left.state) × (left.state.mode ≡ Over (Stop.Raised kind))
EndsAs ending.Exhausted n limit count left now = (now ≡ left.state) × (left.state.mode ≡ Over Stop.Exhausted)
EndsAs ending.HostMemory n limit count left now = (now ≡ left.state) × (left.state.mode ≡ Over Stop.Lacking)
EndsAs (ending.Fault fault) n limit count left now = (now ≡ left.state) × (left.state.mode ≡ Over (Stop.Fault fault))
EndsAs ending.StepLimit n limit count left now = (now ≡ left.state) × (count ≡ limit) × (0 < limit → left.state.mode ≡ Runs)
EndsAs ending.ReadFault n limit count left now =
    (count < limit) × ((now ≡ (step n (left.answers 0) left.state).state) × ((step n (left.answers 0) left.state).shown ≡ Asks))
EndsAs ending.WriteFault n limit count left now = (now ≡ left.state) ⊎ ((count < limit) × (now ≡ (step n (left.answers 0) left.state).state))

-- Where the next step of a run asks the store, it shows Exhausted exactly where the store's counts refuse the call.
abbrev pub IsExact : Areas → Run → Type 0
IsExact n r = IsShortage n (asked_at n r.state) r.state.holdings (step n (r.answers 0) r.state).shown

-- A run of at most `limit` steps, from one state to another: on the bytes that the reader gave, which were all taken, and over a store that gave these answers.
-- The machine was told of the input's end only where the reader is at its end, and the store refused for lack of space exactly where its counts do.
pub record IsHosted (why : Ending) (n : Areas) (limit : ℕ) (old new : State) (reader_old reader_new writer_old writer_new : Option (List ℕ)) : Type 0 where
  pub input : List ℕ
  pub answers : ℕ → Answer
  pub count : ℕ
  pub within : count ≤ limit
  pub given : Consumes reader_old reader_new input
  pub bytes : AreBytes input
  pub taken : (run_steps n count (from old input answers)).input ≡ []
  pub written : Written why writer_old writer_new (output (run_steps n count (from old input answers)).events)
  pub ends : EndsAs why n limit count (run_steps n count (from old input answers)) new
  pub at_end : Contains (run_steps n count (from old input answers)).events (ByteRead None) → IsAtEnd reader_new
  pub exact : (k : ℕ) → k < count → IsExact n (run_steps n k (from old input answers))
