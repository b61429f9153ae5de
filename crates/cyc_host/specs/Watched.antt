-- Believed: what a watch says of a run: how many instructions began, at which address the last of them is, how often each word of the code was executed, how
-- often it called, which calls are active, and how often each request was made.
use Rattle.std.specs.Prelude.{◌≡◌, ℕ, zero, suc, ◌+◌, ◌-◌, ◌*◌, ◌/◌, ◌^◌, ◌<◌, ◌&&◌, ◌⊎◌, List, [], ◌∷◌, ◌++◌, Option, Some, if◌then◌else◌, length, map}
use Rattle.std.specs.Prelude.{nat_eq, nat_le, replicate, reverse, slice_index}
use Rattle.cyc_words.specs.Devices.{one_more}
use Rattle.rv32_isa.specs.Table.{decoded}
use Rattle.rv32_isa.specs.declared.instruction.Instr.{Instr}
use Rattle.rv32_isa.specs.declared.instruction.Instr.TheVariants as instr
use Rattle.rv32_machine.specs.State.{State, Areas, code_base, register_of, word_at}
use Rattle.rv32_machine.specs.Step.{a7}
use Rattle.rv32_machine.specs.Run.{Run, run_step, from}
use Rattle.cyc_host.specs.Hosted.{IsHosted}
use Rattle.cyc_host.specs.declared.actions.Action.{Action}
use Rattle.cyc_host.specs.declared.actions.Action.TheVariants.{Calls, Returns, Asks, Other}
use Rattle.cyc_host.specs.declared.calls.Active.{Active}
use Rattle.cyc_host.specs.declared.calls.CallStack.{CallStack}
use Rattle.cyc_host.specs.declared.counts.Count.{Count}
use Rattle.cyc_host.specs.declared.ending.Ending.{Ending}
use Rattle.cyc_host.specs.declared.ending.Ending.TheVariants as ending
use Rattle.cyc_host.specs.declared.watch.Watch.{Watch}

-- the states of the machine at which the first `count` instructions of a run begin, in their order
abbrev pub visited : Areas → (count : ℕ) → Run → List State
visited n zero r = []
visited n (suc count) r = r.state ∷ visited n count (run_step n r)

-- ---- what the instructions of a code do to the calls and requests of a run

-- A JAL that keeps in x1 where to return to is a call; a JALR by x1 that keeps nothing returns from it; an ECALL is a request.
abbrev pub action : Option Instr → Action
action (Some (instr.Jal to offset)) = (if nat_eq to 1 then Calls else Other)
action (Some (instr.Jalr to by offset)) = (if nat_eq to 0 && nat_eq by 1 then Returns else Other)
action (Some instr.Ecall) = Asks
action _ = Other

-- the word with this number of a code
abbrev pub code_word : (code : List ℕ) → (number : ℕ) → ℕ
code_word code number = word_at (λ at. slice_index code at) (4 * number)

-- what its first `count` words do
abbrev pub actions_of : (code : List ℕ) → (count : ℕ) → List Action
actions_of code zero = []
actions_of code (suc count) = actions_of code count ++ action (decoded (code_word code count)) ∷ []

abbrev pub nth_action : List Action → (number : ℕ) → Action
nth_action [] number = Other
nth_action (does ∷ rest) zero = does
nth_action (does ∷ rest) (suc number) = nth_action rest number

-- what the word at an address does; nothing outside the code
abbrev pub action_at : List Action → (at : ℕ) → Action
action_at actions at = (if nat_le code_base at then nth_action actions ((at - code_base) / 4) else Other)

-- ---- what is counted

-- What the words of the code do, how many instructions began, the address of the last of them, how often each word of the code was executed, how many calls
-- were made, and how many requests by their numbers. Each number stays at the greatest u64.
pub record Tally : Type 0 where
  pub actions : List Action
  pub steps : ℕ
  pub at : ℕ
  pub executed : List ℕ
  pub called : ℕ
  pub requests : List ℕ

-- that of a run of this code which hasn't begun; requests have the numbers 0 to 13
abbrev pub nothing : (code : List ℕ) → Tally
nothing code =
    record {
      actions = actions_of code (length code / 4);
      steps = 0;
      at = code_base;
      executed = replicate (length code / 4) 0;
      called = 0;
      requests = replicate 14 0;
    }

-- how often each word was executed
abbrev pub executed_in : List Count → List ℕ
executed_in counts = map (λ (count : Count). count.executed) counts

-- the tally that a watch has
abbrev pub tally_of : Watch → Tally
tally_of watch = record {
  actions = watch.actions.items;
  steps = watch.steps;
  at = watch.last.pc;
  executed = executed_in watch.counts.items;
  called = watch.calls.made;
  requests = watch.requests;
}

-- the counts where they are as they were
abbrev pub AreSameCounts : List Count → List Count → Type 0
AreSameCounts old new = executed_in new ≡ executed_in old

-- one more of what has this number, if there is such
abbrev pub counted_once : List ℕ → (number : ℕ) → List ℕ
counted_once [] number = []
counted_once (count ∷ counts) zero = one_more count ∷ counts
counted_once (count ∷ counts) (suc number) = count ∷ counted_once counts number

-- one more of the word at this address, if it is of the code
abbrev pub executed_at : ℕ → List ℕ → List ℕ
executed_at at counts = (if nat_le code_base at then counted_once counts ((at - code_base) / 4) else counts)

-- one more call, where there is one
abbrev pub called_by : Action → ℕ → ℕ
called_by Calls made = one_more made
called_by Returns made = made
called_by Asks made = made
called_by Other made = made

-- one more request of this number, where there is one
abbrev pub requested_by : Action → (number : ℕ) → List ℕ → List ℕ
requested_by Asks number requests = counted_once requests number
requested_by Calls number requests = requests
requested_by Returns number requests = requests
requested_by Other number requests = requests

-- the tally when one instruction more begins, at this state; x17 has the number of a request
abbrev pub take_in : Tally → State → Tally
take_in tally s =
    let does = action_at tally.actions s.pc in
    record {
      actions = tally.actions;
      steps = one_more tally.steps;
      at = s.pc;
      executed = executed_at s.pc tally.executed;
      called = called_by does tally.called;
      requests = requested_by does (register_of s a7) tally.requests;
    }

-- and when instructions begin at these states, one after the other
abbrev pub taken_in : Tally → List State → Tally
taken_in tally [] = tally
taken_in tally (s ∷ rest) = taken_in (take_in tally s) rest

-- ---- which calls are active, by the addresses of their instructions, the innermost first; each returns to the instruction behind it

-- those around the innermost
abbrev pub left_behind : List ℕ → List ℕ
left_behind [] = []
left_behind (innermost ∷ calls) = calls

-- without the innermost, where an instruction returns
abbrev pub left_by : Action → List ℕ → List ℕ
left_by Returns calls = left_behind calls
left_by Calls calls = calls
left_by Asks calls = calls
left_by Other calls = calls

-- with that at an address, where it calls
abbrev pub entered_by : Action → (at : ℕ) → List ℕ → List ℕ
entered_by Calls at calls = at ∷ calls
entered_by Returns at calls = calls
entered_by Asks at calls = calls
entered_by Other at calls = calls

-- those when the instruction at an address was executed
abbrev pub active_by : Action → (at : ℕ) → List ℕ → List ℕ
active_by does at calls = entered_by does at (left_by does calls)

-- and those when the instructions at these states were, one after the other
abbrev pub active_after : List Action → List State → List ℕ → List ℕ
active_after actions [] calls = calls
active_after actions (s ∷ rest) calls = active_after actions rest (active_by (action_at actions s.pc) s.pc calls)

-- What is known of the active calls: the outermost of them, the first one first, and how many more stand inside them, for which no host memory was left.
pub record Known : Type 0 where
  pub kept : List ℕ
  pub unkept : ℕ

abbrev pub no_calls : Known
no_calls = record { kept = []; unkept = 0 }

abbrev pub addresses : List Active → List ℕ
addresses active = map (λ (call : Active). call.at) active

abbrev pub known_calls : CallStack → Known
known_calls calls = record { kept = addresses calls.active.items; unkept = calls.unkept }

-- what a watch knows
abbrev pub known_of : Watch → Known
known_of watch = known_calls watch.calls

-- The active calls are those that are kept, and as many inside them as is said, unless these are so many that they aren't counted: the greatest u64.
pub record AreActive (known : Known) (calls : List ℕ) : Type 0 where
  pub inner : List ℕ
  pub many : known.unkept < 2 ^ 64 - 1 → length inner ≡ known.unkept
  pub all : known.unkept < 2 ^ 64 - 1 → calls ≡ inner ++ reverse known.kept

-- ---- what is taken in of a run

-- a watch has the counts that it had, but for those of calls
pub record HasSameCounts (old new : Watch) : Type 0 where
  pub sees : new.sees ≡ old.sees
  pub actions : new.actions ≡ old.actions
  pub steps : new.steps ≡ old.steps
  pub last : new.last ≡ old.last
  pub executed : AreSameCounts old.counts.items new.counts.items
  pub requests : new.requests ≡ old.requests

-- and knows as much of the calls
pub record IsSameTally (old new : Watch) : Type 0 where
  pub counts : HasSameCounts old new
  pub calls : new.calls ≡ old.calls

-- the instructions that begin at these states are taken in, one after the other
pub record AreTakenIn (states : List State) (old new : Tally) (known_old known_new : Known) : Type 0 where
  pub tally : new ≡ taken_in old states
  pub active : (calls : List ℕ) → AreActive known_old calls → AreActive known_new (active_after old.actions states calls)

-- How many instructions began in a run of `count` steps. The instruction at which a read failed began and isn't counted as a step; so too the one that reads,
-- where what was gathered before it couldn't be written.
abbrev pub AreBegun : Ending → (count begun : ℕ) → Type 0
AreBegun (ending.Ended status) count begun = begun ≡ count
AreBegun (ending.Raised kind) count begun = begun ≡ count
AreBegun ending.Exhausted count begun = begun ≡ count
AreBegun ending.HostMemory count begun = begun ≡ count
AreBegun ending.StepLimit count begun = begun ≡ count
AreBegun (ending.Fault fault) count begun = begun ≡ count
AreBegun ending.ReadFault count begun = begun ≡ count + 1
AreBegun ending.WriteFault count begun = (begun ≡ count) ⊎ (begun ≡ count + 1)

-- A run between a reader and a writer, of which each instruction that begins is taken in, and nothing else.
pub record IsWatched (why : Ending) (n : Areas) (limit : ℕ) (old new : State) (reader_old reader_new writer_old writer_new : Option (List ℕ))
    (before after : Tally) (known_before known_after : Known) : Type 0 where
  pub hosted : IsHosted why n limit old new reader_old reader_new writer_old writer_new
  pub begun : ℕ
  pub counted : AreBegun why hosted.count begun
  pub taken : AreTakenIn (visited n begun (from old hosted.input hosted.answers)) before after known_before known_after
