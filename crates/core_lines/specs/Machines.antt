-- Believed: a machine as a program runs on it: its state, with what its run keeps of its store's calls.
use Rattle.std.specs.Prelude.{ℕ, List, [], None}
use Rattle.cyc_words.specs.Events.{Event}
use Rattle.arena_laws.specs.Holdings.{Holdings}
use Rattle.arena_laws.specs.Lawful.{Answer}
use Rattle.rv32_machine.specs.State.{State, Mode}
use Rattle.rv32_machine.specs.Ledger.{Ledger}
use Rattle.rv32_machine.specs.Run.{Run}

-- what the store holds beside its bytes, and what was born and granted in the run so far
pub record Store : Type 0 where
  pub holdings : Holdings
  pub ledger : Ledger

pub record Machine : Type 0 where
  pub pc : ℕ
  pub registers : ℕ → ℕ
  pub bytes : ℕ → ℕ
  pub store : Store
  pub mode : Mode

abbrev pub state_of : Machine → State
state_of s = record { pc = s.pc; registers = s.registers; bytes = s.bytes; holdings = s.store.holdings; mode = s.mode }

-- the run that is at a machine, with an input, what the store would answer, and what was shown; nothing was refused
abbrev pub run_of : Machine → List ℕ → (ℕ → Answer) → List Event → Run
run_of s input answers events =
    record { state = state_of s; input = input; answers = answers; events = events; ledger = s.store.ledger; refused = None }

-- one that has shown nothing yet
abbrev pub run_from : Machine → List ℕ → (ℕ → Answer) → Run
run_from s input answers = run_of s input answers []
