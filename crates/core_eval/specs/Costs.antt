-- View of code: how many moves there are at most before a unit is due or the run is over: each move has fewer after it.
use Rattle.std.specs.Prelude.{ℕ, ◌+◌, ◌≤◌, List, [], ◌∷◌}
use Rattle.core_meaning.specs.Core.{Statement, Do, If, While, Block, Leave as LeaveOf, Statements, NoStatements, MoreStatements}
use Rattle.core_meaning.specs.Memory.{Content, Word}
use Rattle.core_meaning.specs.Steps.{Falls, Returns}
use Rattle.cyc_core.specs.declared.operation.Operation.{Operation}
use Rattle.cyc_core.specs.Trees.{operation_tree}
use Rattle.core_eval.specs.declared.value.Value.{Value}
use Rattle.core_eval.specs.declared.frame.Frame.{Frame}
use Rattle.core_eval.specs.declared.memory.Memory as code
use Rattle.core_eval.specs.Pendings.{Task, Follow, Execute, Leave, Wait, Then, Body, Next, Go}
use Rattle.core_eval.specs.Standing.{Known, Gives, StandsStill, known_of}

abbrev mutual
  pub statement_cost : Statement → ℕ
  statement_cost (If t these those) = statements_cost these + statements_cost those + 1
  statement_cost (While test t body) = statements_cost test + 2
  statement_cost (Block locals body) = statements_cost body + 2
  statement_cost (LeaveOf body) = statements_cost body + 2
  statement_cost _ = 1

  pub statements_cost : Statements → ℕ
  statements_cost NoStatements = 1
  statements_cost (MoreStatements s ss) = statement_cost s + statements_cost ss + 2

abbrev pub task_cost : Task → ℕ
task_cost (Follow ss) = statements_cost ss
task_cost (Execute s) = statement_cost s
task_cost (Leave exit) = 0

abbrev pub wait_cost : Wait → ℕ
wait_cost (Then ss) = statements_cost ss + 1
wait_cost (Body test flag body) = statements_cost test + 3
wait_cost _ = 1

abbrev pub waits_cost : List Wait → ℕ
waits_cost [] = 0
waits_cost (w ∷ ws) = wait_cost w + waits_cost ws

-- this move counts too
abbrev pub next_cost : Next → ℕ
next_cost (Go task) = task_cost task + 1
next_cost _ = 0

-- A move: whatever step is stood for before, the same is stood for afterwards; and fewer moves are left before a unit is due.
pub record IsMove (task : Task) (ws : List Wait) (known : Known) (next : Next) (ws' : List Wait) (known' : Known) : Type 0 where
  pub still : StandsStill (Go task) ws known next ws' known'
  pub fewer : next_cost next + waits_cost ws' ≤ task_cost task + waits_cost ws

-- What waits ends with the function that it is within, whatever that returns.
abbrev pub EndsWithin : Wait → code.Memory → code.Memory → Type 0
EndsWithin w m m' =
    (vs : List Content) (ws : List Wait) (frame : Frame)
    → IsMove (Leave (Returns vs)) (w ∷ ws) (known_of frame m) (Go (Leave (Returns vs))) ws (known_of frame m')

-- an operation is done, and nothing else
abbrev pub IsDone : Operation → Known → Known → Type 0
IsDone o known known' = (ws : List Wait) → IsMove (Execute (Do (operation_tree o))) ws known (Go (Leave Falls)) ws known'

-- an operation gives a temporary a word, and nothing else changes
abbrev pub GivesWord : Operation → Frame → code.Memory → (t word : ℕ) → Type 0
GivesWord o frame m t word =
    (temps : List Value) → Gives t (Word word) frame.temps.items temps → IsDone o (known_of frame m) (record (known_of frame m) { temps = temps })
