-- View of code: what an evaluator has still to do, as steps of Core.
use Rattle.std.specs.Prelude.{ℕ, List, [], ◌∷◌, Option, Some, None, map, reverse}
use Rattle.cyc_words.specs.Events as events
use Rattle.cyc_words.specs.Events.{SourceEnding}
use Rattle.cyc_words.specs.declared.faults.Kind.{Kind}
use Rattle.step_trees.specs.Trees.{Stops, Reads, Pays, Calls, Turns}
use Rattle.core_meaning.specs.Memory as memory
use Rattle.core_meaning.specs.Memory.{Content, Word}
use Rattle.core_meaning.specs.Core as core
use Rattle.core_meaning.specs.Core.{Statements, NoStatements, MoreStatements}
use Rattle.core_meaning.specs.Steps as steps
use Rattle.core_meaning.specs.Steps.{Config, with_temp, with_memory, Exit, Step, stuck}
use Rattle.core_meaning.specs.Operations.{byte_word, says}
use Rattle.core_meaning.specs.Meaning.{falls_to, branch, with_results, out_of_block, left_by, after_turn, statement, statements, left, status_of}
use Rattle.cyc_core.specs.Trees.{optional_tree, body_tree}
use Rattle.core_eval.specs.declared.value.Value.{Value}
use Rattle.core_eval.specs.declared.value.Value.TheVariants as value
use Rattle.core_eval.specs.declared.caller.Temps.{Temps}
use Rattle.core_eval.specs.declared.caller.Temps.TheVariants as temps
use Rattle.core_eval.specs.declared.caller.Waiting.{Waiting}
use Rattle.core_eval.specs.declared.pending.Returned as code_returned
use Rattle.core_eval.specs.declared.pending.Returned.TheVariants as returned
use Rattle.core_eval.specs.declared.pending.Flow as code_flow
use Rattle.core_eval.specs.declared.pending.Flow.TheVariants as flow
use Rattle.core_eval.specs.declared.pending.Now as code_now
use Rattle.core_eval.specs.declared.pending.Now.TheVariants as now
use Rattle.core_eval.specs.declared.pending.Pending as code_pending
use Rattle.core_eval.specs.declared.pending.Pending.TheVariants as pending
use Rattle.core_eval.specs.declared.pending.Due as code_due
use Rattle.core_eval.specs.declared.pending.Due.TheVariants as due
use Rattle.core_eval.specs.Values.{content_of, bound_value}

-- ---- what is to do

-- what is done next
pub data Task : Type 0 where
  Follow : Statements → Task
  Execute : core.Statement → Task
  Leave : Exit → Task

-- a caller that was left for a call: what its temporaries hold, and how many blocks there are outside of it
pub record Saved : Type 0 where
  pub temps : List Value
  pub base : ℕ

-- what waits for the end of a statement: the statements after it; a loop whose test it is, or whose body; a block; a statement that a break in its body ends;
-- the caller of the function with this number
pub data Wait : Type 0 where
  Then : Statements → Wait
  Test : (test : Statements) (flag : ℕ) (body : Statements) → Wait
  Body : (test : Statements) (flag : ℕ) (body : Statements) → Wait
  Block : Wait
  Breakable : Wait
  Caller : (results : List ℕ) (function : ℕ) → Saved → Wait

-- what is due
pub data Next : Type 0 where
  Go : Task → Next
  GetcharDue : (t : ℕ) → Next
  PutcharDue : (t byte : ℕ) → Next
  TurnDue : (test : Statements) (flag : ℕ) (body : Statements) → Next
  CallDue : (results : List ℕ) (function : ℕ) (arguments : List Content) → Next
  Over : ℕ → Next
  Raised : Kind → Next
  Wrong : Next

-- ---- what the code has

abbrev pub returned_values : code_returned.Returned → List Content
returned_values (returned.One v) = content_of v ∷ []
returned_values (returned.Three u v w) = content_of u ∷ content_of (bound_value v) ∷ content_of (bound_value w) ∷ []

abbrev pub optional_value : Option code_returned.Returned → List Content
optional_value None = []
optional_value (Some r) = returned_values r

-- the word that was returned, if it is one
abbrev pub word_returned : Option code_returned.Returned → Option ℕ
word_returned None = None
word_returned (Some (returned.One v)) = word_in v
  where
    word_in : Value → Option ℕ
    word_in value.Blank = None
    word_in (value.Word n) = Some n
    word_in value.Null = None
    word_in (value.Pointer p) = None
    word_in (value.Birth d) = None
word_returned (Some (returned.Three u v w)) = None

abbrev pub exit_of : code_flow.Flow → Exit
exit_of flow.Falls = steps.Falls
exit_of flow.Breaks = steps.Breaks
exit_of flow.Continues = steps.Continues

abbrev pub task_of : code_now.Now → Task
task_of (now.Follow ss) = Follow (body_tree ss.now)
task_of (now.Leave f) = Leave (exit_of f)

abbrev pub kept_temps : Temps → List Value
kept_temps (temps.Words ws) = map bound_value ws.items
kept_temps (temps.Values vs) = vs.items

abbrev pub saved_of : Waiting → Saved
saved_of w = record { temps = kept_temps w.temps; base = w.base }

abbrev pub caller_of : Waiting → Wait
caller_of w = Caller (optional_tree w.to) w.function (saved_of w)

abbrev pub wait_of : code_pending.Pending → Wait
wait_of (pending.Then ss) = Then (body_tree ss.now)
wait_of (pending.Test flag both) = Test (body_tree both.now.value.0.items) flag.0 (body_tree both.now.value.1.items)
wait_of (pending.Body flag both) = Body (body_tree both.now.value.0.items) flag.0 (body_tree both.now.value.1.items)
wait_of pending.Block = Block
wait_of pending.Breakable = Breakable
wait_of (pending.Caller caller) = caller_of caller.value

abbrev pub next_of : code_due.Due → Next
next_of (due.Go next) = Go (task_of next)
next_of (due.Getchar t) = GetcharDue t.0
next_of (due.Putchar t x) = PutcharDue t.0 x
next_of (due.Turn flag both) = TurnDue (body_tree both.now.value.0.items) flag.0 (body_tree both.now.value.1.items)
next_of (due.Call result f arguments) = CallDue (optional_tree result) f (map content_of arguments.items)
next_of (due.Over status) = Over status
next_of (due.Raised kind) = Raised kind
next_of due.Wrong = Wrong

-- all that waits, the last first
abbrev pub waits_of : List code_pending.Pending → List Wait
waits_of ps = reverse (map wait_of ps)

-- the statements after one wait, if there are any
abbrev pub waits_behind : Statements → List Wait → List Wait
waits_behind NoStatements ws = ws
waits_behind (MoreStatements s ss) ws = Then (MoreStatements s ss) ∷ ws

-- ---- what comes after

-- what a block or a call was entered from, and the number of its activation
pub record Mark : Type 0 where
  pub number : ℕ
  pub outside : Config

-- a loop whose test was left, and one whose body was
abbrev pub tested : Statements → ℕ → Statements → (Exit → Config → Step) → Exit → Config → Step
tested test flag body next exit =
    falls_to exit (λ c. branch (c.temps flag) (Turns (record { test = test; flag = flag; body = body }) next c) (next steps.Falls c)) next

abbrev pub turned_once : Statements → ℕ → Statements → (Exit → Config → Step) → Exit → Config → Step
turned_once test flag body next exit = after_turn exit (statement (core.While test flag body) next) next

-- the results of a call go to the caller
abbrev pub returned_to : List ℕ → Config → (Exit → Config → Step) → List Content → memory.Memory → Step
returned_to results outside next values m = with_results results values (with_memory m outside) (next steps.Falls)

-- all that waits, the last first, with a mark for each block and each call; behind all of it the function `main`
abbrev pub rest_of : ℕ → List Wait → List Mark → Exit → Config → Step
rest_of main [] marks = left main 0 status_of
rest_of main (Then ss ∷ ws) marks = λ exit. falls_to exit (statements ss (rest_of main ws marks)) (rest_of main ws marks)
rest_of main (Test test flag body ∷ ws) marks = tested test flag body (rest_of main ws marks)
rest_of main (Body test flag body ∷ ws) marks = turned_once test flag body (rest_of main ws marks)
rest_of main (Block ∷ ws) [] = λ exit c. stuck
rest_of main (Block ∷ ws) (mark ∷ marks) = λ exit c. rest_of main ws marks exit (out_of_block mark.number mark.outside.blocks c)
rest_of main (Breakable ∷ ws) marks = λ exit. left_by exit (rest_of main ws marks)
rest_of main (Caller results f saved ∷ ws) [] = λ exit c. stuck
rest_of main (Caller results f saved ∷ ws) (mark ∷ marks) = left f mark.number (returned_to results mark.outside (rest_of main ws marks))

-- what is due: another move, or a unit, or nothing more
abbrev pub doing : Task → (Exit → Config → Step) → Config → Step
doing (Follow ss) next c = statements ss next c
doing (Execute s) next c = statement s next c
doing (Leave exit) next c = next exit c

abbrev pub coming : Next → (Exit → Config → Step) → Config → Step
coming (Go task) next c = doing task next c
coming (GetcharDue t) next c = Pays (λ kept. Reads (λ byte. next steps.Falls (with_temp t (Word (byte_word byte)) kept))) c
coming (PutcharDue t x) next c = Pays (λ kept. says (events.ByteWritten x) (next steps.Falls (with_temp t (Word x) kept))) c
coming (TurnDue test flag body) next c = Turns (record { test = test; flag = flag; body = body }) next c
coming (CallDue results f arguments) next c = Calls (record { function = f; arguments = arguments }) (returned_to results c next) c.memory
coming (Over status) next c = Stops (SourceEnding.Ended status)
coming (Raised kind) next c = Stops (SourceEnding.Raised kind)
coming Wrong next c = stuck
