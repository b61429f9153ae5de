-- Believed, for this crate's laws: what holds of the flow of all phrases and programs.
use Rattle.std.specs.Prelude.{Option, length, option_map, ℕ, ◌≡◌}
use Rattle.cyc_tree.specs.Tree.{Expression, Program, Statement}
use Rattle.source_typing.specs.Faults.{earliest}
use Rattle.source_typing.specs.Flow.{use_of}
use Rattle.source_typing.specs.Left.{Left, flow_faults, left_by}
use Rattle.source_typing.specs.Moves.{Use}
use Rattle.source_typing.specs.Scope.{Env}
use Rattle.source_typing.specs.States.{Passed, States, loop_head}
use Rattle.check_faults.specs.Faults.{faults_of}
use Rattle.flow_summaries.specs.Effects.{Effects, states_after, to_head}
use Rattle.flow_summaries.specs.Exits.{Exits}
use Rattle.flow_summaries.specs.Expressions.{uses_of}
use Rattle.flow_summaries.specs.Passages.{Passage, found_in}
use Rattle.flow_summaries.specs.Statements.{exits_of, fault_of_flow}
use Rattle.flow_summaries.specs.Uses.{Uses}

-- From any states of n locals, a phrase leaves those that its passage says, and its earliest fault is that of its passage.
pub record DoesAs (n : ℕ) (act : States → Passed) (p : Passage) : Type 0 where
  pub states : (s : States) → (act s).states ≡ states_after n p.effects s
  pub faults : (s : States) → earliest (act s).faults ≡ faults_of (found_in n p.faults s)

pub record UsesAs (n : ℕ) (u : Use) (v : Uses) : Type 0 where
  pub value : DoesAs n u.value v.value
  pub look : DoesAs n u.look v.look
  pub place : DoesAs n u.place v.place
  pub target : DoesAs n u.target v.target
  pub whole : u.whole ≡ v.whole
  pub own : u.own ≡ v.own

-- the states on a way, where it is reachable
abbrev pub way_after : ℕ → Option Effects → States → Option States
way_after n w s = option_map (λ e. states_after n e s) w

-- From any states of n locals, a statement has the ways out that its exits say, and its earliest fault is theirs.
pub record LeavesAs (n : ℕ) (leave : States → Left) (w : Exits) : Type 0 where
  pub falls : (s : States) → (leave s).falls ≡ way_after n w.falls s
  pub breaks : (s : States) → (leave s).breaks ≡ way_after n w.breaks s
  pub continues : (s : States) → (leave s).continues ≡ way_after n w.continues s
  pub faults : (s : States) → earliest (leave s).faults ≡ faults_of (found_in n w.faults s)

-- Where each iteration of a loop has these effects, its head is reached from its entry by one step, in place of as many as there are locals.
abbrev pub LoopsTurnOnce : Type 0
LoopsTurnOnce =
    (n : ℕ) (turn : States → Option States) (w : Option Effects) → ((s : States) → turn s ≡ way_after n w s) → (s : States)
    → loop_head s turn ≡ states_after n (to_head w) s

-- of each expression in each scope
abbrev pub ExpressionsDoAsTold : Type 0
ExpressionsDoAsTold = (g : Env) (e : Expression) → UsesAs (length g.locals) (use_of g e) (uses_of g e)

-- of each statement in each scope
abbrev pub StatementsLeaveAsTold : Type 0
StatementsLeaveAsTold = (g : Env) (x : Statement) → LeavesAs (length g.locals) (left_by g x) (exits_of g x)

-- The earliest fault of flow of a program, by the rules, is the one that is found from what each of its phrases does to the locals.
abbrev pub FlowIsPassed : Type 0
FlowIsPassed = (p : Program) → earliest (flow_faults p) ≡ faults_of (fault_of_flow p)
