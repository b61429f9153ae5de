-- Believed: how statements leave the states of locals that can't be copied.
use Rattle.std.specs.Prelude.{List, None, Option, Some, drop, false, length, map, option_map, suc, take, true, ℕ, ◌-◌, if◌then◌else◌, [], ◌∷◌, ◌++◌}
use Rattle.cyc_tree.specs.Tree.{BlockItems, Clauses, Declare, Execute, Expression, Initializer, Item, MoreClauses, NoClauses, NoItems, Program, Statement}
use Rattle.source_typing.specs.Declarations.{declare}
use Rattle.source_typing.specs.Expressions.{judge}
use Rattle.source_typing.specs.Faults.{Fault}
use Rattle.source_typing.specs.Flow.{use_of}
use Rattle.source_typing.specs.Functions.{body_scope, head_of}
use Rattle.source_typing.specs.Making.{inside}
use Rattle.source_typing.specs.Moves.{copy_if, nothing}
use Rattle.source_typing.specs.Programs.{tables_of}
use Rattle.source_typing.specs.Scope.{Env, Local, block_entered, find_local}
use Rattle.source_typing.specs.Statements.{Chosen, chosen, clause_scope, condition, in_a_loop, in_a_switch}
use Rattle.source_typing.specs.States.{Gone, Held, Lent, Passed, Plain, State, States, loop_head, meet_ways, need_held, state_of, then_passed, used_to}
use Rattle.source_typing.specs.States.{with_state}
use Rattle.source_typing.specs.Tables.{Arrayed, Counter, Stored, Tables, Unknown, What, is_copyable}
use Rattle.cyc_tree.specs.Tree as tree

-- the states where a statement's end, a `break` and a `continue` are reached, each where it is reachable, and the faults
pub record Left : Type 0 where
  pub falls : Option States
  pub breaks : Option States
  pub continues : Option States
  pub faults : List Fault

abbrev pub left : Option States → Option States → Option States → List Fault → Left
left falls breaks continues fs = record { falls = falls; breaks = breaks; continues = continues; faults = fs }

abbrev pub falls_in : Passed → Left
falls_in p = left (Some p.states) None None p.faults

-- an expression, and then the rest
abbrev pub after_passed : Passed → (States → Left) → Left
after_passed p rest = record (rest p.states) { faults = p.faults ++ (rest p.states).faults }

abbrev pub joined : Left → Left → Option States → Left
joined a b falls = left falls (meet_ways a.breaks b.breaks) (meet_ways a.continues b.continues) (a.faults ++ b.faults)

-- What isn't reachable isn't checked.
abbrev pub followed : Option States → Left → (States → Left) → Left
followed None a rest = a
followed (Some s) a rest = joined a (rest s) (rest s).falls

abbrev pub in_sequence : Left → (States → Left) → Left
in_sequence a rest = followed a.falls a rest

-- the ways of an `if` meet
abbrev pub either : Left → Left → Left
either a b = joined a b (meet_ways a.falls b.falls)

-- ---- loops

abbrev pub turn_of : (States → Passed) → (States → Left) → States → Left
turn_of condition body s = after_passed (condition s) body

abbrev pub back_of : Left → Option States
back_of l = meet_ways l.falls l.continues

-- from its head, a loop is left after its condition, or by a `break`
abbrev pub loop_from : (States → Passed) → (States → Left) → States → Left
loop_from condition body head =
    left (meet_ways (Some (condition head).states) (turn_of condition body head).breaks) None None (turn_of condition body head).faults

abbrev pub loop : (States → Passed) → (States → Left) → States → Left
loop condition body s = loop_from condition body (loop_head s (λ h. back_of (turn_of condition body h)))

-- ---- locals of a block

-- on each way out
abbrev pub on_ways : (States → States) → Left → Left
on_ways f l = left (option_map f l.falls) (option_map f l.breaks) (option_map f l.continues) l.faults

-- a local that can't be copied begins as held
abbrev pub begins_as : Env → What → State
begins_as g (Stored t r) = (if is_copyable g.tables t then Plain else Held)
begins_as g (Arrayed t r) = Plain
begins_as g Counter = Plain
begins_as g (Unknown sound) = Plain

abbrev pub states_of : Env → List Local → States
states_of g ls = map (λ l. begins_as g l.what) ls

-- the states of the locals that a declaration adds, of those that were there, and how they are dropped again
abbrev pub added_by : Env → Env → States
added_by outer inside = states_of inside (take (length inside.locals - length outer.locals) inside.locals)

abbrev pub dropped : ℕ → States → States
dropped n s = drop n s

-- a declaration's locals come into scope, and go out of it at the end of the block, however it is left
abbrev pub entering : Env → Env → (States → Left) → States → Left
entering outer inside rest s = on_ways (dropped (length (added_by outer inside))) (rest (added_by outer inside ++ s))

-- ---- loans

-- A loan that begins here ends when the block is left in any way; the local is held again then. What was lent already stays lent.
abbrev pub if_lent : State → List Local → List ℕ → Left → Left
if_lent Lent ls x l = l
if_lent s ls x l = on_ways (with_state ls x Held) l

-- A pointer that is no local isn't lent, else Copy at the declaration.
abbrev pub lent_to : Option Local → List Local → ℕ → tree.Name → (States → Left) → States → Left
lent_to None ls at x rest s = after_passed (copy_if true at s) rest
lent_to (Some l) ls at x rest s = if_lent (state_of ls x.text s) ls x.text (after_passed (used_to ls x need_held Lent s) rest)

abbrev pub lending : Env → ℕ → tree.Name → (States → Left) → States → Left
lending g at x rest s = lent_to (find_local g.locals x.text) g.locals at x rest s

-- ---- declarations

abbrev pub initial_value : Env → Initializer → States → Passed
initial_value g Initializer.Unset = nothing
initial_value g (Initializer.Elements n) = nothing
initial_value g (Initializer.Value e) = (use_of g e).value

-- a declaration, and the rest of its block
abbrev pub declares : Env → Env → tree.Declaration → (States → Left) → States → Left
declares g inside (tree.Local t x i) rest s = after_passed (initial_value g i s) (entering g inside rest)
declares g inside (tree.Region at r x) rest s = entering g inside rest s
declares g inside (tree.Open at r x k) rest s = lending g at k (entering g inside rest) s
declares g inside (tree.Alias at r t x p) rest s = lending g at p (entering g inside rest) s
declares g inside (tree.NewKey at r x) rest s = entering g inside rest s

-- ---- statements

-- A local that is freed is gone; a pointer that is no local isn't freed, else Copy at the statement.
abbrev pub freed_by : Option Local → List Local → ℕ → tree.Name → States → Passed
freed_by None ls at x s = copy_if true at s
freed_by (Some l) ls at x s = used_to ls x need_held Gone s

abbrev pub freed : Env → ℕ → tree.Name → States → Passed
freed g at x s = freed_by (find_local g.locals x.text) g.locals at x s

-- the value of a `return`
abbrev pub result_value : Env → Option Expression → States → Passed
result_value g None = nothing
result_value g (Some e) = (use_of g e).value

-- a `break` of a clause leaves the `switch`
abbrev pub switched_left : Left → Left
switched_left l = left l.breaks None l.continues l.faults

-- no clause
abbrev pub no_ways : Left
no_ways = left None None None []

abbrev mutual
  pub left_by : Env → Statement → States → Left
  left_by g (Statement.Empty at) s = left (Some s) None None []
  left_by g (Statement.Block at items) s = left_by_items (block_entered g) items s
  left_by g (Statement.Run e) s = falls_in ((use_of g e).value s)
  left_by g (Statement.Exchange a b) s = falls_in (then_passed ((use_of g a).look s) (use_of g b).look)
  left_by g (Statement.If at e body) s =
      after_passed ((use_of g e).look s) (λ t. either (left_by g body t) (left (Some t) None None []))
  left_by g (Statement.IfElse at e body otherwise) s = after_passed ((use_of g e).look s) (λ t. either (left_by g body t) (left_by g otherwise t))
  left_by g (Statement.While at e body) s = loop (use_of g e).look (λ t. left_by (in_a_loop g) body t) s
  left_by g (Statement.Switch at e cs) s =
      after_passed ((use_of g e).look s) (λ t. switched_left (left_by_clauses (in_a_switch g) (chosen (judge g e)) cs t))
  left_by g (Statement.Break at) s = left None (Some s) None []
  left_by g (Statement.Continue at) s = left None None (Some s) []
  left_by g (Statement.Return at v) s = left None None None (result_value g v s).faults
  left_by g (Statement.FreeUnique at p) s = falls_in (freed g at p s)
  left_by g (Statement.FreeKey at k) s = falls_in (freed g at k s)

  -- the items of a block, with the states of the locals around it
  pub left_by_items : Env → BlockItems → States → Left
  left_by_items g NoItems s = left (Some s) None None []
  left_by_items g (Declare d others) s = declares g (declare g d).scope d (λ t. left_by_items (declare g d).scope others t) s
  left_by_items g (Execute i others) s = in_sequence (left_by g i s) (λ t. left_by_items g others t)

  -- each clause is a way of its own
  pub left_by_clauses : Env → Option Chosen → Clauses → States → Left
  left_by_clauses g c NoClauses s = no_ways
  left_by_clauses g c (MoreClauses at pattern body others) s =
      either (entering g (clause_scope g c pattern) (λ t. left_by_items (clause_scope g c pattern) body t) s) (left_by_clauses g c others s)

-- ---- programs

abbrev pub states_at : Env → States
states_at g = states_of g g.locals

-- the faults of flow of a function, whose parameters that can't be copied begin as held
abbrev pub body_flow : Env → tree.Function → List Fault
body_flow g f = (left_by_items g f.body (states_at g)).faults

abbrev pub flow_of : Tables → ℕ → Item → List Fault
flow_of g i (tree.FunctionItem f) = body_flow (body_scope false g i f (head_of false g f)) f
flow_of g i (tree.StructItem s) = []
flow_of g i (tree.UnionItem u) = []
flow_of g i (tree.GlobalItem x) = []

abbrev pub flow_from : Tables → ℕ → List Item → List Fault
flow_from g i [] = []
flow_from g i (item ∷ items) = flow_of g i item ++ flow_from g (suc i) items

abbrev pub flow_faults : Program → List Fault
flow_faults items = flow_from (tables_of false items) 0 items
