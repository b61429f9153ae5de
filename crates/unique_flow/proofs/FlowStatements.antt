-- A program has no fault of flow but Consumed, Lent and Copy.
use Rattle.std.proofs.Common.{◌≡◌, ℕ, suc, Bool, true, false, Option, Some, None, List, [], ◌∷◌, ◌++◌}
use Rattle.std.specs.Prelude.{if◌then◌else◌}
use Rattle.cyc_tree.specs.Tree as tree
use Rattle.cyc_tree.specs.Tree.{BlockItems, Clauses, Declare, Execute, Expression, Initializer, Item, MoreClauses, NoClauses, NoItems, Program, Statement}
use Rattle.source_typing.specs.Declarations.{declare}
use Rattle.source_typing.specs.Expressions.{judge}
use Rattle.source_typing.specs.Faults.{Fault, earliest, is_before, is_of_flow, sooner_of}
use Rattle.source_typing.specs.Flow.{use_of}
use Rattle.source_typing.specs.Functions.{body_scope, head_of}
use Rattle.source_typing.specs.Left.{Left, after_passed, declares, entering, flow_faults, flow_from, flow_of, followed, freed_by, if_lent, initial_value}
use Rattle.source_typing.specs.Left.{left_by, left_by_clauses, left_by_items, lent_to, loop, result_value, states_at, turn_of, added_by, back_of}
use Rattle.source_typing.specs.Moves.{copy_if}
use Rattle.source_typing.specs.Programs.{tables_of}
use Rattle.source_typing.specs.Scope.{Env, Local, block_entered, find_local}
use Rattle.source_typing.specs.Statements.{Chosen, chosen, clause_scope, in_a_loop, in_a_switch}
use Rattle.source_typing.specs.States.{Gone, Held, Lent, Passed, Plain, State, States, loop_head, need_held, state_of, used_to}
use Rattle.source_typing.specs.Tables.{Tables}
use Rattle.unique_flow.specs.Faults.{IsOfFlowIfSome}
use Rattle.unique_flow.proofs.FlowExpressions.{AreOfFlow, FindsFlow, both_of_flow, copy_flow, held_flow, use_flow}

-- from any states
abbrev LeavesFlow : (States → Left) → Type 0
LeavesFlow leave = (s : States) → AreOfFlow (leave s).faults

after_flow : (p : Passed) (rest : States → Left) → AreOfFlow p.faults → LeavesFlow rest → AreOfFlow (after_passed p rest).faults
after_flow p rest first others = both_of_flow p.faults (rest p.states).faults first (others p.states)

followed_flow : (w : Option States) (a : Left) (rest : States → Left) → AreOfFlow a.faults → LeavesFlow rest → AreOfFlow (followed w a rest).faults
followed_flow None a rest first others = first
followed_flow (Some s) a rest first others = both_of_flow a.faults (rest s).faults first (others s)

loop_flow : (condition : States → Passed) (body : States → Left) → FindsFlow condition → LeavesFlow body → LeavesFlow (loop condition body)
loop_flow condition body first others s =
    let head = loop_head s (λ h. back_of (turn_of condition body h)) in after_flow (condition head) body (first head) others

-- ---- declarations

lent_flow : (a : State) (ls : List Local) (x : List ℕ) (l : Left) → AreOfFlow l.faults → AreOfFlow (if_lent a ls x l).faults
lent_flow Plain ls x l f = f
lent_flow Held ls x l f = f
lent_flow Gone ls x l f = f
lent_flow Lent ls x l f = f

loan_flow : (o : Option Local) (ls : List Local) (at : ℕ) (x : tree.Name) (rest : States → Left) → LeavesFlow rest → LeavesFlow (lent_to o ls at x rest)
loan_flow None ls at x rest f s = after_flow (copy_if true at s) rest (copy_flow true at s) f
loan_flow (Some l) ls at x rest f s =
    let a = state_of ls x.text s in
    let p = used_to ls x need_held Lent s in
    lent_flow a ls x.text (after_passed p rest) (after_flow p rest (held_flow x.at a) f)

initial_flow : (g : Env) (i : Initializer) → FindsFlow (initial_value g i)
initial_flow g Initializer.Unset s = tt
initial_flow g (Initializer.Elements n) s = tt
initial_flow g (Initializer.Value e) s = (use_flow e g).value s

entering_flow : (outer inside : Env) (rest : States → Left) → LeavesFlow rest → LeavesFlow (entering outer inside rest)
entering_flow outer inside rest f s = f (added_by outer inside ++ s)

declares_flow : (g inside : Env) (d : tree.Declaration) (rest : States → Left) → LeavesFlow rest → LeavesFlow (declares g inside d rest)
declares_flow g inside (tree.Local t x i) rest f s =
    after_flow (initial_value g i s) (entering g inside rest) (initial_flow g i s) (entering_flow g inside rest f)
declares_flow g inside (tree.Region at r x) rest f s = entering_flow g inside rest f s
declares_flow g inside (tree.Open at r x k) rest f s =
    loan_flow (find_local g.locals k.text) g.locals at k (entering g inside rest) (entering_flow g inside rest f) s
declares_flow g inside (tree.Alias at r t x p) rest f s =
    loan_flow (find_local g.locals p.text) g.locals at p (entering g inside rest) (entering_flow g inside rest f) s
declares_flow g inside (tree.NewKey at r x) rest f s = entering_flow g inside rest f s

-- ---- statements

freed_flow : (o : Option Local) (ls : List Local) (at : ℕ) (x : tree.Name) (s : States) → AreOfFlow (freed_by o ls at x s).faults
freed_flow None ls at x s = copy_flow true at s
freed_flow (Some l) ls at x s = held_flow x.at (state_of ls x.text s)

result_flow : (g : Env) (v : Option Expression) → FindsFlow (result_value g v)
result_flow g None s = tt
result_flow g (Some e) s = (use_flow e g).value s

mutual
  statement_flow : (i : Statement) (g : Env) → LeavesFlow (left_by g i)
  statement_flow (Statement.Empty at) g s = tt
  statement_flow (Statement.Block at items) g s = items_flow items (block_entered g) s
  statement_flow (Statement.Run e) g s = (use_flow e g).value s
  statement_flow (Statement.Exchange a b) g s =
      let p = (use_of g a).look s in both_of_flow p.faults ((use_of g b).look p.states).faults ((use_flow a g).look s) ((use_flow b g).look p.states)
  statement_flow (Statement.If at e body) g s =
      let t = ((use_of g e).look s).states in
      both_of_flow ((use_of g e).look s).faults ((left_by g body t).faults ++ []) ((use_flow e g).look s)
      (both_of_flow (left_by g body t).faults [] (statement_flow body g t) tt)
  statement_flow (Statement.IfElse at e body otherwise) g s =
      let t = ((use_of g e).look s).states in
      both_of_flow ((use_of g e).look s).faults ((left_by g body t).faults ++ (left_by g otherwise t).faults) ((use_flow e g).look s)
      (both_of_flow (left_by g body t).faults (left_by g otherwise t).faults (statement_flow body g t) (statement_flow otherwise g t))
  statement_flow (Statement.While at e body) g s =
      loop_flow (use_of g e).look (λ t. left_by (in_a_loop g) body t) (use_flow e g).look (λ t. statement_flow body (in_a_loop g) t) s
  statement_flow (Statement.Switch at e cs) g s =
      let t = ((use_of g e).look s).states in
      both_of_flow ((use_of g e).look s).faults (left_by_clauses (in_a_switch g) (chosen (judge g e)) cs t).faults ((use_flow e g).look s)
      (clauses_flow cs (in_a_switch g) (chosen (judge g e)) t)
  statement_flow (Statement.Break at) g s = tt
  statement_flow (Statement.Continue at) g s = tt
  statement_flow (Statement.Return at v) g s = result_flow g v s
  statement_flow (Statement.FreeUnique at p) g s = freed_flow (find_local g.locals p.text) g.locals at p s
  statement_flow (Statement.FreeKey at k) g s = freed_flow (find_local g.locals k.text) g.locals at k s

  items_flow : (items : BlockItems) (g : Env) → LeavesFlow (left_by_items g items)
  items_flow NoItems g s = tt
  items_flow (Declare d others) g s =
      let inside = (declare g d).scope in declares_flow g inside d (λ t. left_by_items inside others t) (λ t. items_flow others inside t) s
  items_flow (Execute i others) g s =
      followed_flow (left_by g i s).falls (left_by g i s) (λ t. left_by_items g others t) (statement_flow i g s) (λ t. items_flow others g t)

  clauses_flow : (cs : Clauses) (g : Env) (c : Option Chosen) → LeavesFlow (left_by_clauses g c cs)
  clauses_flow NoClauses g c s = tt
  clauses_flow (MoreClauses at pattern body others) g c s =
      let inside = clause_scope g c pattern in
      let here = entering g inside (λ t. left_by_items inside body t) s in
      both_of_flow here.faults (left_by_clauses g c others s).faults
      (entering_flow g inside (λ t. left_by_items inside body t) (λ t. items_flow body inside t) s) (clauses_flow others g c s)

-- ---- programs

item_flow : (g : Tables) (i : ℕ) (x : Item) → AreOfFlow (flow_of g i x)
item_flow g i (tree.FunctionItem f) = let scope = body_scope false g i f (head_of false g f) in items_flow f.body scope (states_at scope)
item_flow g i (tree.StructItem s) = tt
item_flow g i (tree.UnionItem u) = tt
item_flow g i (tree.GlobalItem x) = tt

all_flow : (g : Tables) (i : ℕ) (items : List Item) → AreOfFlow (flow_from g i items)
all_flow g i [] = tt
all_flow g i (x ∷ items) = both_of_flow (flow_of g i x) (flow_from g (suc i) items) (item_flow g i x) (all_flow g (suc i) items)

pub program_flow : (p : Program) → AreOfFlow (flow_faults p)
program_flow p = all_flow (tables_of false p) 0 p

-- ---- the fault that is answered

sooner_flow : (f : Fault) (o : Option Fault) → is_of_flow f.kind ≡ true → IsOfFlowIfSome o → IsOfFlowIfSome (sooner_of f o)
sooner_flow f None this others = this
sooner_flow f (Some g) this others = by (is_before f g)
  where
    by : (b : Bool) → is_of_flow (if b then f else g).kind ≡ true
    by true = this
    by false = others

pub earliest_flow : (fs : List Fault) → AreOfFlow fs → IsOfFlowIfSome (earliest fs)
earliest_flow [] all = tt
earliest_flow (f ∷ fs) all = sooner_flow f (earliest fs) all.0 (earliest_flow fs all.1)
