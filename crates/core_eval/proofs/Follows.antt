-- Moves one after the other, and statements that follow one another.
use Rattle.std.proofs.Common.{◌≡◌, ◌+◌, ◌<◌, ◌≤◌, List, [], ◌∷◌, length, Result, Ok, Err, IfOk, refl, ap, ◌∙◌, sym, subst, arith}
use Rattle.core_meaning.specs.Core as core
use Rattle.core_meaning.specs.Core.{Statements, NoStatements, MoreStatements}
use Rattle.core_meaning.specs.Steps as steps
use Rattle.core_meaning.specs.Steps.{Config, Exit, Step}
use Rattle.core_meaning.specs.Meaning.{falls_to, statement, statements}
use Rattle.cyc_core.specs.declared.operation.Operation.{Operation}
use Rattle.cyc_core.specs.declared.statement.Origin.{Origin}
use Rattle.cyc_core.specs.declared.statement.Statement as code
use Rattle.cyc_core.specs.declared.statement.Statement.TheVariants as form
use Rattle.cyc_core.specs.Trees.{operation_tree, statement_tree, body_tree}
use Rattle.cyc_core.proofs.Forms.{do_tree}
use Rattle.core_eval.specs.declared.pending.Due.{Due}
use Rattle.core_eval.specs.Pendings.{Task, Follow, Execute, Leave, Wait, Then, Next, Go, Mark, next_of, waits_behind, rest_of}
use Rattle.core_eval.specs.Standing.{Known, Agrees, StandsStill}
use Rattle.core_eval.specs.Costs.{task_cost, waits_cost, IsMove}
use Rattle.core_eval.proofs.EnterMoves.{same_state}

-- Moves lead from a task to another one: whatever step is stood for before, the same is stood for afterwards; and no more moves are left.
pub record Reaches (task : Task) (ws : List Wait) (known : Known) (task' : Task) (ws' : List Wait) (known' : Known) : Type 0 where
  pub still : StandsStill (Go task) ws known (Go task') ws' known'
  pub fewer : task_cost task' + waits_cost ws' ≤ task_cost task + waits_cost ws

pub reached : (task : Task) (ws : List Wait) (known : Known) → Reaches task ws known task ws known
reached task ws known = record { still = λ main s st. st; fewer = omega arith }

module _ {task : Task} {ws : List Wait} {known : Known} {task' : Task} {ws' : List Wait} {known' : Known} (r : Reaches task ws known task' ws' known') where
  pub reaches_on : (task2 : Task) (ws2 : List Wait) (known2 : Known) → IsMove task' ws' known' (Go task2) ws2 known2 → Reaches task ws known task2 ws2 known2
  reaches_on task2 ws2 known2 m = record { still = λ main s st. m.still main s (r.still main s st); fewer = omega (arith, r.fewer, m.fewer) }

  pub reaches_both : {task2 : Task} {ws2 : List Wait} {known2 : Known} → Reaches task' ws' known' task2 ws2 known2 → Reaches task ws known task2 ws2 known2
  reaches_both m = record { still = λ main s st. m.still main s (r.still main s st); fewer = omega (arith, r.fewer, m.fewer) }

  pub reaches_move : (next : Next) (ws2 : List Wait) (known2 : Known) → IsMove task' ws' known' next ws2 known2 → IsMove task ws known next ws2 known2
  reaches_move next ws2 known2 m = record { still = λ main s st. m.still main s (r.still main s st); fewer = omega (arith, r.fewer, m.fewer) }

-- ---- statements

-- the same state, in which statements wait or don't
waiting : (known : Known) (ws : List Wait) (ss : Statements) (marks : List Mark) (c : Config) → Agrees known ws marks c → Agrees known (Then ss ∷ ws) marks c
waiting known ws ss marks c h = record {
  temps = h.temps;
  fresh = h.fresh;
  globals = h.globals;
  nested = h.nested;
  entered = h.entered;
  live = h.live;
  owned = h.owned;
  called = h.called;
  values_live = h.values_live;
  born = h.born;
}

waited : (known : Known) (ws : List Wait) (ss : Statements) (marks : List Mark) (c : Config) → Agrees known (Then ss ∷ ws) marks c → Agrees known ws marks c
waited known ws ss marks c h = record {
  temps = h.temps;
  fresh = h.fresh;
  globals = h.globals;
  nested = h.nested;
  entered = h.entered;
  live = h.live;
  owned = h.owned;
  called = h.called;
  values_live = h.values_live;
  born = h.born;
}

-- behind the last statement nothing is done
none_behind : (next : Exit → Config → Step) (exit : Exit) → falls_to exit (statements NoStatements next) next ≡ next exit
none_behind next steps.Falls = refl
none_behind next steps.Breaks = refl
none_behind next steps.Continues = refl
none_behind next (steps.Returns vs) = refl

module _ (known : Known) (ws : List Wait) (s : core.Statement) where
  -- the first is next, and the others wait
  then_next : (ss : Statements) → IsMove (Follow (MoreStatements s ss)) ws known (Go (Execute s)) (Then ss ∷ ws) known
  then_next ss =
      same_state (Follow (MoreStatements s ss)) ws (Go (Execute s)) (Then ss ∷ ws) known
      (λ main marks c h. (waiting known ws ss marks c h, refl)) (omega arith)

  last_next : IsMove (Follow (MoreStatements s NoStatements)) ws known (Go (Execute s)) ws known
  last_next =
      same_state (Follow (MoreStatements s NoStatements)) ws (Go (Execute s)) ws known
      (λ main marks c h. (h, ap (λ (k : Exit → Config → Step). statement s k c) (λ i exit. none_behind (rest_of main ws marks) exit i))) (omega arith)

  pub first_next : (ss : Statements) → IsMove (Follow (MoreStatements s ss)) ws known (Go (Execute s)) (waits_behind ss ws) known
  first_next NoStatements = last_next
  first_next (MoreStatements t ss) = then_next (MoreStatements t ss)

-- those that waited are next
others_next : (known : Known) (ws : List Wait) (ss : Statements) → IsMove (Leave steps.Falls) (Then ss ∷ ws) known (Go (Follow ss)) ws known
others_next known ws ss =
    same_state (Leave steps.Falls) (Then ss ∷ ws) (Go (Follow ss)) ws known
    (λ main marks c h. (waited known ws ss marks c h, refl)) (omega arith)

-- a statement is over, and the others are next
one_done : (s : core.Statement) (ss : Statements) (ws : List Wait) (known known' : Known)
    → IsMove (Execute s) (Then ss ∷ ws) known (Go (Leave steps.Falls)) (Then ss ∷ ws) known'
    → Reaches (Follow (MoreStatements s ss)) ws known (Follow ss) ws known'
one_done s ss ws known known' m =
    let first = reaches_on (reached (Follow (MoreStatements s ss)) ws known) (Execute s) (Then ss ∷ ws) known (then_next known ws s ss) in
    let over = reaches_on first (Leave steps.Falls) (Then ss ∷ ws) known' m in
    reaches_on over (Follow ss) ws known' (others_next known' ws ss)

-- ---- from what the code answers

pub some_wait : (l : List code.Statement) (ws : List Wait) → 0 < length l → Then (body_tree l) ∷ ws ≡ waits_behind (body_tree l) ws
some_wait [] ws h = absurd (omega (arith, h))
some_wait (s ∷ l) ws h = refl

-- a move from what is the same state
pub from_same : (task : Task) (known1 known : Known) (next : Next) (known2 : Known) → known1 ≡ known → ((b : List Wait) → IsMove task b known1 next b known2)
    → (b : List Wait) → IsMove task b known next b known2
from_same task known1 known next known2 same moves = λ b. subst (λ (k : Known). IsMove task b k next b known2) same (moves b)

-- none is left
pub ends : {task : Task} {ws : List Wait} {known : Known} {ws' : List Wait} {known' : Known} (l : List code.Statement) → length l ≡ 0
    → Reaches task ws known (Follow (body_tree l)) ws' known' → IsMove task ws known (Go (Leave steps.Falls)) ws' known'
ends {ws' = ws'} {known' = known'} [] none r =
    reaches_move r (Go (Leave steps.Falls)) ws' known'
    (same_state (Follow NoStatements) ws' (Go (Leave steps.Falls)) ws' known' (λ main marks c h. (h, refl)) (omega arith))
ends (s ∷ l) none r = absurd (omega (arith, none))

module _ {task : Task} {ws : List Wait} {known : Known} {ws' : List Wait} {known' : Known} (l : List code.Statement) (s : code.Statement)
    (ls : List code.Statement)
    (is : l ≡ s ∷ ls) (r : Reaches task ws known (Follow (body_tree l)) ws' known') where
  at_first : Reaches task ws known (Follow (MoreStatements (statement_tree s) (body_tree ls))) ws' known'
  at_first = subst (λ (ss : Statements). Reaches task ws known (Follow ss) ws' known') (ap body_tree is) r

  -- the first statement is entered, and the others wait
  entered_next : (next : Next) (behind ws2 : List Wait) (known2 : Known) → behind ≡ waits_behind (body_tree ls) ws'
      → IsMove (Execute (statement_tree s)) behind known' next ws2 known2 → IsMove task ws known next ws2 known2
  entered_next next behind ws2 known2 waits m =
      reaches_move (reaches_on at_first (Execute (statement_tree s)) (waits_behind (body_tree ls) ws') known'
      (first_next known' ws' (statement_tree s) (body_tree ls)))
      next ws2 known2 (subst (λ (b : List Wait). IsMove (Execute (statement_tree s)) b known' next ws2 known2) waits m)

  pub entered_answer : {E : Type 0} (a : Result Due E) (behind ws2 : List Wait) (known2 : Known) → behind ≡ waits_behind (body_tree ls) ws'
      → IfOk a (λ due. IsMove (Execute (statement_tree s)) behind known' (next_of due) ws2 known2)
      → IfOk a (λ due. IsMove task ws known (next_of due) ws2 known2)
  entered_answer (Ok due) behind ws2 known2 waits m = entered_next (next_of due) behind ws2 known2 waits m
  entered_answer (Err e) behind ws2 known2 waits m = tt

  module _ (at : Origin) (o : Operation) (does : s ≡ form.Do at o) where
    as_does : (next : Next) (b : List Wait) (known2 : Known) → IsMove (Execute (core.Do (operation_tree o))) b known' next b known2
        → IsMove (Execute (statement_tree s)) b known' next b known2
    as_does next b known2 m = subst (λ (t : core.Statement). IsMove (Execute t) b known' next b known2) (sym (ap statement_tree does ∙ do_tree at o)) m

    -- the first is an operation, which is done, and the others are next
    pub operation_done : (due : Due) (known2 : Known) → next_of due ≡ Go (Leave steps.Falls)
        → ((b : List Wait) → IsMove (Execute (core.Do (operation_tree o))) b known' (next_of due) b known2)
        → Reaches task ws known (Follow (body_tree ls)) ws' known2
    operation_done due known2 falls moves =
        reaches_both at_first (one_done (statement_tree s) (body_tree ls) ws' known' known2
        (subst (λ (n : Next). IsMove (Execute (statement_tree s)) (Then (body_tree ls) ∷ ws') known' n (Then (body_tree ls) ∷ ws') known2) falls
        (as_does (next_of due) (Then (body_tree ls) ∷ ws') known2 (moves (Then (body_tree ls) ∷ ws')))))

    -- or a unit is due for it, and the others wait
    pub operation_due : (due : Due) (behind : List Wait) (known2 : Known) → behind ≡ waits_behind (body_tree ls) ws'
        → ((b : List Wait) → IsMove (Execute (core.Do (operation_tree o))) b known' (next_of due) b known2)
        → IsMove task ws known (next_of due) behind known2
    operation_due due behind known2 waits moves =
        entered_next (next_of due) behind behind known2 waits (as_does (next_of due) behind known2 (moves behind))
