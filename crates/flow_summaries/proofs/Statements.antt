-- What a statement does to the states of locals is what is told of it, and so are the faults of flow of a program.
use Rattle.std.specs.Prelude.{false, length, ◌+◌}
use Rattle.std.proofs.Common.{◌≡◌, ℕ, suc, true, Option, Some, None, List, [], ◌∷◌, refl, sym, subst, ap₂, ◌∙◌}
use Rattle.cyc_tree.specs.Tree as tree
use Rattle.cyc_tree.specs.Tree.{BlockItems, Clauses, Declare, Execute, Expression, Initializer, Item, MoreClauses, NoClauses, NoItems, Program, Statement}
use Rattle.source_typing.specs.Declarations.{declare}
use Rattle.source_typing.specs.Expressions.{judge}
use Rattle.source_typing.specs.Faults.{earliest}
use Rattle.source_typing.specs.Flow.{use_of}
use Rattle.source_typing.specs.Functions.{body_scope, head_of}
use Rattle.source_typing.specs.Left.{Left, added_by, body_flow, declares, either, entering, flow_faults, flow_from, flow_of, freed, freed_by, initial_value}
use Rattle.source_typing.specs.Left.{left}
use Rattle.source_typing.specs.Left.{left_by, left_by_clauses, left_by_items, result_value, states_at, switched_left}
use Rattle.source_typing.specs.Programs.{tables_of}
use Rattle.source_typing.specs.Scope.{Env, Local, block_entered, find_local}
use Rattle.source_typing.specs.Statements.{Chosen, chosen, clause_scope, in_a_loop, in_a_switch}
use Rattle.source_typing.specs.States.{States, then_passed}
use Rattle.source_typing.specs.Tables.{Tables}
use Rattle.check_faults.proofs.Earliest.{earliest_of_both, found_sooner}
use Rattle.check_faults.specs.Faults.{faults_of, first_of}
use Rattle.flow_summaries.proofs.Exits.{leaves_after, leaves_at_end, leaves_by_break, leaves_by_continue, leaves_by_return, leaves_either, leaves_in_sequence}
use Rattle.flow_summaries.proofs.Exits.{leaves_loop, leaves_nowhere, leaves_scope, leaves_switch, leaves_with_passage}
use Rattle.flow_summaries.proofs.Expressions.{uses_told}
use Rattle.flow_summaries.proofs.Loans.{leaves_loan}
use Rattle.flow_summaries.proofs.Names.{IsNumbered, does_move, numbered}
use Rattle.flow_summaries.proofs.Passages.{does_copy, does_in_turn, does_nothing}
use Rattle.flow_summaries.proofs.Scopes.{clause_counted, declared_counted}
use Rattle.flow_summaries.specs.Exits.{Exits, either_exits, ends, switch_left}
use Rattle.flow_summaries.specs.Expressions.{uses_of}
use Rattle.flow_summaries.specs.Laws.{DoesAs, LeavesAs}
use Rattle.flow_summaries.specs.Passages.{in_turn, moved}
use Rattle.flow_summaries.specs.Statements.{exits_of, exits_of_clauses, exits_of_declared, exits_of_items, exits_within, fault_from, fault_of_body}
use Rattle.flow_summaries.specs.Statements.{fault_of_flow, fault_of_item, freed_local, passage_of_initial, passage_of_result}
use Rattle.flow_summaries.specs.Uses.{number_of}

-- ---- declarations

initial_does : (g : Env) (i : Initializer) → DoesAs (length g.locals) (initial_value g i) (passage_of_initial g i)
initial_does g Initializer.Unset = does_nothing (length g.locals)
initial_does g (Initializer.Elements n) = does_nothing (length g.locals)
initial_does g (Initializer.Value e) = (uses_told e g).value

module _ (g inside : Env) (rest : States → Left) (w : Exits) (counted : length inside.locals ≡ length (added_by g inside) + length g.locals)
    (h : LeavesAs (length inside.locals) rest w) where
  pub leaves_within : LeavesAs (length g.locals) (entering g inside rest) (exits_within g inside w)
  leaves_within = leaves_scope (added_by g inside) (length g.locals) (length inside.locals) rest w counted h

  pub leaves_declared : (d : tree.Declaration) → LeavesAs (length g.locals) (declares g inside d rest) (exits_of_declared g inside d w)
  leaves_declared (tree.Local t x i) =
      leaves_with_passage (length g.locals) (initial_value g i) (entering g inside rest) (passage_of_initial g i) (exits_within g inside w)
      (initial_does g i) leaves_within
  leaves_declared (tree.Region at r x) = leaves_within
  leaves_declared (tree.Open at r x y) = leaves_loan g at y (entering g inside rest) (exits_within g inside w) leaves_within
  leaves_declared (tree.Alias at r t x y) = leaves_loan g at y (entering g inside rest) (exits_within g inside w) leaves_within
  leaves_declared (tree.NewKey at r x) = leaves_within

-- ---- statements

freed_does : (g : Env) (at : ℕ) (x : tree.Name) → DoesAs (length g.locals) (freed g at x) (freed_local at x (number_of g.locals x.text))
freed_does g at x = by (find_local g.locals x.text) (number_of g.locals x.text) (numbered g.locals x.text) refl
  where
    by : (l : Option Local) (o : Option ℕ) → IsNumbered l o → number_of g.locals x.text ≡ o
        → DoesAs (length g.locals) (λ s. freed_by l g.locals at x s) (freed_local at x o)
    by None None h q = does_copy (length g.locals) true at
    by None (Some i) h q = absurd h
    by (Some l) None h q = absurd h
    by (Some l) (Some i) h q = subst (λ o. DoesAs (length g.locals) (freed_by (Some l) g.locals at x) (moved x.at o)) q (does_move g.locals x)

result_does : (g : Env) (v : Option Expression) → DoesAs (length g.locals) (result_value g v) (passage_of_result g v)
result_does g None = does_nothing (length g.locals)
result_does g (Some e) = (uses_told e g).value

mutual
  pub exits_told : (x : Statement) (g : Env) → LeavesAs (length g.locals) (left_by g x) (exits_of g x)
  exits_told (Statement.Empty at) g = leaves_at_end (length g.locals)
  exits_told (Statement.Block at items) g = items_told items (block_entered g)
  exits_told (Statement.Run e) g = leaves_after (length g.locals) (use_of g e).value (uses_of g e).value (uses_told e g).value
  exits_told (Statement.Exchange a b) g =
      leaves_after (length g.locals) (λ s. then_passed ((use_of g a).look s) (use_of g b).look) (in_turn (uses_of g a).look (uses_of g b).look)
      (does_in_turn (length g.locals) (use_of g a).look (use_of g b).look (uses_of g a).look (uses_of g b).look (uses_told a g).look
      (uses_told b g).look)
  exits_told (Statement.If at e body) g =
      let n : ℕ = length g.locals in
      leaves_with_passage n (use_of g e).look (λ t. either (left_by g body t) (left (Some t) None None [])) (uses_of g e).look
      (either_exits (exits_of g body) ends) (uses_told e g).look
      (leaves_either n (left_by g body) (λ t. left (Some t) None None []) (exits_of g body) ends (exits_told body g) (leaves_at_end n))
  exits_told (Statement.IfElse at e body otherwise) g =
      let n : ℕ = length g.locals in
      leaves_with_passage n (use_of g e).look (λ t. either (left_by g body t) (left_by g otherwise t)) (uses_of g e).look
      (either_exits (exits_of g body) (exits_of g otherwise)) (uses_told e g).look
      (leaves_either n (left_by g body) (left_by g otherwise) (exits_of g body) (exits_of g otherwise) (exits_told body g) (exits_told otherwise g))
  exits_told (Statement.While at e body) g =
      leaves_loop (length g.locals) (use_of g e).look (λ t. left_by (in_a_loop g) body t) (uses_of g e).look (exits_of (in_a_loop g) body)
      (uses_told e g).look (exits_told body (in_a_loop g))
  exits_told (Statement.Switch at e cs) g =
      let n : ℕ = length g.locals in
      let c : Option Chosen = chosen (judge g e) in
      leaves_with_passage n (use_of g e).look (λ t. switched_left (left_by_clauses (in_a_switch g) c cs t)) (uses_of g e).look
      (switch_left (exits_of_clauses (in_a_switch g) c cs)) (uses_told e g).look
      (leaves_switch n (left_by_clauses (in_a_switch g) c cs) (exits_of_clauses (in_a_switch g) c cs) (clauses_told cs (in_a_switch g) c))
  exits_told (Statement.Break at) g = leaves_by_break (length g.locals)
  exits_told (Statement.Continue at) g = leaves_by_continue (length g.locals)
  exits_told (Statement.Return at v) g = leaves_by_return (length g.locals) (result_value g v) (passage_of_result g v) (result_does g v)
  exits_told (Statement.FreeUnique at p) g =
      leaves_after (length g.locals) (freed g at p) (freed_local at p (number_of g.locals p.text)) (freed_does g at p)
  exits_told (Statement.FreeKey at y) g =
      leaves_after (length g.locals) (freed g at y) (freed_local at y (number_of g.locals y.text)) (freed_does g at y)

  pub items_told : (x : BlockItems) (g : Env) → LeavesAs (length g.locals) (left_by_items g x) (exits_of_items g x)
  items_told NoItems g = leaves_at_end (length g.locals)
  items_told (Declare d others) g =
      let inside : Env = (declare g d).scope in
      leaves_declared g inside (λ t. left_by_items inside others t) (exits_of_items inside others) (declared_counted g d) (items_told others inside) d
  items_told (Execute x others) g =
      leaves_in_sequence (length g.locals) (left_by g x) (left_by_items g others) (exits_of g x) (exits_of_items g others) (exits_told x g)
      (items_told others g)

  pub clauses_told : (cs : Clauses) (g : Env) (c : Option Chosen)
      → LeavesAs (length g.locals) (left_by_clauses g c cs) (exits_of_clauses g c cs)
  clauses_told NoClauses g c = leaves_nowhere (length g.locals)
  clauses_told (MoreClauses at pattern body others) g c =
      let inside : Env = clause_scope g c pattern in
      leaves_either (length g.locals) (entering g inside (λ t. left_by_items inside body t)) (left_by_clauses g c others)
      (exits_within g inside (exits_of_items inside body)) (exits_of_clauses g c others)
      (leaves_within g inside (λ t. left_by_items inside body t) (exits_of_items inside body) (clause_counted g c pattern) (items_told body inside))
      (clauses_told others g c)

-- ---- programs

pub body_told : (g : Env) (f : tree.Function) → earliest (body_flow g f) ≡ faults_of (fault_of_body g f)
body_told g f = (items_told f.body g).faults (states_at g)

item_told : (g : Tables) (i : ℕ) (x : Item) → earliest (flow_of g i x) ≡ faults_of (fault_of_item g i x)
item_told g i (tree.FunctionItem f) = body_told (body_scope false g i f (head_of false g f)) f
item_told g i (tree.StructItem s) = refl
item_told g i (tree.UnionItem u) = refl
item_told g i (tree.GlobalItem x) = refl

from_told : (g : Tables) (i : ℕ) (items : List Item) → earliest (flow_from g i items) ≡ faults_of (fault_from g i items)
from_told g i [] = refl
from_told g i (item ∷ items) =
    earliest_of_both (flow_of g i item) (flow_from g (suc i) items)
    ∙ ap₂ first_of (item_told g i item) (from_told g (suc i) items)
    ∙ sym (found_sooner (fault_of_item g i item) (fault_from g (suc i) items))

pub flow_told : (p : Program) → earliest (flow_faults p) ≡ faults_of (fault_of_flow p)
flow_told p = from_told (tables_of false p) 0 p
