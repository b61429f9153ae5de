-- Believed, for this crate's laws: what a statement does to locals that can't be copied: one line a form; and what is found of a program.
use Rattle.std.specs.Prelude.{List, None, Option, Some, false, length, suc, true, ℕ, [], ◌∷◌}
use Rattle.cyc_tree.specs.Tree.{BlockItems, Clauses, Declare, Execute, Expression, Initializer, Item, MoreClauses, NoClauses, NoItems, Program, Statement}
use Rattle.source_typing.specs.Declarations.{declare}
use Rattle.source_typing.specs.Expressions.{judge}
use Rattle.source_typing.specs.Functions.{body_scope, head_of}
use Rattle.source_typing.specs.Left.{added_by, states_at}
use Rattle.source_typing.specs.Programs.{tables_of}
use Rattle.source_typing.specs.Scope.{Env, block_entered}
use Rattle.source_typing.specs.Statements.{Chosen, chosen, clause_scope, in_a_loop, in_a_switch}
use Rattle.source_typing.specs.Tables.{Tables}
use Rattle.check_faults.specs.Faults.{sooner_found}
use Rattle.check_faults.specs.declared.fault.Fault.{Fault}
use Rattle.flow_summaries.specs.Effects.{no_effects}
use Rattle.flow_summaries.specs.Exits.{Exits, either_exits, ends, ends_after, entered, exits, exits_in_sequence, lent_in, loop_exits, no_exits}
use Rattle.flow_summaries.specs.Exits.{switch_left, with_passage}
use Rattle.flow_summaries.specs.Expressions.{uses_of}
use Rattle.flow_summaries.specs.Passages.{Passage, copied_if, faults_always, found_in, in_turn, moved, unchanged}
use Rattle.flow_summaries.specs.Uses.{number_of}
use Rattle.cyc_tree.specs.Tree as tree

-- ---- declarations

abbrev pub passage_of_initial : Env → Initializer → Passage
passage_of_initial g Initializer.Unset = unchanged
passage_of_initial g (Initializer.Elements n) = unchanged
passage_of_initial g (Initializer.Value e) = (uses_of g e).value

-- the rest of a block, in the scope of one more declaration
abbrev pub exits_within : Env → Env → Exits → Exits
exits_within outer inside rest = entered (length outer.locals) (length inside.locals) (added_by outer inside) rest

-- a declaration, and the rest of its block
abbrev pub exits_of_declared : Env → Env → tree.Declaration → Exits → Exits
exits_of_declared g inside (tree.Local t x i) rest = with_passage (passage_of_initial g i) (exits_within g inside rest)
exits_of_declared g inside (tree.Region at r x) rest = exits_within g inside rest
exits_of_declared g inside (tree.Open at r x k) rest = lent_in at k (number_of g.locals k.text) (exits_within g inside rest)
exits_of_declared g inside (tree.Alias at r t x p) rest = lent_in at p (number_of g.locals p.text) (exits_within g inside rest)
exits_of_declared g inside (tree.NewKey at r x) rest = exits_within g inside rest

-- ---- statements

-- a local that is freed is gone; a pointer that is no local isn't freed
abbrev pub freed_local : ℕ → tree.Name → Option ℕ → Passage
freed_local at x None = copied_if true at
freed_local at x (Some i) = moved x.at (Some i)

abbrev pub passage_of_result : Env → Option Expression → Passage
passage_of_result g None = unchanged
passage_of_result g (Some e) = (uses_of g e).value

abbrev mutual
  pub exits_of : Env → Statement → Exits
  exits_of g (Statement.Empty at) = ends
  exits_of g (Statement.Block at items) = exits_of_items (block_entered g) items
  exits_of g (Statement.Run e) = ends_after (uses_of g e).value
  exits_of g (Statement.Exchange a b) = ends_after (in_turn (uses_of g a).look (uses_of g b).look)
  exits_of g (Statement.If at e body) = with_passage (uses_of g e).look (either_exits (exits_of g body) ends)
  exits_of g (Statement.IfElse at e body otherwise) = with_passage (uses_of g e).look (either_exits (exits_of g body) (exits_of g otherwise))
  exits_of g (Statement.While at e body) = loop_exits (uses_of g e).look (exits_of (in_a_loop g) body)
  exits_of g (Statement.Switch at e cs) = with_passage (uses_of g e).look (switch_left (exits_of_clauses (in_a_switch g) (chosen (judge g e)) cs))
  exits_of g (Statement.Break at) = exits None (Some no_effects) None (faults_always None)
  exits_of g (Statement.Continue at) = exits None None (Some no_effects) (faults_always None)
  exits_of g (Statement.Return at v) = exits None None None (passage_of_result g v).faults
  exits_of g (Statement.FreeUnique at p) = ends_after (freed_local at p (number_of g.locals p.text))
  exits_of g (Statement.FreeKey at k) = ends_after (freed_local at k (number_of g.locals k.text))

  -- the items of a block
  pub exits_of_items : Env → BlockItems → Exits
  exits_of_items g NoItems = ends
  exits_of_items g (Declare d others) = exits_of_declared g (declare g d).scope d (exits_of_items (declare g d).scope others)
  exits_of_items g (Execute i others) = exits_in_sequence (exits_of g i) (exits_of_items g others)

  -- each clause is a way of its own
  pub exits_of_clauses : Env → Option Chosen → Clauses → Exits
  exits_of_clauses g c NoClauses = no_exits
  exits_of_clauses g c (MoreClauses at pattern body others) =
      either_exits (exits_within g (clause_scope g c pattern) (exits_of_items (clause_scope g c pattern) body)) (exits_of_clauses g c others)

-- ---- programs

-- the earliest fault of flow of a function, whose parameters that can't be copied begin as held
abbrev pub fault_of_body : Env → tree.Function → Option Fault
fault_of_body g f = found_in (length g.locals) (exits_of_items g f.body).faults (states_at g)

abbrev pub fault_of_item : Tables → ℕ → Item → Option Fault
fault_of_item g i (tree.FunctionItem f) = fault_of_body (body_scope false g i f (head_of false g f)) f
fault_of_item g i (tree.StructItem s) = None
fault_of_item g i (tree.UnionItem u) = None
fault_of_item g i (tree.GlobalItem x) = None

abbrev pub fault_from : Tables → ℕ → List Item → Option Fault
fault_from g i [] = None
fault_from g i (item ∷ items) = sooner_found (fault_of_item g i item) (fault_from g (suc i) items)

abbrev pub fault_of_flow : Program → Option Fault
fault_of_flow items = fault_from (tables_of false items) 0 items
