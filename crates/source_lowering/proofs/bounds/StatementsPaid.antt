-- What the nodes of a statement count is enough for its temporaries, for the words that it passes and for its temporary objects.
use Rattle.std.proofs.Common.{◌≡◌, ℕ, suc, ◌+◌, ◌*◌, ◌≤◌, List, ◌∷◌, ◌++◌, Bool, true, false, Some, refl, sym, subst, arith}
use Rattle.std.specs.Prelude.{if◌then◌else◌}
use Rattle.cyc_tree.specs.Tree as tree
use Rattle.cyc_tree.specs.Tree.{Name, Expression, Expressions, Initializer, Declaration, Statement, BlockItems, NoItems, Declare, Execute, Clauses, NoClauses}
use Rattle.cyc_tree.specs.Tree.{MoreClauses, Case, Default}
use Rattle.source_meaning.specs.Shapes.{Shape, VoidShape, StructShape, UnionShape, Part, part_shape, written}
use Rattle.source_meaning.specs.Steps.{World}
use Rattle.source_lowering.specs.Lowered.{Named, static_shape, call_shape, union_parts, expression_values}
use Rattle.source_lowering.specs.Whole.{makes_struct, is_made, whole_values, assigned_values, dropped_values, run_values}
use Rattle.source_lowering.specs.Programs.{named_here, outward, initial_values, declaration_values, statement_values, item_values, case_values}
use Rattle.source_lowering.specs.Programs.{default_values}
use Rattle.source_lowering.specs.Lowerable.{
  Takes,
  TakesPlace,
  TakesWhole,
  TakesAssigned,
  TakesDropped,
  TakesCalled,
  TakesRun,
  TakesValue,
  TakesDeclaration,
  TakesStatement,
  TakesItems,
  TakesClauses,
}
use Rattle.source_lowering.specs.Bounds.{
  value_words,
  assigned_node,
  frame_nodes,
  argument_nodes,
  result_words,
  run_nodes,
  declaration_nodes,
  statement_nodes,
  item_nodes,
  clause_nodes,
}
use Rattle.source_lowering.proofs.bounds.Nodes.{expression_count, argument_count, result_count, run_count, declaration_count, statement_count, item_count}
use Rattle.source_lowering.proofs.bounds.Nodes.{clause_count, clause_indices, item_indices, statement_indices}
use Rattle.source_lowering.specs.Order.{indices_in, indices_in_all, indices_in_declaration}
use Rattle.source_lowering.proofs.bounds.LocalWords.{shapes_words}
use Rattle.source_lowering.proofs.bounds.NodesPaid.{Pays, words_both, made_shape, nothing_pays, both_pay, assigned_pays, arguments_paid, expression_paid}
use Rattle.source_lowering.proofs.bounds.NodesPaid.{place_paid}
use Rattle.source_lowering.proofs.bounds.NodesPaid.{whole_paid}
use Rattle.source_lowering.proofs.bounds.WholeObjects.{unmade_place}
use Rattle.source_meaning.specs.Shapes.{settled_by}
use Rattle.source_lowering.specs.Programs.{names_behind}

-- ---- expressions that are statements

assigned_paid : (w : World) (names : List Named) (s : Shape) (place value : Expression) (k : ℕ) → TakesAssigned w names s place value
    → Pays w (expression_count place + expression_count value) (indices_in value + indices_in place)
    (k + (frame_nodes w names place + frame_nodes w names value))
    (assigned_values w names s place value)
assigned_paid w names s place value k h = by s h
  where
    paid : (values : List Shape) → TakesPlace w names place → Pays w (expression_count value) (indices_in value) (frame_nodes w names value) values
        → Pays w (expression_count place + expression_count value) (indices_in value + indices_in place)
        (k + (frame_nodes w names place + frame_nodes w names value))
        (values ++ expression_values w names place)
    paid values to from =
        assigned_pays w (expression_count place) (frame_nodes w names place) (expression_count value) (frame_nodes w names value) k _ values
        (place_paid w names place to) from

    by : (of : Shape) → TakesAssigned w names of place value
        → Pays w (expression_count place + expression_count value) (indices_in value + indices_in place)
        (k + (frame_nodes w names place + frame_nodes w names value))
        (assigned_values w names of place value)
    by (StructShape tag) h = paid (whole_values w names value) h.0 (whole_paid w names value h.1.0)
    by (UnionShape tag) h = paid (whole_values w names value) h.0 (whole_paid w names value h.1.0)
    by _ h = paid (expression_values w names value) h.0 (expression_paid w names value h.1.0)

dropped_paid : (w : World) (names : List Named) (s : Shape) (e : Expression) → TakesDropped w names s e
    → Pays w (expression_count e) (indices_in e) (frame_nodes w names e) (dropped_values w names s e)
dropped_paid w names (StructShape tag) e h = whole_paid w names e h
dropped_paid w names (UnionShape tag) e h = whole_paid w names e h
dropped_paid w names _ e h = expression_paid w names e h

-- a call may have no value
result_pays : (w : World) (s : Shape) → 7 * result_count s ≤ 4 * (1 + result_words w s)
result_pays w VoidShape = omega arith
result_pays w s = by (value_words w s) (one s)
  where
    one : (of : Shape) → 1 ≤ value_words w of
    one of = omega arith

    by : (x : ℕ) → 1 ≤ x → 7 * 1 ≤ 4 * (1 + x)
    by x h = omega (arith, h)

call_paid : (w : World) (names : List Named) (name : Name) (arguments : Expressions)
    → TakesCalled (makes_struct w name.text) (TakesWhole w names (Expression.Call name arguments)) (Takes w names (Expression.Call name arguments))
    → Pays w (run_count w (Expression.Call name arguments)) (indices_in_all arguments) (run_nodes w names (Expression.Call name arguments))
    (run_values w names (Expression.Call name arguments))
call_paid w names name arguments h = by (makes_struct w name.text) refl h
  where
    e : Expression
    e = Expression.Call name arguments

    called : (s : Shape) → Pays w (argument_count arguments) (indices_in_all arguments) (argument_nodes w names arguments) (expression_values w names e)
        → Pays w (result_count s + argument_count arguments) (indices_in_all arguments) (1 + result_words w s + argument_nodes w names arguments)
        (expression_values w names e)
    called s a = sum (result_words w s) (result_pays w s)
      where
        sum : (x : ℕ) → 7 * result_count s ≤ 4 * (1 + x)
            → Pays w (result_count s + argument_count arguments) (indices_in_all arguments) (1 + x + argument_nodes w names arguments)
            (expression_values w names e)
        sum x h = let f = a.less in record { less = omega (arith, f, h) }

    by : (made : Bool) → makes_struct w name.text ≡ made → TakesCalled made (TakesWhole w names e) (Takes w names e)
        → Pays w (run_count w e) (indices_in e) (run_nodes w names e) (if made then whole_values w names e else expression_values w names e)
    by true is h =
        let a = whole_paid w names e h in
        subst
        (λ s. Pays w (result_count s + argument_count arguments) (indices_in_all arguments) (1 + result_words w s + argument_nodes w names arguments)
        (whole_values w names e))
        (sym (made_shape w name.text is))
        (subst
        (λ s. Pays w (1 + argument_count arguments) (indices_in_all arguments) (1 + value_words w s + argument_nodes w names arguments)
        (whole_values w names e))
        (made_shape w name.text is) a)
    by false is h = called (call_shape w name.text) (arguments_paid w names arguments h.1)

run_paid : (w : World) (names : List Named) (e : Expression) → TakesRun w names e
    → Pays w (run_count w e) (indices_in e) (run_nodes w names e) (run_values w names e)
run_paid w names (Expression.Assign place value) h =
    assigned_paid w names (static_shape w names place) place value (assigned_node w (static_shape w names place)) h
run_paid w names (Expression.Grouped at inner) h = run_paid w names inner h
run_paid w names (Expression.Call name arguments) h = call_paid w names name arguments h
run_paid w names e h = dropped_paid w names (static_shape w names e) e h

-- ---- declarations

initial_paid : (w : World) (names : List Named) (s : Shape) (e : Expression) → TakesValue w names s e
    → Pays w (expression_count e) (indices_in e) (frame_nodes w names e) (initial_values w names s e)
initial_paid w names s e h = by s h
  where
    whole : TakesWhole w names e → (made : Bool) → is_made w e ≡ made
        → Pays w (expression_count e) (indices_in e) (frame_nodes w names e) (if made then whole_values w names e else expression_values w names e)
    whole h true is = whole_paid w names e h
    whole h false is = place_paid w names e (unmade_place w names e h is)

    by : (of : Shape) → TakesValue w names of e → Pays w (expression_count e) (indices_in e) (frame_nodes w names e) (initial_values w names of e)
    by (StructShape tag) h = whole h (is_made w e) refl
    by (UnionShape tag) h = whole h (is_made w e) refl
    by _ h = expression_paid w names e h

declaration_paid : (w : World) (names : List Named) (d : Declaration) → TakesDeclaration w names d
    → Pays w (declaration_count d) (indices_in_declaration d) (declaration_nodes w names d) (declaration_values w names d)
declaration_paid w names (tree.Local of name (Initializer.Value e)) h = initial_paid w names (settled_by (written of) (static_shape w names e)) e h.1
declaration_paid w names (tree.Local of name Initializer.Unset) h = nothing_pays w 0
declaration_paid w names (tree.Local of name (Initializer.Elements count)) h = nothing_pays w 0
declaration_paid w names (tree.Region at region handle) h = nothing_pays w 0
declaration_paid w names (tree.Alias at region of alias pointer) h = nothing_pays w 0
declaration_paid w names (tree.Open at region handle key) h = nothing_pays w 0
declaration_paid w names (tree.NewKey at region key) h = nothing_pays w 0

-- ---- statements

-- clauses with a name, and the `default` behind them
record ClausesPay (w : World) (c i n : ℕ) (named last : List Shape) : Type 0 where
  less : 7 * c + (i + (shapes_words w named + shapes_words w last)) ≤ 4 * n

clauses_pay : {i : ℕ} (w : World) (c n : ℕ) (named last : List Shape) → ClausesPay w c i n named last → Pays w c i n (named ++ last)
clauses_pay w c n named last a = let h = words_both w named last in let f = a.less in record { less = omega (arith, h, f) }

one_more : {i j : ℕ} (w : World) (c n d m : ℕ) (xs named last : List Shape) → Pays w c i n xs → ClausesPay w d j m named last
    → ClausesPay w (c + d) (i + j) (n + m) (xs ++ named) last
one_more w c n d m xs named last a b =
    let h = words_both w xs named in let f = a.less in let g = b.less in record { less = omega (arith, h, f, g) }

default_more : {i j : ℕ} (w : World) (c n d m : ℕ) (xs named last : List Shape) → Pays w c i n xs → ClausesPay w d j m named last
    → ClausesPay w (c + d) (i + j) (n + m) named xs
default_more w c n d m xs named last a b = let f = a.less in let g = b.less in record { less = omega (arith, f, g) }

mutual
  statement_paid : (w : World) (result : Shape) (names : List Named) (s : Statement) → TakesStatement w result names s
      → Pays w (statement_count w s) (statement_indices s) (statement_nodes w names s) (statement_values w names s)
  statement_paid w result names (Statement.Block at items) h = items_paid w result (outward names) 0 items h
  statement_paid w result names (Statement.Run e) h = run_paid w names e h
  statement_paid w result names (Statement.Exchange left right) h =
      both_pay w (expression_count left) (frame_nodes w names left) (expression_count right) (frame_nodes w names right) _ _
      (place_paid w names left h.0) (place_paid w names right h.1.0)
  statement_paid w result names (Statement.If at condition body) h =
      both_pay w (expression_count condition) (frame_nodes w names condition) (statement_count w body) (statement_nodes w names body) _ _
      (expression_paid w names condition h.0) (statement_paid w result names body h.1)
  statement_paid w result names (Statement.IfElse at condition body otherwise) h =
      both_pay w (expression_count condition) (frame_nodes w names condition) (statement_count w body + statement_count w otherwise)
      (statement_nodes w names body + statement_nodes w names otherwise) _ _ (expression_paid w names condition h.0)
      (both_pay w (statement_count w body) (statement_nodes w names body) (statement_count w otherwise) (statement_nodes w names otherwise) _ _
      (statement_paid w result names body h.1.0) (statement_paid w result names otherwise h.1.1))
  statement_paid w result names (Statement.While at condition body) h =
      both_pay w (expression_count condition) (frame_nodes w names condition) (statement_count w body) (statement_nodes w names body) _ _
      (expression_paid w names condition h.0) (statement_paid w result names body h.1)
  statement_paid w result names (Statement.Switch at place clauses) h =
      let parts = union_parts w (static_shape w names place) in
      both_pay w (expression_count place) (frame_nodes w names place) (clause_count w clauses) (clause_nodes w names parts clauses) _ _
      (place_paid w names place h.0)
      (clauses_pay w (clause_count w clauses) (clause_nodes w names parts clauses) (case_values w names parts clauses) (default_values w names clauses)
      (clauses_paid w result names parts clauses h.1.1))
  statement_paid w result names (Statement.Return at (Some e)) h = expression_paid w names e h
  statement_paid w result names _ h = nothing_pays w 0

  pub items_paid : (w : World) (result : Shape) (names : List Named) (index : ℕ) (items : BlockItems) → TakesItems w result names index items
      → Pays w (item_count w items) (item_indices items) (item_nodes w names index items) (item_values w names index items)
  items_paid w result names index NoItems h = nothing_pays w 0
  items_paid w result names index (Declare d others) h =
      let inside = names_behind w names index d in
      both_pay w (declaration_count d) (declaration_nodes w names d) (item_count w others) (item_nodes w inside (suc index) others) _ _
      (declaration_paid w names d h.0) (items_paid w result inside (suc index) others h.1)
  items_paid w result names index (Execute s others) h =
      both_pay w (statement_count w s) (statement_nodes w names s) (item_count w others) (item_nodes w names index others) _ _
      (statement_paid w result names s h.0) (items_paid w result names index others h.1)

  clauses_paid : (w : World) (result : Shape) (names : List Named) (parts : List Part) (clauses : Clauses) → TakesClauses w result names parts clauses
      → ClausesPay w (clause_count w clauses) (clause_indices clauses) (clause_nodes w names parts clauses) (case_values w names parts clauses)
      (default_values w names clauses)
  clauses_paid w result names parts NoClauses h = record { less = omega arith }
  clauses_paid w result names parts (MoreClauses at (Case f x) body others) h =
      let inside = named_here x.text (part_shape parts f.text) 0 ∷ outward names in
      one_more w (item_count w body) (item_nodes w inside 1 body) (clause_count w others) (clause_nodes w names parts others) _ _ _
      (items_paid w result inside 1 body h.1.0) (clauses_paid w result names parts others h.1.1)
  clauses_paid w result names parts (MoreClauses at Default body others) h =
      default_more w (item_count w body) (item_nodes w (outward names) 0 body) (clause_count w others) (clause_nodes w names parts others) _ _ _
      (items_paid w result (outward names) 0 body h.0) (clauses_paid w result names parts others h.1)
