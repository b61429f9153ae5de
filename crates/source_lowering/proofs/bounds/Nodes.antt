-- How many nodes expressions have, whatever their values: each takes four temporaries, and passes three words, at most. An assignment takes none of its own.
-- And how many regions a statement opens, each of which takes one, and how many indices its expressions have.
use Rattle.std.proofs.Common.{ℕ, ◌+◌, Some}
use Rattle.cyc_tree.specs.Tree as tree
use Rattle.cyc_tree.specs.Tree.{Expression, Expressions, NoExpressions, MoreExpressions, Links, NoLinks, MoreLinks, Suffixes, NoSuffixes, Index, Dot, Arrow}
use Rattle.cyc_tree.specs.Tree.{Made, One, Array, Initializer, Declaration, Statement, BlockItems, NoItems, Declare, Execute, Clauses, NoClauses, MoreClauses}
use Rattle.source_meaning.specs.Shapes.{Shape, VoidShape}
use Rattle.source_meaning.specs.Steps.{World}
use Rattle.source_lowering.specs.Lowered.{call_shape}
use Rattle.source_lowering.specs.Order.{indices_in, indices_in_declaration}

-- ---- expressions

abbrev mutual
  pub expression_count : Expression → ℕ
  expression_count (Expression.Call name arguments) = 1 + argument_count arguments
  expression_count (Expression.MakeUnion tag member value) = 1 + expression_count value
  expression_count (Expression.NumElts at operand) = 1 + expression_count operand
  expression_count (Expression.Grouped at inner) = expression_count inner
  expression_count (Expression.Suffixed primary suffixes) = expression_count primary + suffix_count suffixes
  expression_count (Expression.Prefixed at operator operand) = 1 + expression_count operand
  expression_count (Expression.Chain first others) = expression_count first + link_count others
  expression_count (Expression.AllOf first others) = expression_count first + joined_count others
  expression_count (Expression.AnyOf first others) = expression_count first + joined_count others
  expression_count (Expression.Assign place value) = expression_count place + expression_count value
  expression_count (Expression.New at new) = 1 + made_count new
  expression_count (Expression.NewIn at handle new) = 1 + (expression_count handle + made_count new)
  expression_count _ = 1

  pub made_count : Made → ℕ
  made_count (One value) = expression_count value
  made_count (Array index count element) = expression_count count + expression_count element

  pub argument_count : Expressions → ℕ
  argument_count NoExpressions = 0
  argument_count (MoreExpressions first others) = expression_count first + argument_count others

  -- operands of `&&` and `||` after the first, with the operators before them
  pub joined_count : Expressions → ℕ
  joined_count NoExpressions = 0
  joined_count (MoreExpressions first others) = 1 + (expression_count first + joined_count others)

  pub link_count : Links → ℕ
  link_count NoLinks = 0
  link_count (MoreLinks operator operand others) = 1 + (expression_count operand + link_count others)

  pub suffix_count : Suffixes → ℕ
  suffix_count NoSuffixes = 0
  suffix_count (Index index others) = 1 + (expression_count index + suffix_count others)
  suffix_count (Dot f others) = 1 + suffix_count others
  suffix_count (Arrow f others) = 1 + suffix_count others

-- what a result counts as: nothing is no value
abbrev pub result_count : Shape → ℕ
result_count VoidShape = 0
result_count s = 1

-- of an expression that is a statement: a call may have no value
abbrev pub run_count : World → Expression → ℕ
run_count w (Expression.Call name arguments) = result_count (call_shape w name.text) + argument_count arguments
run_count w (Expression.Grouped at inner) = run_count w inner
run_count w e = expression_count e

-- ---- statements

abbrev pub initializer_count : Initializer → ℕ
initializer_count Initializer.Unset = 0
initializer_count (Initializer.Elements count) = 0
initializer_count (Initializer.Value e) = expression_count e

abbrev pub declaration_count : Declaration → ℕ
declaration_count (tree.Local of name initializer) = initializer_count initializer
declaration_count _ = 0

abbrev mutual
  pub statement_count : World → Statement → ℕ
  statement_count w (Statement.Block at items) = item_count w items
  statement_count w (Statement.Run e) = run_count w e
  statement_count w (Statement.Exchange left right) = expression_count left + expression_count right
  statement_count w (Statement.If at condition body) = expression_count condition + statement_count w body
  statement_count w (Statement.IfElse at condition body otherwise) = expression_count condition + (statement_count w body + statement_count w otherwise)
  statement_count w (Statement.While at condition body) = expression_count condition + statement_count w body
  statement_count w (Statement.Switch at place clauses) = expression_count place + clause_count w clauses
  statement_count w (Statement.Return at (Some e)) = expression_count e
  statement_count w _ = 0

  pub item_count : World → BlockItems → ℕ
  item_count w NoItems = 0
  item_count w (Declare d others) = declaration_count d + item_count w others
  item_count w (Execute s others) = statement_count w s + item_count w others

  pub clause_count : World → Clauses → ℕ
  clause_count w NoClauses = 0
  clause_count w (MoreClauses at label body others) = item_count w body + clause_count w others

-- ---- regions: the handle of each that is open is in a temporary

-- how many regions a declaration opens: one, or none
abbrev pub region_count : Declaration → ℕ
region_count (tree.Region at region handle) = 1
region_count (tree.Open at region handle key) = 1
region_count _ = 0

-- those that the declarations in a statement open
abbrev mutual
  pub statement_regions : Statement → ℕ
  statement_regions (Statement.Block at items) = item_regions items
  statement_regions (Statement.If at condition body) = statement_regions body
  statement_regions (Statement.IfElse at condition body otherwise) = statement_regions body + statement_regions otherwise
  statement_regions (Statement.While at condition body) = statement_regions body
  statement_regions (Statement.Switch at place clauses) = clause_regions clauses
  statement_regions _ = 0

  pub item_regions : BlockItems → ℕ
  item_regions NoItems = 0
  item_regions (Declare d others) = region_count d + item_regions others
  item_regions (Execute s others) = statement_regions s + item_regions others

  pub clause_regions : Clauses → ℕ
  clause_regions NoClauses = 0
  clause_regions (MoreClauses at label body others) = item_regions body + clause_regions others

-- ---- indices: each stands in a block of its own

-- those of the expressions in a statement
abbrev mutual
  pub statement_indices : Statement → ℕ
  statement_indices (Statement.Block at items) = item_indices items
  statement_indices (Statement.Run e) = indices_in e
  statement_indices (Statement.Exchange left right) = indices_in left + indices_in right
  statement_indices (Statement.If at condition body) = indices_in condition + statement_indices body
  statement_indices (Statement.IfElse at condition body otherwise) = indices_in condition + (statement_indices body + statement_indices otherwise)
  statement_indices (Statement.While at condition body) = indices_in condition + statement_indices body
  statement_indices (Statement.Switch at place clauses) = indices_in place + clause_indices clauses
  statement_indices (Statement.Return at (Some e)) = indices_in e
  statement_indices _ = 0

  pub item_indices : BlockItems → ℕ
  item_indices NoItems = 0
  item_indices (Declare d others) = indices_in_declaration d + item_indices others
  item_indices (Execute s others) = statement_indices s + item_indices others

  pub clause_indices : Clauses → ℕ
  clause_indices NoClauses = 0
  clause_indices (MoreClauses at label body others) = item_indices body + clause_indices others
