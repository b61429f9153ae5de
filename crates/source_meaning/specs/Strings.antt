-- Believed: the strings of a program, in the order of the text, each with its place there.
use Rattle.std.specs.Prelude.{ℕ, Option, Some, None, List, [], ◌∷◌, ◌++◌}
use Rattle.cyc_tree.specs.Tree as tree
use Rattle.cyc_tree.specs.Tree.{Expression, Expressions, NoExpressions, MoreExpressions, Links, NoLinks, MoreLinks, Suffixes, NoSuffixes, Index, Dot, Arrow}
use Rattle.cyc_tree.specs.Tree.{Made, One, Array, Initializer, Declaration, Statement, BlockItems, NoItems, Declare, Execute, Clauses, NoClauses, MoreClauses}
use Rattle.cyc_tree.specs.Tree.{Constant, Initial, Item, Program}

-- a literal: its place and its bytes
abbrev pub Literal : Type 0
Literal = ℕ × List ℕ

abbrev mutual
  -- of an expression
  pub expression_strings : Expression → List Literal
  expression_strings (Expression.Text at bytes) = (at, bytes) ∷ []
  expression_strings (Expression.Call name arguments) = expressions_strings arguments
  expression_strings (Expression.MakeUnion tag member value) = expression_strings value
  expression_strings (Expression.NumElts at operand) = expression_strings operand
  expression_strings (Expression.Grouped at inner) = expression_strings inner
  expression_strings (Expression.Suffixed primary suffixes) = expression_strings primary ++ suffixes_strings suffixes
  expression_strings (Expression.Prefixed at operator operand) = expression_strings operand
  expression_strings (Expression.New at new) = made_strings new
  expression_strings (Expression.NewIn at handle new) = expression_strings handle ++ made_strings new
  expression_strings (Expression.Chain first others) = expression_strings first ++ links_strings others
  expression_strings (Expression.AllOf first others) = expression_strings first ++ expressions_strings others
  expression_strings (Expression.AnyOf first others) = expression_strings first ++ expressions_strings others
  expression_strings (Expression.Assign place value) = expression_strings place ++ expression_strings value
  expression_strings _ = []

  -- of arguments or operands
  pub expressions_strings : Expressions → List Literal
  expressions_strings NoExpressions = []
  expressions_strings (MoreExpressions first others) = expression_strings first ++ expressions_strings others

  -- of the other operands of one level
  pub links_strings : Links → List Literal
  links_strings NoLinks = []
  links_strings (MoreLinks operator operand others) = expression_strings operand ++ links_strings others

  -- of subscripts
  pub suffixes_strings : Suffixes → List Literal
  suffixes_strings NoSuffixes = []
  suffixes_strings (Index index others) = expression_strings index ++ suffixes_strings others
  suffixes_strings (Dot member others) = suffixes_strings others
  suffixes_strings (Arrow member others) = suffixes_strings others

  -- of what is made
  pub made_strings : Made → List Literal
  made_strings (One value) = expression_strings value
  made_strings (Array index count element) = expression_strings count ++ expression_strings element

-- of an initializer
abbrev pub initializer_strings : Initializer → List Literal
initializer_strings Initializer.Unset = []
initializer_strings (Initializer.Elements count) = []
initializer_strings (Initializer.Value e) = expression_strings e

-- of a declaration
abbrev pub declaration_strings : Declaration → List Literal
declaration_strings (tree.Local of name initializer) = initializer_strings initializer
declaration_strings _ = []

-- of a result
abbrev pub returned_strings : Option Expression → List Literal
returned_strings None = []
returned_strings (Some e) = expression_strings e

abbrev mutual
  -- of a statement
  pub statement_strings : Statement → List Literal
  statement_strings (Statement.Block at items) = items_strings items
  statement_strings (Statement.Run e) = expression_strings e
  statement_strings (Statement.Exchange left right) = expression_strings left ++ expression_strings right
  statement_strings (Statement.If at condition body) = expression_strings condition ++ statement_strings body
  statement_strings (Statement.IfElse at condition body otherwise) =
      expression_strings condition ++ (statement_strings body ++ statement_strings otherwise)
  statement_strings (Statement.While at condition body) = expression_strings condition ++ statement_strings body
  statement_strings (Statement.Switch at place clauses) = expression_strings place ++ clauses_strings clauses
  statement_strings (Statement.Return at value) = returned_strings value
  statement_strings _ = []

  -- of a block
  pub items_strings : BlockItems → List Literal
  items_strings NoItems = []
  items_strings (Declare d others) = declaration_strings d ++ items_strings others
  items_strings (Execute s others) = statement_strings s ++ items_strings others

  -- of the clauses of a `switch`
  pub clauses_strings : Clauses → List Literal
  clauses_strings NoClauses = []
  clauses_strings (MoreClauses at pattern body others) = items_strings body ++ clauses_strings others

-- of a constant
abbrev pub constant_strings : Constant → List Literal
constant_strings (Constant.Text at bytes) = (at, bytes) ∷ []
constant_strings _ = []

-- of what a global begins with
abbrev pub initial_strings : Initial → List Literal
initial_strings (Initial.Given c) = constant_strings c
initial_strings _ = []

-- of an item
abbrev pub item_strings : Item → List Literal
item_strings (tree.GlobalItem g) = initial_strings g.initial
item_strings (tree.FunctionItem f) = items_strings f.body
item_strings _ = []

-- of a program
abbrev pub program_strings : Program → List Literal
program_strings [] = []
program_strings (i ∷ others) = item_strings i ++ program_strings others
