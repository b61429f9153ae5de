-- Believed: the names that the calls of a function's body name, in the order of the text; the making of a struct is written like a call, and is among them.
use Rattle.std.specs.Prelude.{ℕ, Option, Some, None, List, [], ◌∷◌, ◌++◌}
use Rattle.cyc_tree.specs.Tree as tree
use Rattle.cyc_tree.specs.Tree.{Expression, Expressions, NoExpressions, MoreExpressions, Links, NoLinks, MoreLinks, Suffixes, NoSuffixes, Index, Dot, Arrow}
use Rattle.cyc_tree.specs.Tree.{Made, One, Array, Initializer, Declaration, Statement, BlockItems, NoItems, Declare, Execute, Clauses, NoClauses, MoreClauses}

abbrev mutual
  -- of an expression
  pub expression_callees : Expression → List (List ℕ)
  expression_callees (Expression.Call name arguments) = name.text ∷ expressions_callees arguments
  expression_callees (Expression.MakeUnion tag member value) = expression_callees value
  expression_callees (Expression.NumElts at operand) = expression_callees operand
  expression_callees (Expression.Grouped at inner) = expression_callees inner
  expression_callees (Expression.Suffixed primary suffixes) = expression_callees primary ++ suffixes_callees suffixes
  expression_callees (Expression.Prefixed at operator operand) = expression_callees operand
  expression_callees (Expression.New at new) = made_callees new
  expression_callees (Expression.NewIn at handle new) = expression_callees handle ++ made_callees new
  expression_callees (Expression.Chain first others) = expression_callees first ++ links_callees others
  expression_callees (Expression.AllOf first others) = expression_callees first ++ expressions_callees others
  expression_callees (Expression.AnyOf first others) = expression_callees first ++ expressions_callees others
  expression_callees (Expression.Assign place value) = expression_callees place ++ expression_callees value
  expression_callees _ = []

  -- of arguments or operands
  pub expressions_callees : Expressions → List (List ℕ)
  expressions_callees NoExpressions = []
  expressions_callees (MoreExpressions first others) = expression_callees first ++ expressions_callees others

  -- of the other operands of one level
  pub links_callees : Links → List (List ℕ)
  links_callees NoLinks = []
  links_callees (MoreLinks operator operand others) = expression_callees operand ++ links_callees others

  -- of subscripts
  pub suffixes_callees : Suffixes → List (List ℕ)
  suffixes_callees NoSuffixes = []
  suffixes_callees (Index index others) = expression_callees index ++ suffixes_callees others
  suffixes_callees (Dot member others) = suffixes_callees others
  suffixes_callees (Arrow member others) = suffixes_callees others

  -- of what is made
  pub made_callees : Made → List (List ℕ)
  made_callees (One value) = expression_callees value
  made_callees (Array index count element) = expression_callees count ++ expression_callees element

-- of an initializer
abbrev pub initializer_callees : Initializer → List (List ℕ)
initializer_callees Initializer.Unset = []
initializer_callees (Initializer.Elements count) = []
initializer_callees (Initializer.Value e) = expression_callees e

-- of a declaration
abbrev pub declaration_callees : Declaration → List (List ℕ)
declaration_callees (tree.Local of name initializer) = initializer_callees initializer
declaration_callees _ = []

-- of a result
abbrev pub returned_callees : Option Expression → List (List ℕ)
returned_callees None = []
returned_callees (Some e) = expression_callees e

abbrev mutual
  -- of a statement
  pub statement_callees : Statement → List (List ℕ)
  statement_callees (Statement.Block at items) = items_callees items
  statement_callees (Statement.Run e) = expression_callees e
  statement_callees (Statement.Exchange left right) = expression_callees left ++ expression_callees right
  statement_callees (Statement.If at condition body) = expression_callees condition ++ statement_callees body
  statement_callees (Statement.IfElse at condition body otherwise) =
      expression_callees condition ++ (statement_callees body ++ statement_callees otherwise)
  statement_callees (Statement.While at condition body) = expression_callees condition ++ statement_callees body
  statement_callees (Statement.Switch at place clauses) = expression_callees place ++ clauses_callees clauses
  statement_callees (Statement.Return at value) = returned_callees value
  statement_callees _ = []

  -- of a block, as a function's body is one
  pub items_callees : BlockItems → List (List ℕ)
  items_callees NoItems = []
  items_callees (Declare d others) = declaration_callees d ++ items_callees others
  items_callees (Execute s others) = statement_callees s ++ items_callees others

  -- of the clauses of a `switch`
  pub clauses_callees : Clauses → List (List ℕ)
  clauses_callees NoClauses = []
  clauses_callees (MoreClauses at pattern body others) = items_callees body ++ clauses_callees others
