-- How deep the phrases of a part nest, by its parts: a recursion that proofs go by. It is the greatest depth of the part's phrases, by which nesting is
-- defined (proofs/PartDepths.antt).
use Rattle.std.specs.Prelude.{ℕ, ◌+◌, max, [], ◌∷◌, Some, None}
use Rattle.cyc_tree.specs.Tree.{Expression, Number, Character, Text, Null, HeapRegion, UniqueRegion, Variable, Call, MakeUnion, NumElts, Grouped, Suffixed}
use Rattle.cyc_tree.specs.Tree.{Prefixed, New, NewIn, Chain, AllOf, AnyOf, Assign, Expressions, NoExpressions, MoreExpressions, Links, NoLinks, MoreLinks}
use Rattle.cyc_tree.specs.Tree.{Suffixes, NoSuffixes, Index, Dot, Arrow, Made, One, Array}
use Rattle.cyc_tree.specs.Tree as tree
use Rattle.cyc_tree.specs.Tree.{Initializer, Declaration, Local, Statement, Empty, Block, Run, Exchange, If, IfElse, While, Switch, Break, Continue, Return}
use Rattle.cyc_tree.specs.Tree.{FreeUnique, FreeKey, BlockItems, NoItems, Declare, Execute, Clauses, NoClauses, MoreClauses, Item, StructItem, UnionItem}
use Rattle.cyc_tree.specs.Tree.{GlobalItem, FunctionItem, Program}

abbrev mutual
  -- of an expression, itself not counted: its operands are unary expressions, as far as they go
  pub inner_nesting : Expression → ℕ
  inner_nesting (Number at value suffix) = 1
  inner_nesting (Character at byte) = 1
  inner_nesting (Text at bytes) = 1
  inner_nesting (Null at) = 1
  inner_nesting (HeapRegion at) = 1
  inner_nesting (UniqueRegion at) = 1
  inner_nesting (Variable name) = 1
  inner_nesting (Call name arguments) = 1 + argument_nesting arguments
  inner_nesting (MakeUnion tag member value) = 2 + inner_nesting value
  inner_nesting (NumElts at operand) = 2 + inner_nesting operand
  inner_nesting (Grouped at inner) = 2 + inner_nesting inner
  inner_nesting (Suffixed primary suffixes) = max (inner_nesting primary) (1 + suffix_nesting suffixes)
  inner_nesting (Prefixed at operator operand) = 1 + inner_nesting operand
  inner_nesting (New at made) = 1 + made_nesting made
  inner_nesting (NewIn at handle made) = 1 + max (1 + inner_nesting handle) (made_nesting made)
  inner_nesting (Chain first others) = max (inner_nesting first) (link_nesting others)
  inner_nesting (AllOf first others) = max (inner_nesting first) (operand_nesting others)
  inner_nesting (AnyOf first others) = max (inner_nesting first) (operand_nesting others)
  inner_nesting (Assign place value) = max (inner_nesting place) (1 + inner_nesting value)

  -- of arguments, each of which is an expression
  pub argument_nesting : Expressions → ℕ
  argument_nesting NoExpressions = 0
  argument_nesting (MoreExpressions first others) = max (1 + inner_nesting first) (argument_nesting others)

  -- of operands
  pub operand_nesting : Expressions → ℕ
  operand_nesting NoExpressions = 0
  operand_nesting (MoreExpressions first others) = max (inner_nesting first) (operand_nesting others)

  pub link_nesting : Links → ℕ
  link_nesting NoLinks = 0
  link_nesting (MoreLinks operator operand others) = max (inner_nesting operand) (link_nesting others)

  pub suffix_nesting : Suffixes → ℕ
  suffix_nesting NoSuffixes = 0
  suffix_nesting (Index index others) = max (1 + inner_nesting index) (suffix_nesting others)
  suffix_nesting (Dot member others) = suffix_nesting others
  suffix_nesting (Arrow member others) = suffix_nesting others

  pub made_nesting : Made → ℕ
  made_nesting (One value) = inner_nesting value
  made_nesting (Array index count element) = max (1 + inner_nesting count) (1 + inner_nesting element)

-- of a whole expression
abbrev pub expression_nesting : Expression → ℕ
expression_nesting e = 1 + inner_nesting e

abbrev pub initializer_nesting : Initializer → ℕ
initializer_nesting tree.Unset = 0
initializer_nesting (tree.Elements count) = 0
initializer_nesting (tree.Value e) = expression_nesting e

abbrev pub declaration_nesting : Declaration → ℕ
declaration_nesting (Local of name initializer) = initializer_nesting initializer
declaration_nesting (tree.Region at region handle) = 0
declaration_nesting (tree.Open at region handle key) = 0
declaration_nesting (tree.Alias at region of alias pointer) = 0
declaration_nesting (tree.NewKey at region key) = 0

abbrev mutual
  pub statement_nesting : Statement → ℕ
  statement_nesting (Empty at) = 1
  statement_nesting (Block at items) = 1 + items_nesting items
  statement_nesting (Run e) = 1 + expression_nesting e
  statement_nesting (Exchange left right) = 1 + max (expression_nesting left) (expression_nesting right)
  statement_nesting (If at condition body) = 1 + max (expression_nesting condition) (statement_nesting body)
  statement_nesting (IfElse at condition body otherwise) =
      1 + max (expression_nesting condition) (max (statement_nesting body) (statement_nesting otherwise))
  statement_nesting (While at condition body) = 1 + max (expression_nesting condition) (statement_nesting body)
  statement_nesting (Switch at place clauses) = 1 + max (expression_nesting place) (clauses_nesting clauses)
  statement_nesting (Break at) = 1
  statement_nesting (Continue at) = 1
  statement_nesting (Return at None) = 1
  statement_nesting (Return at (Some value)) = 1 + expression_nesting value
  statement_nesting (FreeUnique at pointer) = 1
  statement_nesting (FreeKey at key) = 1

  -- of declarations and statements
  pub items_nesting : BlockItems → ℕ
  items_nesting NoItems = 0
  items_nesting (Declare declaration others) = max (declaration_nesting declaration) (items_nesting others)
  items_nesting (Execute statement others) = max (statement_nesting statement) (items_nesting others)

  pub clauses_nesting : Clauses → ℕ
  clauses_nesting NoClauses = 0
  clauses_nesting (MoreClauses at pattern body others) = max (items_nesting body) (clauses_nesting others)

abbrev pub item_nesting : Item → ℕ
item_nesting (StructItem s) = 0
item_nesting (UnionItem u) = 0
item_nesting (GlobalItem g) = 0
item_nesting (FunctionItem f) = items_nesting f.body

-- of a program
abbrev pub program_nesting : Program → ℕ
program_nesting [] = 0
program_nesting (item ∷ items) = max (item_nesting item) (program_nesting items)
