-- Believed: where the phrases begin that count for nesting: statements, expressions and unary expressions, from left to right. A token is in as many of them as
-- the deepest phrase that begins with it is, itself among them; one that begins none of them is in no more than some token before it, with which a phrase
-- begins that contains it. So the first token that is in more than so many begins the first phrase that is so deep.
use Rattle.std.specs.Prelude.{ℕ, ◌+◌, max, List, [], ◌∷◌, ◌++◌, nat_le, if◌then◌else◌, Option, Some, None}
use Rattle.cyc_tree.specs.Tree.{Expression, Number, Character, Text, Null, HeapRegion, UniqueRegion, Variable, Call, MakeUnion, NumElts, Grouped, Suffixed}
use Rattle.cyc_tree.specs.Tree.{Prefixed, New, NewIn, Chain, AllOf, AnyOf, Assign, Expressions, NoExpressions, MoreExpressions, Links, NoLinks, MoreLinks}
use Rattle.cyc_tree.specs.Tree.{Suffixes, NoSuffixes, Index, Dot, Arrow, Made, One, Array}
use Rattle.cyc_tree.specs.Tree as tree
use Rattle.cyc_tree.specs.Tree.{Initializer, Declaration, Local, Statement, Empty, Block, Run, Exchange, If, IfElse, While, Switch, Break, Continue, Return}
use Rattle.cyc_tree.specs.Tree.{FreeUnique, FreeKey, BlockItems, NoItems, Declare, Execute, Clauses, NoClauses, MoreClauses, Item, StructItem, UnionItem}
use Rattle.cyc_tree.specs.Tree.{GlobalItem, FunctionItem, Program}
use Rattle.cyc_tree.specs.Places.{expression_place}

-- the first token of a phrase: its place, and how deep the phrase is, which is in how many phrases it stands, itself among them
pub record Start : Type 0 where
  pub at : ℕ
  pub depth : ℕ

abbrev pub start : ℕ → ℕ → Start
start at depth = record { at = at; depth = depth }

-- n is how many phrases a phrase stands in
abbrev mutual
  -- of an expression, itself not counted: its operands are unary expressions, as far as they go
  pub inner_starts : ℕ → Expression → List Start
  inner_starts n (Number at value suffix) = start at (n + 1) ∷ []
  inner_starts n (Character at byte) = start at (n + 1) ∷ []
  inner_starts n (Text at bytes) = start at (n + 1) ∷ []
  inner_starts n (Null at) = start at (n + 1) ∷ []
  inner_starts n (HeapRegion at) = start at (n + 1) ∷ []
  inner_starts n (UniqueRegion at) = start at (n + 1) ∷ []
  inner_starts n (Variable name) = start name.at (n + 1) ∷ []
  inner_starts n (Call name arguments) = start name.at (n + 1) ∷ argument_starts (n + 1) arguments
  inner_starts n (MakeUnion tag member value) = start tag.at (n + 1) ∷ start (expression_place value) (n + 2) ∷ inner_starts (n + 2) value
  inner_starts n (NumElts at operand) = start at (n + 1) ∷ start (expression_place operand) (n + 2) ∷ inner_starts (n + 2) operand
  inner_starts n (Grouped at inner) = start at (n + 1) ∷ start (expression_place inner) (n + 2) ∷ inner_starts (n + 2) inner
  inner_starts n (Suffixed primary suffixes) = inner_starts n primary ++ suffix_starts (n + 1) suffixes
  inner_starts n (Prefixed at operator operand) = start at (n + 1) ∷ inner_starts (n + 1) operand
  inner_starts n (New at made) = start at (n + 1) ∷ made_starts (n + 1) made
  inner_starts n (NewIn at handle made) =
      start at (n + 1) ∷ start (expression_place handle) (n + 2) ∷ inner_starts (n + 2) handle ++ made_starts (n + 1) made
  inner_starts n (Chain first others) = inner_starts n first ++ link_starts n others
  inner_starts n (AllOf first others) = inner_starts n first ++ operand_starts n others
  inner_starts n (AnyOf first others) = inner_starts n first ++ operand_starts n others
  inner_starts n (Assign place value) = inner_starts n place ++ start (expression_place value) (n + 1) ∷ inner_starts (n + 1) value

  -- of arguments, each of which is an expression
  pub argument_starts : ℕ → Expressions → List Start
  argument_starts n NoExpressions = []
  argument_starts n (MoreExpressions first others) = start (expression_place first) (n + 1) ∷ inner_starts (n + 1) first ++ argument_starts n others

  -- of operands
  pub operand_starts : ℕ → Expressions → List Start
  operand_starts n NoExpressions = []
  operand_starts n (MoreExpressions first others) = inner_starts n first ++ operand_starts n others

  pub link_starts : ℕ → Links → List Start
  link_starts n NoLinks = []
  link_starts n (MoreLinks operator operand others) = inner_starts n operand ++ link_starts n others

  pub suffix_starts : ℕ → Suffixes → List Start
  suffix_starts n NoSuffixes = []
  suffix_starts n (Index index others) = start (expression_place index) (n + 1) ∷ inner_starts (n + 1) index ++ suffix_starts n others
  suffix_starts n (Dot member others) = suffix_starts n others
  suffix_starts n (Arrow member others) = suffix_starts n others

  pub made_starts : ℕ → Made → List Start
  made_starts n (One value) = inner_starts n value
  made_starts n (Array index count element) =
      start (expression_place count) (n + 1) ∷ inner_starts (n + 1) count ++ start (expression_place element) (n + 1) ∷ inner_starts (n + 1) element

-- of a whole expression
abbrev pub expression_starts : ℕ → Expression → List Start
expression_starts n e = start (expression_place e) (n + 1) ∷ inner_starts (n + 1) e

abbrev pub initializer_starts : ℕ → Initializer → List Start
initializer_starts n tree.Unset = []
initializer_starts n (tree.Elements count) = []
initializer_starts n (tree.Value e) = expression_starts n e

abbrev pub declaration_starts : ℕ → Declaration → List Start
declaration_starts n (Local of name initializer) = initializer_starts n initializer
declaration_starts n (tree.Region at region handle) = []
declaration_starts n (tree.Open at region handle key) = []
declaration_starts n (tree.Alias at region of alias pointer) = []
declaration_starts n (tree.NewKey at region key) = []

abbrev mutual
  pub statement_starts : ℕ → Statement → List Start
  statement_starts n (Empty at) = start at (n + 1) ∷ []
  statement_starts n (Block at items) = start at (n + 1) ∷ items_starts (n + 1) items
  statement_starts n (Run e) = start (expression_place e) (n + 1) ∷ expression_starts (n + 1) e
  statement_starts n (Exchange left right) = start (expression_place left) (n + 1) ∷ expression_starts (n + 1) left ++ expression_starts (n + 1) right
  statement_starts n (If at condition body) = start at (n + 1) ∷ expression_starts (n + 1) condition ++ statement_starts (n + 1) body
  statement_starts n (IfElse at condition body otherwise) =
      start at (n + 1) ∷ expression_starts (n + 1) condition ++ statement_starts (n + 1) body ++ statement_starts (n + 1) otherwise
  statement_starts n (While at condition body) = start at (n + 1) ∷ expression_starts (n + 1) condition ++ statement_starts (n + 1) body
  statement_starts n (Switch at place clauses) = start at (n + 1) ∷ expression_starts (n + 1) place ++ clauses_starts (n + 1) clauses
  statement_starts n (Break at) = start at (n + 1) ∷ []
  statement_starts n (Continue at) = start at (n + 1) ∷ []
  statement_starts n (Return at None) = start at (n + 1) ∷ []
  statement_starts n (Return at (Some value)) = start at (n + 1) ∷ expression_starts (n + 1) value
  statement_starts n (FreeUnique at pointer) = start at (n + 1) ∷ []
  statement_starts n (FreeKey at key) = start at (n + 1) ∷ []

  -- of declarations and statements
  pub items_starts : ℕ → BlockItems → List Start
  items_starts n NoItems = []
  items_starts n (Declare declaration others) = declaration_starts n declaration ++ items_starts n others
  items_starts n (Execute statement others) = statement_starts n statement ++ items_starts n others

  pub clauses_starts : ℕ → Clauses → List Start
  clauses_starts n NoClauses = []
  clauses_starts n (MoreClauses at pattern body others) = items_starts n body ++ clauses_starts n others

abbrev pub item_starts : Item → List Start
item_starts (StructItem s) = []
item_starts (UnionItem u) = []
item_starts (GlobalItem g) = []
item_starts (FunctionItem f) = items_starts 0 f.body

abbrev pub program_starts : Program → List Start
program_starts [] = []
program_starts (item ∷ items) = item_starts item ++ program_starts items

-- ---- how deep a program nests

-- the greatest depth
abbrev pub greatest_depth : List Start → ℕ
greatest_depth [] = 0
greatest_depth (s ∷ ss) = max s.depth (greatest_depth ss)

-- the nesting of a program: the greatest depth of its phrases
unfoldable pub nesting : Program → ℕ
nesting program = greatest_depth (program_starts program)

-- the greatest that a program may have
abbrev pub nesting_limit : ℕ
nesting_limit = 256

-- ---- the first one that is too deep

-- the place of the first one that is deeper than this
abbrev pub first_deeper : ℕ → List Start → Option ℕ
first_deeper limit [] = None
first_deeper limit (s ∷ ss) = if nat_le s.depth limit then first_deeper limit ss else Some s.at

-- the place of the first token of a program that more phrases contain than may
abbrev pub too_deep_at : Program → Option ℕ
too_deep_at program = first_deeper nesting_limit (program_starts program)
