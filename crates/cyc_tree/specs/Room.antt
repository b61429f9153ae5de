-- View of code: how far behind its first temporary a phrase goes at most: sixteen for each of its nodes. Numbers of temporaries are words, so a phrase is
-- lowered where so many are left behind its first one.
use Rattle.std.specs.Prelude.{ℕ, ◌+◌, ◌*◌, List, [], ◌∷◌, length, Option, Some, None}
use Rattle.cyc_tree.specs.Tree.{
  Expression,
  Expressions,
  NoExpressions,
  MoreExpressions,
  Links,
  NoLinks,
  MoreLinks,
  Suffixes,
  NoSuffixes,
  Index,
  Dot,
  Arrow,
  Made,
  One,
  Array,
  Initializer,
  Declaration,
  Statement,
  BlockItems,
  NoItems,
  Declare,
  Execute,
  Clauses,
  NoClauses,
  MoreClauses,
  Item,
  FunctionItem,
  UnionItem,
}
use Rattle.cyc_tree.specs.Tree as tree

abbrev mutual
  pub room : Expression → ℕ
  room (Expression.Call name arguments) = 16 + argument_room arguments
  room (Expression.MakeUnion tag member value) = 16 + room value
  room (Expression.NumElts at operand) = 16 + room operand
  room (Expression.Grouped at inner) = 16 + room inner
  room (Expression.Suffixed primary suffixes) = 16 + (room primary + suffix_room suffixes)
  room (Expression.Prefixed at operator operand) = 16 + room operand
  room (Expression.New at made) = 16 + made_room made
  room (Expression.NewIn at handle made) = 16 + (room handle + made_room made)
  room (Expression.Chain first others) = 16 + (room first + link_room others)
  room (Expression.AllOf first others) = 16 + (room first + argument_room others)
  room (Expression.AnyOf first others) = 16 + (room first + argument_room others)
  room (Expression.Assign place value) = 16 + (room place + room value)
  room e = 16

  pub argument_room : Expressions → ℕ
  argument_room NoExpressions = 0
  argument_room (MoreExpressions first others) = room first + argument_room others

  pub link_room : Links → ℕ
  link_room NoLinks = 0
  link_room (MoreLinks operator operand others) = room operand + link_room others

  pub suffix_room : Suffixes → ℕ
  suffix_room NoSuffixes = 0
  suffix_room (Index index others) = 16 + (room index + suffix_room others)
  suffix_room (Dot member others) = 16 + suffix_room others
  suffix_room (Arrow member others) = 16 + suffix_room others

  pub made_room : Made → ℕ
  made_room (One value) = room value
  made_room (Array index count element) = 16 + (room count + room element)

abbrev pub initializer_room : Initializer → ℕ
initializer_room (Initializer.Value e) = room e
initializer_room _ = 0

abbrev pub declaration_room : Declaration → ℕ
declaration_room (Declaration.Local of name initializer) = 16 + initializer_room initializer
declaration_room _ = 16

abbrev pub returned_room : Option Expression → ℕ
returned_room None = 0
returned_room (Some e) = room e

abbrev mutual
  pub statement_room : Statement → ℕ
  statement_room (Statement.Block at items) = 16 + item_room items
  statement_room (Statement.Run e) = 16 + room e
  statement_room (Statement.Exchange left right) = 16 + (room left + room right)
  statement_room (Statement.If at condition body) = 16 + (room condition + statement_room body)
  statement_room (Statement.IfElse at condition body otherwise) = 16 + (room condition + (statement_room body + statement_room otherwise))
  statement_room (Statement.While at condition body) = 16 + (room condition + statement_room body)
  statement_room (Statement.Switch at place clauses) = 16 + (room place + clause_room clauses)
  statement_room (Statement.Return at value) = 16 + returned_room value
  statement_room s = 16

  pub item_room : BlockItems → ℕ
  item_room NoItems = 0
  item_room (Declare d others) = declaration_room d + item_room others
  item_room (Execute s others) = statement_room s + item_room others

  pub clause_room : Clauses → ℕ
  clause_room NoClauses = 0
  clause_room (MoreClauses at pattern body others) = 16 + (item_room body + clause_room others)

-- three words for each parameter, and sixteen for what stands around the items
abbrev pub function_room : tree.Function → ℕ
function_room f = 16 + (3 * length f.parameters + item_room f.body)

-- of all functions of a program; and a word counts the members of each union, so these are counted too
abbrev pub program_room : List Item → ℕ
program_room [] = 0
program_room (FunctionItem f ∷ items) = function_room f + program_room items
program_room (UnionItem u ∷ items) = length u.members + program_room items
program_room (_ ∷ items) = program_room items
