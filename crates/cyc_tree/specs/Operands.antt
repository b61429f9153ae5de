-- Believed: facts of the grammar that the tree alone doesn't say: an operator that joins operands has at least two, a form with suffixes has one, and a struct
-- or union has a member.
use Rattle.std.specs.Prelude.{List, Option, Some, None, [], ◌∷◌}
use Rattle.cyc_tree.specs.Tree as tree
use Rattle.cyc_tree.specs.Tree.{
  Expression,
  Expressions,
  NoExpressions,
  MoreExpressions,
  Links,
  NoLinks,
  MoreLinks,
  Suffixes,
  NoSuffixes,
  Index,
  Dot,
  Arrow,
  Made,
  One,
  Array,
  Initializer,
  Declaration,
  Statement,
  BlockItems,
  NoItems,
  Declare,
  Execute,
  Clauses,
  NoClauses,
  MoreClauses,
  Item,
  Program,
}

-- at least one
abbrev pub AreSome : Expressions → Type 0
AreSome NoExpressions = ⊥
AreSome (MoreExpressions first others) = Unit {0}

abbrev pub AreLinked : Links → Type 0
AreLinked NoLinks = ⊥
AreLinked (MoreLinks operator operand others) = Unit {0}

abbrev pub AreSuffixed : Suffixes → Type 0
AreSuffixed NoSuffixes = ⊥
AreSuffixed (Index index others) = Unit {0}
AreSuffixed (Dot member others) = Unit {0}
AreSuffixed (Arrow member others) = Unit {0}

abbrev pub AreSomeMembers : List tree.Member → Type 0
AreSomeMembers [] = ⊥
AreSomeMembers (first ∷ others) = Unit {0}

-- ---- expressions

-- each `&&`, each `||` and each chain of operators has an operand behind its first one, and each form with suffixes has a suffix
abbrev mutual
  pub ExpressionHasOperands : Expression → Type 0
  ExpressionHasOperands (Expression.Call name arguments) = AllHaveOperands arguments
  ExpressionHasOperands (Expression.MakeUnion tag member value) = ExpressionHasOperands value
  ExpressionHasOperands (Expression.NumElts at operand) = ExpressionHasOperands operand
  ExpressionHasOperands (Expression.Grouped at inner) = ExpressionHasOperands inner
  ExpressionHasOperands (Expression.Suffixed primary suffixes) =
      AreSuffixed suffixes × (ExpressionHasOperands primary × SuffixesHaveOperands suffixes)
  ExpressionHasOperands (Expression.Prefixed at operator operand) = ExpressionHasOperands operand
  ExpressionHasOperands (Expression.New at new) = MadeHasOperands new
  ExpressionHasOperands (Expression.NewIn at handle new) = ExpressionHasOperands handle × MadeHasOperands new
  ExpressionHasOperands (Expression.Chain first others) = AreLinked others × (ExpressionHasOperands first × LinksHaveOperands others)
  ExpressionHasOperands (Expression.AllOf first others) = AreSome others × (ExpressionHasOperands first × AllHaveOperands others)
  ExpressionHasOperands (Expression.AnyOf first others) = AreSome others × (ExpressionHasOperands first × AllHaveOperands others)
  ExpressionHasOperands (Expression.Assign place value) = ExpressionHasOperands place × ExpressionHasOperands value
  ExpressionHasOperands _ = Unit {0}

  pub AllHaveOperands : Expressions → Type 0
  AllHaveOperands NoExpressions = Unit {0}
  AllHaveOperands (MoreExpressions first others) = ExpressionHasOperands first × AllHaveOperands others

  pub LinksHaveOperands : Links → Type 0
  LinksHaveOperands NoLinks = Unit {0}
  LinksHaveOperands (MoreLinks operator operand others) = ExpressionHasOperands operand × LinksHaveOperands others

  pub SuffixesHaveOperands : Suffixes → Type 0
  SuffixesHaveOperands NoSuffixes = Unit {0}
  SuffixesHaveOperands (Index index others) = ExpressionHasOperands index × SuffixesHaveOperands others
  SuffixesHaveOperands (Dot member others) = SuffixesHaveOperands others
  SuffixesHaveOperands (Arrow member others) = SuffixesHaveOperands others

  pub MadeHasOperands : Made → Type 0
  MadeHasOperands (One value) = ExpressionHasOperands value
  MadeHasOperands (Array index count element) = ExpressionHasOperands count × ExpressionHasOperands element

-- ---- statements

abbrev pub InitializerHasOperands : Initializer → Type 0
InitializerHasOperands (Initializer.Value e) = ExpressionHasOperands e
InitializerHasOperands _ = Unit {0}

abbrev pub DeclarationHasOperands : Declaration → Type 0
DeclarationHasOperands (tree.Local of name initializer) = InitializerHasOperands initializer
DeclarationHasOperands _ = Unit {0}

abbrev pub ResultHasOperands : Option Expression → Type 0
ResultHasOperands None = Unit {0}
ResultHasOperands (Some e) = ExpressionHasOperands e

abbrev mutual
  pub StatementHasOperands : Statement → Type 0
  StatementHasOperands (Statement.Block at items) = ItemsHaveOperands items
  StatementHasOperands (Statement.Run e) = ExpressionHasOperands e
  StatementHasOperands (Statement.Exchange left right) = ExpressionHasOperands left × ExpressionHasOperands right
  StatementHasOperands (Statement.If at condition body) = ExpressionHasOperands condition × StatementHasOperands body
  StatementHasOperands (Statement.IfElse at condition body otherwise) =
      ExpressionHasOperands condition × (StatementHasOperands body × StatementHasOperands otherwise)
  StatementHasOperands (Statement.While at condition body) = ExpressionHasOperands condition × StatementHasOperands body
  StatementHasOperands (Statement.Switch at place clauses) = ExpressionHasOperands place × ClausesHaveOperands clauses
  StatementHasOperands (Statement.Return at value) = ResultHasOperands value
  StatementHasOperands _ = Unit {0}

  pub ItemsHaveOperands : BlockItems → Type 0
  ItemsHaveOperands NoItems = Unit {0}
  ItemsHaveOperands (Declare d others) = DeclarationHasOperands d × ItemsHaveOperands others
  ItemsHaveOperands (Execute s others) = StatementHasOperands s × ItemsHaveOperands others

  pub ClausesHaveOperands : Clauses → Type 0
  ClausesHaveOperands NoClauses = Unit {0}
  ClausesHaveOperands (MoreClauses at pattern body others) = ItemsHaveOperands body × ClausesHaveOperands others

-- ---- programs

abbrev pub ItemHasOperands : Item → Type 0
ItemHasOperands (tree.StructItem s) = AreSomeMembers s.members
ItemHasOperands (tree.UnionItem u) = AreSomeMembers u.members
ItemHasOperands (tree.GlobalItem x) = Unit {0}
ItemHasOperands (tree.FunctionItem f) = ItemsHaveOperands f.body

abbrev pub HasOperands : Program → Type 0
HasOperands [] = Unit {0}
HasOperands (i ∷ items) = ItemHasOperands i × HasOperands items
