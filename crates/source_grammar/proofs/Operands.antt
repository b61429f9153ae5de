-- A program that tokens spell has operands wherever an operator joins some, suffixes in each form that has them, and members in each struct and union.
use Rattle.std.proofs.Common.{ℕ, List, [], ◌∷◌, Some, None}
use Rattle.cyc_lexer.specs.declared.token.Sign.{Sign}
use Rattle.cyc_tree.specs.Operands.{ExpressionHasOperands, AllHaveOperands, LinksHaveOperands, SuffixesHaveOperands, MadeHasOperands}
use Rattle.cyc_tree.specs.Operands.{DeclarationHasOperands, StatementHasOperands, ItemsHaveOperands, ClausesHaveOperands, HasOperands, AreSomeMembers}
use Rattle.cyc_tree.specs.Tree as tree
use Rattle.cyc_tree.specs.Tree.{Expression, Expressions, NoExpressions, MoreExpressions, Links, NoLinks, MoreLinks, Suffixes, NoSuffixes, Index, Dot, Arrow}
use Rattle.cyc_tree.specs.Tree.{Made, One, Array, Declaration, BlockItems, NoItems, Declare, Execute, Clauses, NoClauses, MoreClauses, Item, Member, Program}
use Rattle.source_grammar.specs.Phrases.{Tokens, Each}
use Rattle.source_grammar.specs.ExpressionGrammar.{IsExpression, AreArguments, AreOperands, AreLinks, AreSuffixes, IsMade}
use Rattle.source_grammar.specs.StatementGrammar.{IsDeclaration, IsStatement, AreItems, AreClauses}
use Rattle.source_grammar.specs.Grammar.{AreMembers, IsItem, IsProgram}

-- ---- expressions

mutual
  pub expression_operands : (e : Expression) (from to : Tokens) → IsExpression e from to → ExpressionHasOperands e
  expression_operands (Expression.Number at value suffix) from to is = tt
  expression_operands (Expression.Character at byte) from to is = tt
  expression_operands (Expression.Text at bytes) from to is = tt
  expression_operands (Expression.Null at) from to is = tt
  expression_operands (Expression.HeapRegion at) from to is = tt
  expression_operands (Expression.UniqueRegion at) from to is = tt
  expression_operands (Expression.Variable name) from to is = tt
  expression_operands (Expression.Call name arguments) from to (a, b, called, opened, are) = arguments_operands arguments b to are
  expression_operands (Expression.MakeUnion tag member value) from to (a, b, c, made, dot, named, (d, e, opened, is, closed)) =
      expression_operands value d e is
  expression_operands (Expression.NumElts at operand) from to (a, word, (b, c, opened, is, closed)) = expression_operands operand b c is
  expression_operands (Expression.Grouped at inner) from to (a, b, opened, is, closed) = expression_operands inner a b is
  expression_operands (Expression.Suffixed primary NoSuffixes) from to is = absurd is
  expression_operands (Expression.Suffixed primary (Index index others)) from to (a, level, first, are) =
      (tt, (expression_operands primary from a first, suffixes_operands (Index index others) a to are))
  expression_operands (Expression.Suffixed primary (Dot member others)) from to (a, level, first, are) =
      (tt, (expression_operands primary from a first, suffixes_operands (Dot member others) a to are))
  expression_operands (Expression.Suffixed primary (Arrow member others)) from to (a, level, first, are) =
      (tt, (expression_operands primary from a first, suffixes_operands (Arrow member others) a to are))
  expression_operands (Expression.Prefixed at operator operand) from to (a, level, sign, is) = expression_operands operand a to is
  expression_operands (Expression.New at made) from to (a, word, is) = made_operands made a to is
  expression_operands (Expression.NewIn at handle made) from to (a, b, word, (c, d, opened, is, closed), of) =
      (expression_operands handle c d is, made_operands made b to of)
  expression_operands (Expression.Chain first NoLinks) from to is = absurd is
  expression_operands (Expression.Chain first (MoreLinks operator operand others)) from to (a, above, leads, are) =
      (tt, (expression_operands first from a leads, links_operands (MoreLinks operator operand others) _ a to are))
  expression_operands (Expression.AllOf first NoExpressions) from to is = absurd is
  expression_operands (Expression.AllOf first (MoreExpressions second others)) from to (a, level, is, are) =
      (tt, (expression_operands first from a is, operands_operands (MoreExpressions second others) _ _ a to are))
  expression_operands (Expression.AnyOf first NoExpressions) from to is = absurd is
  expression_operands (Expression.AnyOf first (MoreExpressions second others)) from to (a, level, is, are) =
      (tt, (expression_operands first from a is, operands_operands (MoreExpressions second others) _ _ a to are))
  expression_operands (Expression.Assign place value) from to (a, b, level, left, sign, right) =
      (expression_operands place from a left, expression_operands value b to right)

  arguments_operands : (es : Expressions) (from to : Tokens) → AreArguments es from to → AllHaveOperands es
  arguments_operands NoExpressions from to closed = tt
  arguments_operands (MoreExpressions first others) from to (a, b, is, are, closed) =
      (expression_operands first from a is, operands_operands others _ _ a b are)

  operands_operands : (es : Expressions) (s : Sign) (least : ℕ) (from to : Tokens) → AreOperands s least es from to → AllHaveOperands es
  operands_operands NoExpressions s least from to is = tt
  operands_operands (MoreExpressions e others) s least from to (a, b, level, sign, is, are) =
      (expression_operands e a b is, operands_operands others s least b to are)

  links_operands : (links : Links) (level : ℕ) (from to : Tokens) → AreLinks level links from to → LinksHaveOperands links
  links_operands NoLinks level from to is = tt
  links_operands (MoreLinks operator operand others) level from to (a, b, same, above, sign, is, are) =
      (expression_operands operand a b is, links_operands others level b to are)

  suffixes_operands : (suffixes : Suffixes) (from to : Tokens) → AreSuffixes suffixes from to → SuffixesHaveOperands suffixes
  suffixes_operands NoSuffixes from to is = tt
  suffixes_operands (Index index others) from to (a, b, c, opened, is, closed, are) =
      (expression_operands index a b is, suffixes_operands others c to are)
  suffixes_operands (Dot member others) from to (a, b, sign, name, are) = suffixes_operands others b to are
  suffixes_operands (Arrow member others) from to (a, b, sign, name, are) = suffixes_operands others b to are

  made_operands : (made : Made) (from to : Tokens) → IsMade made from to → MadeHasOperands made
  made_operands (One value) from to (level, is) = expression_operands value from to is
  made_operands (Array index count element) from to (a, b, c, d, e, f, g, opened, word, name, less, counted, colon, each, closed) =
      (expression_operands count d e counted, expression_operands element f g each)

-- ---- statements

declaration_operands : (d : Declaration) (from to : Tokens) → IsDeclaration d from to → DeclarationHasOperands d
declaration_operands (tree.Local of name tree.Unset) from to is = tt
declaration_operands (tree.Local of name (tree.Elements count)) from to is = tt
declaration_operands (tree.Local of name (tree.Value value)) from to (a, b, c, typed, is, (d, begins, gives), ends) = expression_operands value d c gives
declaration_operands (tree.Region at region handle) from to is = tt
declaration_operands (tree.Open at region handle key) from to is = tt
declaration_operands (tree.Alias at region of alias pointer) from to is = tt
declaration_operands (tree.NewKey at region key) from to is = tt

mutual
  statement_operands : (s : tree.Statement) (from to : Tokens) → IsStatement s from to → StatementHasOperands s
  statement_operands (tree.Empty at) from to is = tt
  statement_operands (tree.Block at items) from to (a, b, opened, are, closed) = items_operands items a b are
  statement_operands (tree.Run e) from to (a, is, ends) = expression_operands e from a is
  statement_operands (tree.Exchange left right) from to (a, b, c, one, sign, other, ends) =
      (expression_operands left from a one, expression_operands right b c other)
  statement_operands (tree.If at condition body) from to (a, b, word, (c, d, opened, tests, closed), is) =
      (expression_operands condition c d tests, statement_operands body b to is)
  statement_operands (tree.IfElse at condition body otherwise) from to (a, b, c, d, word, (e, f, opened, tests, closed), is, closes, other, follows) =
      (expression_operands condition e f tests, (statement_operands body b c is, statement_operands otherwise d to follows))
  statement_operands (tree.While at condition body) from to (a, b, word, (c, d, opened, tests, closed), is) =
      (expression_operands condition c d tests, statement_operands body b to is)
  statement_operands (tree.Switch at place NoClauses) from to is = absurd is
  statement_operands (tree.Switch at place (MoreClauses first pattern body others)) from to (
    a,
    b,
    c,
    d,
    word,
    (e, f, opened, chooses, closed),
    brace,
    are,
    shut,
  ) =
      (expression_operands place e f chooses, clauses_operands (MoreClauses first pattern body others) c d are)
  statement_operands (tree.Break at) from to is = tt
  statement_operands (tree.Continue at) from to is = tt
  statement_operands (tree.Return at None) from to is = tt
  statement_operands (tree.Return at (Some value)) from to (a, word, (b, gives, ends)) = expression_operands value a b gives
  statement_operands (tree.FreeUnique at pointer) from to is = tt
  statement_operands (tree.FreeKey at key) from to is = tt

  items_operands : (items : BlockItems) (from to : Tokens) → AreItems items from to → ItemsHaveOperands items
  items_operands NoItems from to is = tt
  items_operands (Declare declaration others) from to (a, is, are) = (declaration_operands declaration from a is, items_operands others a to are)
  items_operands (Execute statement others) from to (a, is, are) = (statement_operands statement from a is, items_operands others a to are)

  clauses_operands : (clauses : Clauses) (from to : Tokens) → AreClauses clauses from to → ClausesHaveOperands clauses
  clauses_operands NoClauses from to is = tt
  clauses_operands (MoreClauses at pattern body others) from to (a, b, c, is, colon, are, follow) =
      (items_operands body b c are, clauses_operands others c to follow)

-- ---- programs

some_members : (ms : List Member) (from to : Tokens) → AreMembers ms from to → AreSomeMembers ms
some_members [] from to are = absurd are
some_members (m ∷ ms) from to are = tt

all_operands : (items : List Item) (from to : Tokens) → Each IsItem items from to → HasOperands items
all_operands [] from to is = tt
all_operands (tree.StructItem s ∷ items) from to (a, (b, word, (c, d, named, under, has)), are) =
    (some_members s.members d a has, all_operands items a to are)
all_operands (tree.UnionItem u ∷ items) from to (a, (b, c, sign, word, (d, e, named, under, has)), are) =
    (some_members u.members e a has, all_operands items a to are)
all_operands (tree.GlobalItem g ∷ items) from to (a, is, are) = (tt, all_operands items a to are)
all_operands (tree.FunctionItem f ∷ items) from to
    (a, (b, c, typed, named, (d, e, g, h, i, j, k, opened, takes, has, within, closed, begins, does, ends)), are) =
    (items_operands f.body j k does, all_operands items a to are)

pub has_operands : (p : Program) (tokens : Tokens) → IsProgram p tokens → HasOperands p
has_operands [] tokens is = absurd is
has_operands (item ∷ items) tokens are = all_operands (item ∷ items) tokens [] are
