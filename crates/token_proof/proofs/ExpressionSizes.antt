-- An expression has as many tokens in a text as are counted for it at least.
use Rattle.std.proofs.Common.{ℕ, ◌≤◌, arith}
use Rattle.cyc_lexer.specs.declared.token.Sign.{Sign}
use Rattle.cyc_tree.specs.Tree.{Expression, Expressions, NoExpressions, MoreExpressions, Links, NoLinks, MoreLinks, Suffixes, NoSuffixes, Index, Dot, Arrow}
use Rattle.cyc_tree.specs.Tree.{Made, One, Array}
use Rattle.source_grammar.specs.Phrases.{Tokens}
use Rattle.source_grammar.specs.ExpressionGrammar.{IsExpression, AreArguments, AreOperands, AreLinks, AreSuffixes, IsMade}
use Rattle.source_lowering.specs.Bounds.{tokens_of, made_tokens, argument_tokens, joined_tokens, link_tokens, suffix_tokens}
use Rattle.source_grammar.proofs.Parts.{chained}
use Rattle.source_grammar.proofs.Shorter.{one_taken, keyword_taken, sign_taken, name_taken, string_taken, none_taken, Takes, in_parentheses}

-- arguments have a sign behind each of them, operands one before
all_joined : (es : Expressions) → argument_tokens es ≤ joined_tokens es
all_joined NoExpressions = omega arith
all_joined (MoreExpressions e others) = let rest = all_joined others in omega (arith, rest)

mutual
  pub expression_size : (e : Expression) (from to : Tokens) → IsExpression e from to → Takes (tokens_of e) from to
  expression_size (Expression.Number at value suffix) from to is = omega (arith, one_taken is)
  expression_size (Expression.Character at byte) from to is = omega (arith, one_taken is)
  expression_size (Expression.Text at bytes) from to is = omega (arith, string_taken is)
  expression_size (Expression.Null at) from to is = omega (arith, one_taken is)
  expression_size (Expression.HeapRegion at) from to is = omega (arith, one_taken is)
  expression_size (Expression.UniqueRegion at) from to is = omega (arith, one_taken is)
  expression_size (Expression.Variable name) from to is = omega (arith, name_taken is)
  expression_size (Expression.Call name arguments) from to (a, b, called, opened, are) =
      omega (arith, name_taken called, sign_taken opened, arguments_size arguments b to are)
  expression_size (Expression.MakeUnion tag member value) from to (a, b, c, made, dot, named, is) =
      omega (
        arith,
        name_taken made,
        sign_taken dot,
        name_taken named,
        in_parentheses (tokens_of value) (IsExpression value) (expression_size value) c to is,
      )
  expression_size (Expression.NumElts at operand) from to (a, word, is) =
      omega (arith, one_taken word, in_parentheses (tokens_of operand) (IsExpression operand) (expression_size operand) a to is)
  expression_size (Expression.Grouped at inner) from to (a, b, opened, is, closed) =
      omega (arith, one_taken opened, expression_size inner a b is, sign_taken closed)
  expression_size (Expression.Suffixed primary NoSuffixes) from to is = absurd is
  expression_size (Expression.Suffixed primary (Index index others)) from to (a, level, first, (b, c, d, opened, is, closed, are)) =
      omega (
        arith,
        expression_size primary from a first,
        sign_taken opened,
        expression_size index b c is,
        sign_taken closed,
        suffixes_size others d to are,
      )
  expression_size (Expression.Suffixed primary (Dot member others)) from to (a, level, first, (b, c, sign, name, are)) =
      omega (arith, expression_size primary from a first, sign_taken sign, name_taken name, suffixes_size others c to are)
  expression_size (Expression.Suffixed primary (Arrow member others)) from to (a, level, first, (b, c, sign, name, are)) =
      omega (arith, expression_size primary from a first, sign_taken sign, name_taken name, suffixes_size others c to are)
  expression_size (Expression.Prefixed at operator operand) from to (a, level, sign, is) = omega (arith, one_taken sign, expression_size operand a to is)
  expression_size (Expression.New at made) from to (a, word, is) = omega (arith, one_taken word, made_size made a to is)
  expression_size (Expression.NewIn at handle made) from to (a, b, word, is, of) =
      omega (
        arith,
        one_taken word,
        in_parentheses (tokens_of handle) (IsExpression handle) (expression_size handle) a b is,
        made_size made b to of,
      )
  expression_size (Expression.Chain first links) from to is =
      let (a, level, leads, are) = chained first links from to is in
      omega (arith, expression_size first from a leads, links_size links level a to are)
  expression_size (Expression.AllOf first NoExpressions) from to is = absurd is
  expression_size (Expression.AllOf first (MoreExpressions second others)) from to (a, level, is, are) =
      omega (arith, expression_size first from a is, operands_size (MoreExpressions second others) _ _ a to are)
  expression_size (Expression.AnyOf first NoExpressions) from to is = absurd is
  expression_size (Expression.AnyOf first (MoreExpressions second others)) from to (a, level, is, are) =
      omega (arith, expression_size first from a is, operands_size (MoreExpressions second others) _ _ a to are)
  expression_size (Expression.Assign place value) from to (a, b, level, left, sign, right) =
      omega (arith, expression_size place from a left, sign_taken sign, expression_size value b to right)

  arguments_size : (es : Expressions) (from to : Tokens) → AreArguments es from to → Takes (argument_tokens es) from to
  arguments_size NoExpressions from to closed = omega (arith, sign_taken closed)
  arguments_size (MoreExpressions first others) from to (a, b, is, are, closed) =
      omega (arith, expression_size first from a is, operands_size others _ _ a b are, all_joined others, sign_taken closed)

  operands_size : (es : Expressions) (s : Sign) (least : ℕ) (from to : Tokens) → AreOperands s least es from to → Takes (joined_tokens es) from to
  operands_size NoExpressions s least from to is = omega (arith, none_taken is)
  operands_size (MoreExpressions e others) s least from to (a, b, level, sign, is, are) =
      omega (arith, sign_taken sign, expression_size e a b is, operands_size others s least b to are)

  links_size : (links : Links) (level : ℕ) (from to : Tokens) → AreLinks level links from to → Takes (link_tokens links) from to
  links_size NoLinks level from to is = omega (arith, none_taken is)
  links_size (MoreLinks operator operand others) level from to (a, b, same, above, sign, is, are) =
      omega (arith, sign_taken sign, expression_size operand a b is, links_size others level b to are)

  suffixes_size : (suffixes : Suffixes) (from to : Tokens) → AreSuffixes suffixes from to → Takes (suffix_tokens suffixes) from to
  suffixes_size NoSuffixes from to is = omega (arith, none_taken is)
  suffixes_size (Index index others) from to (a, b, c, opened, is, closed, are) =
      omega (arith, sign_taken opened, expression_size index a b is, sign_taken closed, suffixes_size others c to are)
  suffixes_size (Dot member others) from to (a, b, sign, name, are) = omega (arith, sign_taken sign, name_taken name, suffixes_size others b to are)
  suffixes_size (Arrow member others) from to (a, b, sign, name, are) = omega (arith, sign_taken sign, name_taken name, suffixes_size others b to are)

  made_size : (made : Made) (from to : Tokens) → IsMade made from to → Takes (made_tokens made) from to
  made_size (One value) from to (level, is) = omega (arith, expression_size value from to is)
  made_size (Array index count element) from to (a, b, c, d, e, f, g, opened, word, name, less, counted, colon, each, closed) =
      omega (
        arith,
        sign_taken opened,
        keyword_taken word,
        name_taken name,
        sign_taken less,
        expression_size count d e counted,
        sign_taken colon,
        expression_size element f g each,
        sign_taken closed,
      )
