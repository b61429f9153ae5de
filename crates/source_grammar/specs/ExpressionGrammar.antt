-- Believed: the grammar of expressions. A line in quotes is the production that the definition restates. A phrase of one production may stand where one of
-- another is asked for: what it binds as tells where.
use Rattle.std.specs.Prelude.{◌≡◌, ℕ, ◌≤◌, ◌<◌}
use Rattle.cyc_lexer.specs.declared.token.Keyword.TheVariants as word
use Rattle.cyc_lexer.specs.declared.token.Sign.{Sign}
use Rattle.cyc_lexer.specs.declared.token.Sign.TheVariants as sign
use Rattle.cyc_lexer.specs.declared.token.TokenKind.TheVariants as kind
use Rattle.cyc_tree.specs.declared.expression.Operator.{Operator}
use Rattle.cyc_tree.specs.declared.expression.Operator.TheVariants as operator
use Rattle.cyc_tree.specs.declared.expression.Prefix.{Prefix}
use Rattle.cyc_tree.specs.declared.expression.Prefix.TheVariants as prefix
use Rattle.cyc_tree.specs.Tree.{Expression, Number, Character, Text, Null, HeapRegion, UniqueRegion, Variable, Call, MakeUnion, NumElts, Grouped, Suffixed}
use Rattle.cyc_tree.specs.Tree.{Prefixed, New, NewIn, Chain, AllOf, AnyOf, Assign, Expressions, NoExpressions, MoreExpressions, Links, NoLinks, MoreLinks}
use Rattle.cyc_tree.specs.Tree.{Suffixes, NoSuffixes, Index, Dot, Arrow, Made, One, Array}
use Rattle.source_grammar.specs.Phrases.{Tokens, IsOne, KeywordAt, SignAt, IsKeyword, IsSign, IsName, IsString, InParentheses}

-- ---- what binds more

-- the levels of binary operators, from `|` to `*`
abbrev pub level_of : Operator → ℕ
level_of operator.BitOr = 3
level_of operator.BitXor = 4
level_of operator.BitAnd = 5
level_of operator.Equal = 6
level_of operator.NotEqual = 6
level_of operator.Less = 7
level_of operator.LessEqual = 7
level_of operator.Greater = 7
level_of operator.GreaterEqual = 7
level_of operator.ShiftLeft = 8
level_of operator.ShiftRight = 8
level_of operator.Add = 9
level_of operator.Subtract = 9
level_of operator.Multiply = 10
level_of operator.Divide = 10
level_of operator.Remainder = 10

-- the level of a chain's operators, which is one
abbrev pub chain_level : Links → ℕ
chain_level NoLinks = 0
chain_level (MoreLinks o operand others) = level_of o

-- expr 0, or 1, and 2, bor 3, xor 4, band 5, eq 6, rel 7, shift 8, sum 9, term 10, unary 11, postfix 12, primary 13
abbrev pub unary_level : ℕ
unary_level = 11

abbrev pub primary_level : ℕ
primary_level = 13

-- the production that a phrase is of
abbrev pub binds : Expression → ℕ
binds (Number at value suffix) = primary_level
binds (Character at byte) = primary_level
binds (Text at bytes) = primary_level
binds (Null at) = primary_level
binds (HeapRegion at) = primary_level
binds (UniqueRegion at) = primary_level
binds (Variable name) = primary_level
binds (Call name arguments) = primary_level
binds (MakeUnion tag member value) = primary_level
binds (NumElts at operand) = primary_level
binds (Grouped at inner) = primary_level
binds (Suffixed primary others) = 12
binds (Prefixed at o operand) = unary_level
binds (New at made) = unary_level
binds (NewIn at handle made) = unary_level
binds (Chain first others) = chain_level others
binds (AllOf first others) = 2
binds (AnyOf first others) = 1
binds (Assign place value) = 0

-- ---- signs

abbrev pub operator_sign : Operator → Sign
operator_sign operator.BitOr = sign.Or
operator_sign operator.BitXor = sign.Xor
operator_sign operator.BitAnd = sign.And
operator_sign operator.Equal = sign.EqualEqual
operator_sign operator.NotEqual = sign.NotEqual
operator_sign operator.Less = sign.Less
operator_sign operator.LessEqual = sign.LessEqual
operator_sign operator.Greater = sign.Greater
operator_sign operator.GreaterEqual = sign.GreaterEqual
operator_sign operator.ShiftLeft = sign.ShiftLeft
operator_sign operator.ShiftRight = sign.ShiftRight
operator_sign operator.Add = sign.Plus
operator_sign operator.Subtract = sign.Minus
operator_sign operator.Multiply = sign.Star
operator_sign operator.Divide = sign.Slash
operator_sign operator.Remainder = sign.Percent

abbrev pub prefix_sign : Prefix → Sign
prefix_sign prefix.Negate = sign.Minus
prefix_sign prefix.Not = sign.Not
prefix_sign prefix.Complement = sign.Tilde
prefix_sign prefix.Dereference = sign.Star
prefix_sign prefix.AddressOf = sign.And

-- ---- phrases

abbrev mutual
  -- an expression, of any production
  pub IsExpression : Expression → Tokens → Tokens → Type 0
  -- primary = Num | Char | String | "NULL" | "heap_region" | "unique_region"
  IsExpression (Number at value suffix) from to = IsOne (kind.Number value suffix) at from to
  IsExpression (Character at byte) from to = IsOne (kind.Character byte) at from to
  IsExpression (Text at bytes) from to = IsString at bytes from to
  IsExpression (Null at) from to = KeywordAt word.Null at from to
  IsExpression (HeapRegion at) from to = KeywordAt word.HeapRegion at from to
  IsExpression (UniqueRegion at) from to = KeywordAt word.UniqueRegion at from to
  -- | Id [ "(" [ expr { "," expr } ] ")" ] | Id "." Id "(" expr ")"
  IsExpression (Variable name) from to = IsName name from to
  IsExpression (Call name arguments) from to =
      (a : Tokens) × (b : Tokens) × IsName name from a × IsSign sign.LeftParenthesis a b × AreArguments arguments b to
  IsExpression (MakeUnion tag member value) from to =
      (a : Tokens) × (b : Tokens) × (c : Tokens) × IsName tag from a × IsSign sign.Dot a b × IsName member b c × InParentheses (IsExpression value) c to
  -- | "numelts" "(" expr ")" | "(" expr ")"
  IsExpression (NumElts at operand) from to = (a : Tokens) × KeywordAt word.Numelts at from a × InParentheses (IsExpression operand) a to
  IsExpression (Grouped at inner) from to =
      (a : Tokens) × (b : Tokens) × SignAt sign.LeftParenthesis at from a × IsExpression inner a b × IsSign sign.RightParenthesis b to
  -- postfix = primary { "[" expr "]" | "." Id | "->" Id }
  IsExpression (Suffixed primary NoSuffixes) from to = ⊥
  IsExpression (Suffixed primary (Index index others)) from to =
      (a : Tokens) × (primary_level ≤ binds primary) × IsExpression primary from a × AreSuffixes (Index index others) a to
  IsExpression (Suffixed primary (Dot member others)) from to =
      (a : Tokens) × (primary_level ≤ binds primary) × IsExpression primary from a × AreSuffixes (Dot member others) a to
  IsExpression (Suffixed primary (Arrow member others)) from to =
      (a : Tokens) × (primary_level ≤ binds primary) × IsExpression primary from a × AreSuffixes (Arrow member others) a to
  -- unary = ( "-" | "!" | "~" | "*" | "&" ) unary | "new" made | "rnew" "(" expr ")" made | postfix
  IsExpression (Prefixed at o operand) from to =
      (a : Tokens) × (unary_level ≤ binds operand) × SignAt (prefix_sign o) at from a × IsExpression operand a to
  IsExpression (New at made) from to = (a : Tokens) × KeywordAt word.New at from a × IsMade made a to
  IsExpression (NewIn at handle made) from to =
      (a : Tokens) × (b : Tokens) × KeywordAt word.Rnew at from a × InParentheses (IsExpression handle) a b × IsMade made b to
  -- bor = xor { "|" xor }, and so on to term = unary { ( "*" | "/" | "%" ) unary }: operands bind more than the operators, which are of one level
  IsExpression (Chain first NoLinks) from to = ⊥
  IsExpression (Chain first (MoreLinks o operand others)) from to =
      (a : Tokens) × (level_of o < binds first) × IsExpression first from a × AreLinks (level_of o) (MoreLinks o operand others) a to
  -- and = bor { "&&" bor }
  IsExpression (AllOf first NoExpressions) from to = ⊥
  IsExpression (AllOf first (MoreExpressions second others)) from to =
      (a : Tokens) × (3 ≤ binds first) × IsExpression first from a × AreOperands sign.AndAnd 3 (MoreExpressions second others) a to
  -- or = and { "||" and }
  IsExpression (AnyOf first NoExpressions) from to = ⊥
  IsExpression (AnyOf first (MoreExpressions second others)) from to =
      (a : Tokens) × (2 ≤ binds first) × IsExpression first from a × AreOperands sign.OrOr 2 (MoreExpressions second others) a to
  -- expr = unary "=" expr | or
  IsExpression (Assign place value) from to =
      (a : Tokens) × (b : Tokens) × (unary_level ≤ binds place) × IsExpression place from a × IsSign sign.Assign a b × IsExpression value b to

  -- [ expr { "," expr } ] ")"
  pub AreArguments : Expressions → Tokens → Tokens → Type 0
  AreArguments NoExpressions from to = IsSign sign.RightParenthesis from to
  AreArguments (MoreExpressions first others) from to =
      (a : Tokens) × (b : Tokens) × IsExpression first from a × AreOperands sign.Comma 0 others a b × IsSign sign.RightParenthesis b to

  -- each behind this sign, and of this production or one that binds more
  pub AreOperands : Sign → ℕ → Expressions → Tokens → Tokens → Type 0
  AreOperands s least NoExpressions from to = from ≡ to
  AreOperands s least (MoreExpressions e others) from to =
      (a : Tokens) × (b : Tokens) × (least ≤ binds e) × IsSign s from a × IsExpression e a b × AreOperands s least others b to

  -- { operator operand }, the operators of one level, which the operands bind more than
  pub AreLinks : ℕ → Links → Tokens → Tokens → Type 0
  AreLinks level NoLinks from to = from ≡ to
  AreLinks level (MoreLinks o operand others) from to =
      (a : Tokens) × (b : Tokens) × (level_of o ≡ level) × (level < binds operand) × IsSign (operator_sign o) from a × IsExpression operand a b
      × AreLinks level others b to

  -- { "[" expr "]" | "." Id | "->" Id }
  pub AreSuffixes : Suffixes → Tokens → Tokens → Type 0
  AreSuffixes NoSuffixes from to = from ≡ to
  AreSuffixes (Index index others) from to =
      (a : Tokens) × (b : Tokens) × (c : Tokens) × IsSign sign.LeftBracket from a × IsExpression index a b × IsSign sign.RightBracket b c
      × AreSuffixes others c to
  AreSuffixes (Dot member others) from to = (a : Tokens) × (b : Tokens) × IsSign sign.Dot from a × IsName member a b × AreSuffixes others b to
  AreSuffixes (Arrow member others) from to = (a : Tokens) × (b : Tokens) × IsSign sign.Arrow from a × IsName member a b × AreSuffixes others b to

  -- made = unary | "{" "for" Id "<" expr ":" expr "}"
  pub IsMade : Made → Tokens → Tokens → Type 0
  IsMade (One value) from to = (unary_level ≤ binds value) × IsExpression value from to
  IsMade (Array index count element) from to =
      (a : Tokens) × (b : Tokens) × (c : Tokens) × (d : Tokens) × (e : Tokens) × (f : Tokens) × (g : Tokens) × IsSign sign.LeftBrace from a
      × IsKeyword word.For a b
      × IsName index b c × IsSign sign.Less c d × IsExpression count d e × IsSign sign.Colon e f × IsExpression element f g × IsSign sign.RightBrace g to
