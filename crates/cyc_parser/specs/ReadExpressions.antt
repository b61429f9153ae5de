-- View of code: readers of expressions. What reads unary expressions and what reads whole ones are arguments, since they go one phrase deeper.
use Rattle.std.specs.Prelude.{ℕ, zero, suc, ◌-◌, List, [], ◌∷◌, Option, Some, None, nat_le, if◌then◌else◌}
use Rattle.cyc_lexer.specs.Lexing.{Token}
use Rattle.cyc_lexer.specs.Spelling.{text_bytes}
use Rattle.cyc_lexer.specs.declared.token.Keyword.TheVariants as word
use Rattle.cyc_lexer.specs.declared.token.Sign.{Sign}
use Rattle.cyc_lexer.specs.declared.token.Sign.TheVariants as sign_of
use Rattle.cyc_lexer.specs.declared.token.TokenKind.{TokenKind}
use Rattle.cyc_lexer.specs.declared.token.TokenKind.TheVariants as kind
use Rattle.cyc_tree.specs.declared.expression.Operator.{Operator}
use Rattle.cyc_tree.specs.declared.expression.Operator.TheVariants as operator
use Rattle.cyc_tree.specs.declared.expression.Prefix.{Prefix}
use Rattle.cyc_tree.specs.declared.expression.Prefix.TheVariants as prefix
use Rattle.cyc_tree.specs.Tree.{Name, Expression, Number, Character, Text, Null, HeapRegion, UniqueRegion, Variable, Call, MakeUnion, NumElts, Grouped}
use Rattle.cyc_tree.specs.Tree.{Suffixed, Prefixed, New, NewIn, AllOf, AnyOf, Assign, Suffixes, NoSuffixes, Made, One, Array}
use Rattle.cyc_tree.specs.View.{OneSuffix, expressions_of, links_of, suffixes_of}
use Rattle.source_grammar.specs.Phrases.{Tokens}
use Rattle.source_grammar.specs.ExpressionGrammar.{binds, unary_level}
use Rattle.cyc_parser.specs.Parts.{chained}
use Rattle.cyc_parser.specs.Tests.{is_sign, is_keyword, is_identifier, is_prefix, is_literal, is_operator, begins_suffix, begins_unary}
use Rattle.cyc_parser.specs.Reader.{Outcome, done, read, token, choose, refuse, many, sign, keyword, behind, listed}
use Rattle.cyc_parser.specs.ReadTypes.{name}

abbrev pub Reads : Type 0 → Type 0
Reads A = Tokens → Outcome A

-- ---- signs as operators

abbrev pub operator_of_sign : Sign → Operator
operator_of_sign sign_of.Or = operator.BitOr
operator_of_sign sign_of.Xor = operator.BitXor
operator_of_sign sign_of.And = operator.BitAnd
operator_of_sign sign_of.EqualEqual = operator.Equal
operator_of_sign sign_of.NotEqual = operator.NotEqual
operator_of_sign sign_of.Less = operator.Less
operator_of_sign sign_of.LessEqual = operator.LessEqual
operator_of_sign sign_of.Greater = operator.Greater
operator_of_sign sign_of.GreaterEqual = operator.GreaterEqual
operator_of_sign sign_of.ShiftLeft = operator.ShiftLeft
operator_of_sign sign_of.ShiftRight = operator.ShiftRight
operator_of_sign sign_of.Plus = operator.Add
operator_of_sign sign_of.Minus = operator.Subtract
operator_of_sign sign_of.Star = operator.Multiply
operator_of_sign sign_of.Slash = operator.Divide
operator_of_sign _ = operator.Remainder

-- the binary operator that a token is, where it is one
abbrev pub operator_of : TokenKind → Operator
operator_of (kind.Sign s) = operator_of_sign s
operator_of _ = operator.Remainder

abbrev pub prefix_of_sign : Sign → Prefix
prefix_of_sign sign_of.Minus = prefix.Negate
prefix_of_sign sign_of.Not = prefix.Not
prefix_of_sign sign_of.Tilde = prefix.Complement
prefix_of_sign sign_of.Star = prefix.Dereference
prefix_of_sign _ = prefix.AddressOf

-- the prefix operator that a token is, where it is one
abbrev pub prefix_of : TokenKind → Prefix
prefix_of (kind.Sign s) = prefix_of_sign s
prefix_of _ = prefix.AddressOf

-- ---- primary expressions

abbrev pub literal_of : Token → TokenKind → Expression
literal_of t (kind.Number value suffix) = Number t.at value suffix
literal_of t (kind.Character byte) = Character t.at byte
literal_of t kind.Text = Text t.at (text_bytes t.text)
literal_of t (kind.Keyword word.HeapRegion) = HeapRegion t.at
literal_of t (kind.Keyword word.UniqueRegion) = UniqueRegion t.at
literal_of t _ = Null t.at

unfoldable pub literal : Reads Expression
literal = read (token is_literal) (λ t. done (literal_of t t.kind))

unfoldable pub parenthesized_by : Reads Expression → Reads Expression
parenthesized_by expr = read (sign sign_of.LeftParenthesis) (λ _. read expr (λ e. read (sign sign_of.RightParenthesis) (λ _. done e)))

unfoldable pub grouped_by : Reads Expression → Reads Expression
grouped_by expr = read (sign sign_of.LeftParenthesis) (λ at. read expr (λ e. read (sign sign_of.RightParenthesis) (λ _. done (Grouped at e))))

unfoldable pub primary_by : Reads Expression → Reads Expression
primary_by expr =
    choose (is_sign sign_of.LeftParenthesis) (grouped_by expr)
    (choose (is_keyword word.Numelts) (read (keyword word.Numelts) (λ at. read (parenthesized_by expr) (λ e. done (NumElts at e)))) literal)

unfoldable pub arguments_by : Reads Expression → Reads (List Expression)
arguments_by expr =
    read (sign sign_of.LeftParenthesis) (λ _.
    choose (is_sign sign_of.RightParenthesis) (read (sign sign_of.RightParenthesis) (λ _. done []))
    (read (listed expr) (λ es. read (sign sign_of.RightParenthesis) (λ _. done es))))

-- behind the parenthesis that they begin with
abbrev pub arguments_behind : Reads Expression → Reads (List Expression)
arguments_behind expr =
    choose (is_sign sign_of.RightParenthesis) (read (sign sign_of.RightParenthesis) (λ _. done []))
    (read (listed expr) (λ es. read (sign sign_of.RightParenthesis) (λ _. done es)))

-- what stands behind a name and `.`
unfoldable pub member_by : Reads Expression → Name → Reads (Expression × Option Name)
member_by expr n =
    read (sign sign_of.Dot) (λ _. read name (λ m.
    choose (is_sign sign_of.LeftParenthesis) (read (parenthesized_by expr) (λ e. done (MakeUnion n m e, None))) (done (Variable n, Some m))))

-- a variable, a call, or the making of a union value; a variable with the member that was read behind it
unfoldable pub named_by : Reads Expression → Reads (Expression × Option Name)
named_by expr =
    read name (λ n.
    choose (is_sign sign_of.LeftParenthesis) (read (arguments_by expr) (λ es. done (Call n (expressions_of es), None)))
    (choose (is_sign sign_of.Dot) (member_by expr n) (done (Variable n, None))))

-- ---- suffixes

unfoldable pub suffix_by : Reads Expression → Reads OneSuffix
suffix_by expr =
    choose (is_sign sign_of.LeftBracket)
    (read (sign sign_of.LeftBracket) (λ _. read expr (λ e. read (sign sign_of.RightBracket) (λ _. done (OneSuffix.Index e)))))
    (choose (is_sign sign_of.Dot) (read (sign sign_of.Dot) (λ _. read name (λ m. done (OneSuffix.Dot m))))
    (read (sign sign_of.Arrow) (λ _. read name (λ m. done (OneSuffix.Arrow m)))))

-- suffixes, behind the member that may have been read
abbrev pub with_member : Option Name → List OneSuffix → List OneSuffix
with_member None others = others
with_member (Some m) others = OneSuffix.Dot m ∷ others

unfoldable pub suffixes_by : Reads Expression → Option Name → Reads (List OneSuffix)
suffixes_by expr member = read (many begins_suffix (suffix_by expr)) (λ others. done (with_member member others))

-- a primary with its suffixes, where it has such
abbrev pub suffixed : Expression → Suffixes → Expression
suffixed e NoSuffixes = e
suffixed e others = Suffixed e others

-- a primary expression, and the member that was read behind it
unfoldable pub first_by : Reads Expression → Reads (Expression × Option Name)
first_by expr = choose is_identifier (named_by expr) (read (primary_by expr) (λ e. done (e, None)))

unfoldable pub postfix_by : Reads Expression → Reads Expression
postfix_by expr = read (first_by expr) (λ x. read (suffixes_by expr x.1) (λ ss. done (suffixed x.0 (suffixes_of ss))))

-- ---- unary expressions

unfoldable pub array_by : Reads Expression → Reads Made
array_by expr =
    read (sign sign_of.LeftBrace) (λ _. read (keyword word.For) (λ _. read name (λ i. read (sign sign_of.Less) (λ _. read expr (λ count.
    read (sign sign_of.Colon) (λ _. read expr (λ element. read (sign sign_of.RightBrace) (λ _. done (Array i count element)))))))))

abbrev pub array_behind : Reads Expression → Reads Made
array_behind expr =
    read (keyword word.For) (λ _. read name (λ i. read (sign sign_of.Less) (λ _. read expr (λ count. read (sign sign_of.Colon) (λ _. read expr (λ element.
    read (sign sign_of.RightBrace) (λ _. done (Array i count element))))))))

unfoldable pub made_by : (unary expr : Reads Expression) → Reads Made
made_by unary expr = choose (is_sign sign_of.LeftBrace) (array_by expr) (read unary (λ e. done (One e)))

unfoldable pub made_in_by : (unary expr : Reads Expression) → Reads Expression
made_in_by unary expr = read (keyword word.Rnew)
    (λ at. read (parenthesized_by expr) (λ handle. read (made_by unary expr) (λ made. done (NewIn at handle made))))

abbrev pub made_in_behind : (unary expr : Reads Expression) → ℕ → Reads Expression
made_in_behind unary expr at = read (parenthesized_by expr) (λ handle. read (made_by unary expr) (λ made. done (NewIn at handle made)))

unfoldable pub prefixed_by : Reads Expression → Reads Expression
prefixed_by unary = read (token is_prefix) (λ t. read unary (λ e. done (Prefixed t.at (prefix_of t.kind) e)))

unfoldable pub operation_by : (unary expr : Reads Expression) → Reads Expression
operation_by unary expr =
    choose (is_keyword word.New) (read (keyword word.New) (λ at. read (made_by unary expr) (λ made. done (New at made))))
    (choose (is_keyword word.Rnew) (made_in_by unary expr) (choose is_prefix (prefixed_by unary) (postfix_by expr)))

-- ---- operands and operators

-- the level that has n levels above it
abbrev pub level_over : ℕ → ℕ
level_over n = 10 - n

-- operators with their right operands, given what reads these, which have n levels
unfoldable pub links_by : Reads Expression → ℕ → Reads (List (Operator × Expression))
links_by operand n =
    many (is_operator (level_over n)) (read (token (is_operator (level_over n))) (λ t. read operand (λ e. done (operator_of t.kind, e))))

-- operands of a level that has n levels from itself on, with its operators between them; with none, a unary expression
unfoldable pub chain_by : Reads Expression → ℕ → Reads Expression
chain_by unary zero = unary
chain_by unary (suc n) = read (chain_by unary n) (λ first. read (links_by (chain_by unary n) n) (λ links. done (chained first (links_of links))))

-- operands of `&&`, and of `||`, where there are two at least
abbrev pub all_of : Expression → List Expression → Expression
all_of first [] = first
all_of first (e ∷ es) = AllOf first (expressions_of (e ∷ es))

abbrev pub any_of : Expression → List Expression → Expression
any_of first [] = first
any_of first (e ∷ es) = AnyOf first (expressions_of (e ∷ es))

unfoldable pub all_of_by : Reads Expression → Reads Expression
all_of_by unary =
    read (chain_by unary 8) (λ first. read (many (is_sign sign_of.AndAnd) (behind sign_of.AndAnd (chain_by unary 8))) (λ es. done (all_of first es)))

unfoldable pub any_of_by : Reads Expression → Reads Expression
any_of_by unary =
    read (all_of_by unary) (λ first. read (many (is_sign sign_of.OrOr) (behind sign_of.OrOr (all_of_by unary))) (λ es. done (any_of first es)))

-- what is assigned to a unary expression, where one was read
unfoldable pub assigned_by : Reads Expression → Expression → Reads Expression
assigned_by expr first =
    if nat_le unary_level (binds first) then choose (is_sign sign_of.Assign) (read (sign sign_of.Assign) (λ _. read expr (λ value. done (Assign first value))))
    (done first)
    else done first

unfoldable pub assignment_by : (unary expr : Reads Expression) → Reads Expression
assignment_by unary expr = read (any_of_by unary) (λ first. assigned_by expr first)

-- n is how many phrases may nest from here on
unfoldable mutual
  pub expression_at : ℕ → Reads Expression
  expression_at zero = refuse begins_unary
  expression_at (suc n) = assignment_by (unary_at n) (expression_at n)

  pub unary_at : ℕ → Reads Expression
  unary_at zero = refuse begins_unary
  unary_at (suc n) = operation_by (unary_at n) (expression_at n)
