-- View of code: tests of tokens by their kind: which ones begin a phrase, and which ones join phrases.
use Rattle.std.specs.Prelude.{ℕ, Bool, true, false, ◌||◌, ◌+◌, nat_eq, nat_le}
use Rattle.cyc_lexer.specs.declared.token.Keyword.{Keyword}
use Rattle.cyc_lexer.specs.declared.token.Keyword.TheVariants as word
use Rattle.cyc_lexer.specs.declared.token.Sign.{Sign}
use Rattle.cyc_lexer.specs.declared.token.Sign.TheVariants as sign
use Rattle.cyc_lexer.specs.declared.token.TokenKind.{TokenKind}
use Rattle.cyc_lexer.specs.declared.token.TokenKind.TheVariants as kind

-- ---- one keyword, one sign

-- a keyword's number in their list
abbrev pub keyword_number : Keyword → ℕ
keyword_number word.Int = 0
keyword_number word.Unsigned = 1
keyword_number word.Char = 2
keyword_number word.Void = 3
keyword_number word.Struct = 4
keyword_number word.Union = 5
keyword_number word.RegionT = 6
keyword_number word.UregionKeyT = 7
keyword_number word.Region = 8
keyword_number word.Open = 9
keyword_number word.Let = 10
keyword_number word.Alias = 11
keyword_number word.NewDynamicRegion = 12
keyword_number word.NewUkey = 13
keyword_number word.FreeUkey = 14
keyword_number word.Ufree = 15
keyword_number word.Numelts = 16
keyword_number word.Rnew = 17
keyword_number word.New = 18
keyword_number word.HeapRegion = 19
keyword_number word.UniqueRegion = 20
keyword_number word.Null = 21
keyword_number word.If = 22
keyword_number word.Else = 23
keyword_number word.While = 24
keyword_number word.Break = 25
keyword_number word.Continue = 26
keyword_number word.Return = 27
keyword_number word.Switch = 28
keyword_number word.Case = 29
keyword_number word.Default = 30
keyword_number word.For = 31

-- a sign's number in their list
abbrev pub sign_number : Sign → ℕ
sign_number sign.Tagged = 0
sign_number sign.NotNull = 1
sign_number sign.FatSign = 2
sign_number sign.Thin = 3
sign_number sign.Exchange = 4
sign_number sign.Arrow = 5
sign_number sign.ShiftLeft = 6
sign_number sign.ShiftRight = 7
sign_number sign.LessEqual = 8
sign_number sign.GreaterEqual = 9
sign_number sign.EqualEqual = 10
sign_number sign.NotEqual = 11
sign_number sign.AndAnd = 12
sign_number sign.OrOr = 13
sign_number sign.Plus = 14
sign_number sign.Minus = 15
sign_number sign.Star = 16
sign_number sign.Slash = 17
sign_number sign.Percent = 18
sign_number sign.Less = 19
sign_number sign.Greater = 20
sign_number sign.Assign = 21
sign_number sign.Not = 22
sign_number sign.And = 23
sign_number sign.Or = 24
sign_number sign.Xor = 25
sign_number sign.Tilde = 26
sign_number sign.LeftParenthesis = 27
sign_number sign.RightParenthesis = 28
sign_number sign.LeftBracket = 29
sign_number sign.RightBracket = 30
sign_number sign.LeftBrace = 31
sign_number sign.RightBrace = 32
sign_number sign.Comma = 33
sign_number sign.Semicolon = 34
sign_number sign.Colon = 35
sign_number sign.Dot = 36
sign_number sign.At = 37
sign_number sign.Question = 38

abbrev pub is_keyword : Keyword → TokenKind → Bool
is_keyword w (kind.Keyword k) = nat_eq (keyword_number k) (keyword_number w)
is_keyword w kind.Identifier = false
is_keyword w kind.Region = false
is_keyword w (kind.Number value suffix) = false
is_keyword w (kind.Character byte) = false
is_keyword w kind.Text = false
is_keyword w (kind.Sign s) = false

abbrev pub is_sign : Sign → TokenKind → Bool
is_sign s (kind.Keyword k) = false
is_sign s kind.Identifier = false
is_sign s kind.Region = false
is_sign s (kind.Number value suffix) = false
is_sign s (kind.Character byte) = false
is_sign s kind.Text = false
is_sign s (kind.Sign k) = nat_eq (sign_number k) (sign_number s)

-- ---- other single tokens

-- any token
abbrev pub is_any : TokenKind → Bool
is_any k = true

abbrev pub is_identifier : TokenKind → Bool
is_identifier kind.Identifier = true
is_identifier _ = false

abbrev pub is_region : TokenKind → Bool
is_region kind.Region = true
is_region _ = false

abbrev pub is_number : TokenKind → Bool
is_number (kind.Number value suffix) = true
is_number _ = false

-- ---- what begins a phrase

abbrev pub is_type_word : Keyword → Bool
is_type_word word.Int = true
is_type_word word.Unsigned = true
is_type_word word.Char = true
is_type_word word.Void = true
is_type_word word.Struct = true
is_type_word word.Union = true
is_type_word word.RegionT = true
is_type_word word.UregionKeyT = true
is_type_word _ = false

abbrev pub begins_type : TokenKind → Bool
begins_type (kind.Keyword k) = is_type_word k
begins_type _ = false

abbrev pub begins_declaration : TokenKind → Bool
begins_declaration k = is_keyword word.Region k || (is_keyword word.Let k || begins_type k)

-- a pointer's sign
abbrev pub begins_pointer : TokenKind → Bool
begins_pointer k = is_sign sign.Star k || (is_sign sign.At k || is_sign sign.Question k)

-- a suffix of a primary expression
abbrev pub begins_suffix : TokenKind → Bool
begins_suffix k = is_sign sign.LeftBracket k || (is_sign sign.Dot k || is_sign sign.Arrow k)

-- a clause of a `switch`
abbrev pub begins_clause : TokenKind → Bool
begins_clause k = is_keyword word.Case k || is_keyword word.Default k

abbrev pub is_prefix_sign : Sign → Bool
is_prefix_sign sign.Minus = true
is_prefix_sign sign.Not = true
is_prefix_sign sign.Tilde = true
is_prefix_sign sign.Star = true
is_prefix_sign sign.And = true
is_prefix_sign _ = false

-- a prefix operator
abbrev pub is_prefix : TokenKind → Bool
is_prefix (kind.Sign s) = is_prefix_sign s
is_prefix _ = false

abbrev pub is_literal_word : Keyword → Bool
is_literal_word word.Null = true
is_literal_word word.HeapRegion = true
is_literal_word word.UniqueRegion = true
is_literal_word _ = false

-- a primary expression of one token that is no name
abbrev pub is_literal : TokenKind → Bool
is_literal (kind.Keyword k) = is_literal_word k
is_literal (kind.Number value suffix) = true
is_literal (kind.Character byte) = true
is_literal kind.Text = true
is_literal _ = false

abbrev pub begins_primary : TokenKind → Bool
begins_primary k = is_literal k || (is_identifier k || (is_sign sign.LeftParenthesis k || is_keyword word.Numelts k))

abbrev pub begins_unary : TokenKind → Bool
begins_unary k = is_keyword word.New k || (is_keyword word.Rnew k || (is_prefix k || begins_primary k))

abbrev pub is_control_word : Keyword → Bool
is_control_word word.If = true
is_control_word word.While = true
is_control_word word.Switch = true
is_control_word word.Break = true
is_control_word word.Continue = true
is_control_word word.Return = true
is_control_word word.Ufree = true
is_control_word word.FreeUkey = true
is_control_word _ = false

-- a statement that begins with no expression
abbrev pub begins_control : TokenKind → Bool
begins_control (kind.Keyword k) = is_control_word k
begins_control (kind.Sign s) = is_sign sign.Semicolon (kind.Sign s) || is_sign sign.LeftBrace (kind.Sign s)
begins_control _ = false

abbrev pub begins_statement : TokenKind → Bool
begins_statement k = begins_control k || begins_unary k

-- an item of a block
abbrev pub begins_item : TokenKind → Bool
begins_item k = begins_declaration k || begins_statement k

-- what may begin a constant
abbrev pub begins_constant : TokenKind → Bool
begins_constant (kind.Keyword k) = is_keyword word.Null (kind.Keyword k)
begins_constant (kind.Number value suffix) = true
begins_constant (kind.Character byte) = true
begins_constant kind.Text = true
begins_constant (kind.Sign s) = is_sign sign.Minus (kind.Sign s)
begins_constant _ = false

-- what may stand behind a type's base in a declaration
abbrev pub begins_declarator : TokenKind → Bool
begins_declarator k = begins_pointer k || is_identifier k

-- what may stand behind a function's parameters
abbrev pub ends_parameters : TokenKind → Bool
ends_parameters k = is_sign sign.Semicolon k || (is_sign sign.Colon k || is_sign sign.RightParenthesis k)

-- ---- what joins expressions

-- how a sign joins what stands before it: one more than the production that it belongs to (`=` 0, `||` 1, `&&` 2, `|` 3, .. `*` 10), and 14 for a suffix or a
-- call;
-- 0 where it joins nothing
abbrev pub sign_strength : Sign → ℕ
sign_strength sign.Assign = 1
sign_strength sign.OrOr = 2
sign_strength sign.AndAnd = 3
sign_strength sign.Or = 4
sign_strength sign.Xor = 5
sign_strength sign.And = 6
sign_strength sign.EqualEqual = 7
sign_strength sign.NotEqual = 7
sign_strength sign.Less = 8
sign_strength sign.LessEqual = 8
sign_strength sign.Greater = 8
sign_strength sign.GreaterEqual = 8
sign_strength sign.ShiftLeft = 9
sign_strength sign.ShiftRight = 9
sign_strength sign.Plus = 10
sign_strength sign.Minus = 10
sign_strength sign.Star = 11
sign_strength sign.Slash = 11
sign_strength sign.Percent = 11
sign_strength sign.LeftBracket = 14
sign_strength sign.Dot = 14
sign_strength sign.Arrow = 14
sign_strength sign.LeftParenthesis = 14
sign_strength _ = 0

abbrev pub strength : TokenKind → ℕ
strength (kind.Sign s) = sign_strength s
strength _ = 0

-- a phrase of this production may go on with such a token
abbrev pub continues : ℕ → TokenKind → Bool
continues level k = nat_le (level + 1) (strength k)

-- a binary operator of this level
abbrev pub is_operator : ℕ → TokenKind → Bool
is_operator level k = nat_eq (strength k) (level + 1)
