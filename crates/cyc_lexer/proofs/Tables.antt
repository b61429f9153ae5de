-- Each keyword and each sign stands in its table under its spelling, by computation.
use Rattle.std.proofs.Common.{◌≡◌, ℕ, ◌<◌, Bool, true, cond, eqb, leb, ◌&&◌, List, [], ◌∷◌, length, map, get_or, Option, Some, None, refl, arith}
use Rattle.cyc_lexer.specs.Bytes.{is_space, is_letter, is_digit}
use Rattle.cyc_lexer.specs.Spelling.{keyword_text, sign_text, IsWord}
use Rattle.cyc_lexer.specs.Reading.{same, find_keyword, keywords, signs}
use Rattle.cyc_lexer.specs.declared.token.Keyword.{Keyword}
use Rattle.cyc_lexer.specs.declared.token.Keyword.TheVariants as word
use Rattle.cyc_lexer.specs.declared.token.Sign.{Sign}
use Rattle.cyc_lexer.specs.declared.token.Sign.TheVariants as sign

-- what a token may be that begins with this byte: 0 a word, 1 a number, 2 a region, 3 a character, 4 a string, 5 a sign, and 6 nothing, for spaces
abbrev pub class : ℕ → ℕ
class b = cond (is_letter b) 0 (cond (is_digit b) 1 (cond (eqb b 96) 2 (cond (eqb b 39) 3 (cond (eqb b 34) 4 (cond (is_space b) 6 5)))))

-- the tables have the spellings of the definition
abbrev pub keywords_are_spelled : List (Keyword × List ℕ) → Bool
keywords_are_spelled [] = true
keywords_are_spelled (e ∷ es) = same e.1 (keyword_text e.0) && keywords_are_spelled es

abbrev pub signs_are_spelled : List (Sign × List ℕ) → Bool
signs_are_spelled [] = true
signs_are_spelled (e ∷ es) = same e.1 (sign_text e.0) && signs_are_spelled es

pub keywords_spelled : keywords_are_spelled keywords ≡ true
keywords_spelled = refl

pub signs_spelled : signs_are_spelled signs ≡ true
signs_spelled = refl

abbrev pub sign_list : List Sign
sign_list = map (λ e. e.0) signs

-- the sign of this spelling
abbrev pub find_exact : List Sign → List ℕ → Option Sign
find_exact [] s = None
find_exact (k ∷ ks) s = cond (same s (sign_text k)) (Some k) (find_exact ks s)

-- no spelling is longer than the ones before it
abbrev pub descends : ℕ → List Sign → Bool
descends bound [] = true
descends bound (k ∷ ks) = leb (length (sign_text k)) bound && descends (length (sign_text k)) ks

pub signs_descend : descends 8 sign_list ≡ true
signs_descend = refl

pub keyword_found : (k : Keyword) → find_keyword keywords (keyword_text k) ≡ Some k
keyword_found word.Int = refl
keyword_found word.Unsigned = refl
keyword_found word.Char = refl
keyword_found word.Void = refl
keyword_found word.Struct = refl
keyword_found word.Union = refl
keyword_found word.RegionT = refl
keyword_found word.UregionKeyT = refl
keyword_found word.Region = refl
keyword_found word.Open = refl
keyword_found word.Let = refl
keyword_found word.Alias = refl
keyword_found word.NewDynamicRegion = refl
keyword_found word.NewUkey = refl
keyword_found word.FreeUkey = refl
keyword_found word.Ufree = refl
keyword_found word.Numelts = refl
keyword_found word.Rnew = refl
keyword_found word.New = refl
keyword_found word.HeapRegion = refl
keyword_found word.UniqueRegion = refl
keyword_found word.Null = refl
keyword_found word.If = refl
keyword_found word.Else = refl
keyword_found word.While = refl
keyword_found word.Break = refl
keyword_found word.Continue = refl
keyword_found word.Return = refl
keyword_found word.Switch = refl
keyword_found word.Case = refl
keyword_found word.Default = refl
keyword_found word.For = refl

pub keyword_word : (k : Keyword) → IsWord (keyword_text k)
keyword_word word.Int = (refl, refl)
keyword_word word.Unsigned = (refl, refl)
keyword_word word.Char = (refl, refl)
keyword_word word.Void = (refl, refl)
keyword_word word.Struct = (refl, refl)
keyword_word word.Union = (refl, refl)
keyword_word word.RegionT = (refl, refl)
keyword_word word.UregionKeyT = (refl, refl)
keyword_word word.Region = (refl, refl)
keyword_word word.Open = (refl, refl)
keyword_word word.Let = (refl, refl)
keyword_word word.Alias = (refl, refl)
keyword_word word.NewDynamicRegion = (refl, refl)
keyword_word word.NewUkey = (refl, refl)
keyword_word word.FreeUkey = (refl, refl)
keyword_word word.Ufree = (refl, refl)
keyword_word word.Numelts = (refl, refl)
keyword_word word.Rnew = (refl, refl)
keyword_word word.New = (refl, refl)
keyword_word word.HeapRegion = (refl, refl)
keyword_word word.UniqueRegion = (refl, refl)
keyword_word word.Null = (refl, refl)
keyword_word word.If = (refl, refl)
keyword_word word.Else = (refl, refl)
keyword_word word.While = (refl, refl)
keyword_word word.Break = (refl, refl)
keyword_word word.Continue = (refl, refl)
keyword_word word.Return = (refl, refl)
keyword_word word.Switch = (refl, refl)
keyword_word word.Case = (refl, refl)
keyword_word word.Default = (refl, refl)
keyword_word word.For = (refl, refl)

pub sign_found : (k : Sign) → find_exact sign_list (sign_text k) ≡ Some k
sign_found sign.Tagged = refl
sign_found sign.NotNull = refl
sign_found sign.FatSign = refl
sign_found sign.Thin = refl
sign_found sign.Exchange = refl
sign_found sign.Arrow = refl
sign_found sign.ShiftLeft = refl
sign_found sign.ShiftRight = refl
sign_found sign.LessEqual = refl
sign_found sign.GreaterEqual = refl
sign_found sign.EqualEqual = refl
sign_found sign.NotEqual = refl
sign_found sign.AndAnd = refl
sign_found sign.OrOr = refl
sign_found sign.Plus = refl
sign_found sign.Minus = refl
sign_found sign.Star = refl
sign_found sign.Slash = refl
sign_found sign.Percent = refl
sign_found sign.Less = refl
sign_found sign.Greater = refl
sign_found sign.Assign = refl
sign_found sign.Not = refl
sign_found sign.And = refl
sign_found sign.Or = refl
sign_found sign.Xor = refl
sign_found sign.Tilde = refl
sign_found sign.LeftParenthesis = refl
sign_found sign.RightParenthesis = refl
sign_found sign.LeftBracket = refl
sign_found sign.RightBracket = refl
sign_found sign.LeftBrace = refl
sign_found sign.RightBrace = refl
sign_found sign.Comma = refl
sign_found sign.Semicolon = refl
sign_found sign.Colon = refl
sign_found sign.Dot = refl
sign_found sign.At = refl
sign_found sign.Question = refl

pub sign_class : (k : Sign) → (class (get_or (sign_text k) 0 0) ≡ 5) × (0 < length (sign_text k))
sign_class sign.Tagged = (refl, omega arith)
sign_class sign.NotNull = (refl, omega arith)
sign_class sign.FatSign = (refl, omega arith)
sign_class sign.Thin = (refl, omega arith)
sign_class sign.Exchange = (refl, omega arith)
sign_class sign.Arrow = (refl, omega arith)
sign_class sign.ShiftLeft = (refl, omega arith)
sign_class sign.ShiftRight = (refl, omega arith)
sign_class sign.LessEqual = (refl, omega arith)
sign_class sign.GreaterEqual = (refl, omega arith)
sign_class sign.EqualEqual = (refl, omega arith)
sign_class sign.NotEqual = (refl, omega arith)
sign_class sign.AndAnd = (refl, omega arith)
sign_class sign.OrOr = (refl, omega arith)
sign_class sign.Plus = (refl, omega arith)
sign_class sign.Minus = (refl, omega arith)
sign_class sign.Star = (refl, omega arith)
sign_class sign.Slash = (refl, omega arith)
sign_class sign.Percent = (refl, omega arith)
sign_class sign.Less = (refl, omega arith)
sign_class sign.Greater = (refl, omega arith)
sign_class sign.Assign = (refl, omega arith)
sign_class sign.Not = (refl, omega arith)
sign_class sign.And = (refl, omega arith)
sign_class sign.Or = (refl, omega arith)
sign_class sign.Xor = (refl, omega arith)
sign_class sign.Tilde = (refl, omega arith)
sign_class sign.LeftParenthesis = (refl, omega arith)
sign_class sign.RightParenthesis = (refl, omega arith)
sign_class sign.LeftBracket = (refl, omega arith)
sign_class sign.RightBracket = (refl, omega arith)
sign_class sign.LeftBrace = (refl, omega arith)
sign_class sign.RightBrace = (refl, omega arith)
sign_class sign.Comma = (refl, omega arith)
sign_class sign.Semicolon = (refl, omega arith)
sign_class sign.Colon = (refl, omega arith)
sign_class sign.Dot = (refl, omega arith)
sign_class sign.At = (refl, omega arith)
sign_class sign.Question = (refl, omega arith)
