-- Keywords and signs are told apart by their numbers.
use Rattle.std.proofs.Common.{◌≡◌, true, List, [], ◌∷◌, get_or, refl, ap, sym, ◌∙◌, eqb-true, eq-eqb}
use Rattle.cyc_lexer.specs.declared.token.Keyword.{Keyword}
use Rattle.cyc_lexer.specs.declared.token.Keyword.TheVariants as word
use Rattle.cyc_lexer.specs.declared.token.Sign.{Sign}
use Rattle.cyc_lexer.specs.declared.token.Sign.TheVariants as sign
use Rattle.cyc_lexer.specs.declared.token.TokenKind.{TokenKind}
use Rattle.cyc_lexer.specs.declared.token.TokenKind.TheVariants as kind
use Rattle.cyc_parser.specs.Tests.{keyword_number, sign_number, is_keyword, is_sign}

-- ---- keywords

keyword_list : List Keyword
keyword_list =
    word.Int ∷ word.Unsigned ∷ word.Char ∷ word.Void ∷ word.Struct ∷ word.Union ∷ word.RegionT ∷ word.UregionKeyT ∷ word.Region ∷
    word.Open ∷ word.Let ∷ word.Alias ∷ word.NewDynamicRegion ∷ word.NewUkey ∷ word.FreeUkey ∷ word.Ufree ∷ word.Numelts ∷ word.Rnew ∷
    word.New ∷ word.HeapRegion ∷ word.UniqueRegion ∷ word.Null ∷ word.If ∷ word.Else ∷ word.While ∷ word.Break ∷ word.Continue ∷
    word.Return ∷ word.Switch ∷ word.Case ∷ word.Default ∷ word.For ∷ []

keyword_back : (k : Keyword) → get_or keyword_list (keyword_number k) word.Int ≡ k
unfolding keyword_list
keyword_back word.Int = refl
keyword_back word.Unsigned = refl
keyword_back word.Char = refl
keyword_back word.Void = refl
keyword_back word.Struct = refl
keyword_back word.Union = refl
keyword_back word.RegionT = refl
keyword_back word.UregionKeyT = refl
keyword_back word.Region = refl
keyword_back word.Open = refl
keyword_back word.Let = refl
keyword_back word.Alias = refl
keyword_back word.NewDynamicRegion = refl
keyword_back word.NewUkey = refl
keyword_back word.FreeUkey = refl
keyword_back word.Ufree = refl
keyword_back word.Numelts = refl
keyword_back word.Rnew = refl
keyword_back word.New = refl
keyword_back word.HeapRegion = refl
keyword_back word.UniqueRegion = refl
keyword_back word.Null = refl
keyword_back word.If = refl
keyword_back word.Else = refl
keyword_back word.While = refl
keyword_back word.Break = refl
keyword_back word.Continue = refl
keyword_back word.Return = refl
keyword_back word.Switch = refl
keyword_back word.Case = refl
keyword_back word.Default = refl
keyword_back word.For = refl

keyword_same : (k w : Keyword) → keyword_number k ≡ keyword_number w → k ≡ w
keyword_same k w e = sym (keyword_back k) ∙ ap (λ n. get_or keyword_list n word.Int) e ∙ keyword_back w

pub keyword_is : (w : Keyword) (k : TokenKind) → is_keyword w k ≡ true → k ≡ kind.Keyword w
keyword_is w (kind.Keyword k) h = ap kind.Keyword (keyword_same k w (eqb-true (keyword_number k) (keyword_number w) h))
keyword_is w kind.Identifier h = absurd cc
keyword_is w kind.Region h = absurd cc
keyword_is w (kind.Number value suffix) h = absurd cc
keyword_is w (kind.Character byte) h = absurd cc
keyword_is w kind.Text h = absurd cc
keyword_is w (kind.Sign s) h = absurd cc

pub keyword_passes : (w : Keyword) → is_keyword w (kind.Keyword w) ≡ true
keyword_passes w = eq-eqb (keyword_number w) (keyword_number w) refl

-- ---- signs

sign_list : List Sign
sign_list =
    sign.Tagged ∷ sign.NotNull ∷ sign.FatSign ∷ sign.Thin ∷ sign.Exchange ∷ sign.Arrow ∷ sign.ShiftLeft ∷ sign.ShiftRight ∷
    sign.LessEqual ∷ sign.GreaterEqual ∷ sign.EqualEqual ∷ sign.NotEqual ∷ sign.AndAnd ∷ sign.OrOr ∷ sign.Plus ∷ sign.Minus ∷ sign.Star ∷
    sign.Slash ∷ sign.Percent ∷ sign.Less ∷ sign.Greater ∷ sign.Assign ∷ sign.Not ∷ sign.And ∷ sign.Or ∷ sign.Xor ∷ sign.Tilde ∷
    sign.LeftParenthesis ∷ sign.RightParenthesis ∷ sign.LeftBracket ∷ sign.RightBracket ∷ sign.LeftBrace ∷ sign.RightBrace ∷ sign.Comma ∷
    sign.Semicolon ∷ sign.Colon ∷ sign.Dot ∷ sign.At ∷ sign.Question ∷ []

sign_back : (s : Sign) → get_or sign_list (sign_number s) sign.Tagged ≡ s
unfolding sign_list
sign_back sign.Tagged = refl
sign_back sign.NotNull = refl
sign_back sign.FatSign = refl
sign_back sign.Thin = refl
sign_back sign.Exchange = refl
sign_back sign.Arrow = refl
sign_back sign.ShiftLeft = refl
sign_back sign.ShiftRight = refl
sign_back sign.LessEqual = refl
sign_back sign.GreaterEqual = refl
sign_back sign.EqualEqual = refl
sign_back sign.NotEqual = refl
sign_back sign.AndAnd = refl
sign_back sign.OrOr = refl
sign_back sign.Plus = refl
sign_back sign.Minus = refl
sign_back sign.Star = refl
sign_back sign.Slash = refl
sign_back sign.Percent = refl
sign_back sign.Less = refl
sign_back sign.Greater = refl
sign_back sign.Assign = refl
sign_back sign.Not = refl
sign_back sign.And = refl
sign_back sign.Or = refl
sign_back sign.Xor = refl
sign_back sign.Tilde = refl
sign_back sign.LeftParenthesis = refl
sign_back sign.RightParenthesis = refl
sign_back sign.LeftBracket = refl
sign_back sign.RightBracket = refl
sign_back sign.LeftBrace = refl
sign_back sign.RightBrace = refl
sign_back sign.Comma = refl
sign_back sign.Semicolon = refl
sign_back sign.Colon = refl
sign_back sign.Dot = refl
sign_back sign.At = refl
sign_back sign.Question = refl

sign_same : (k s : Sign) → sign_number k ≡ sign_number s → k ≡ s
sign_same k s e = sym (sign_back k) ∙ ap (λ n. get_or sign_list n sign.Tagged) e ∙ sign_back s

pub sign_is : (s : Sign) (k : TokenKind) → is_sign s k ≡ true → k ≡ kind.Sign s
sign_is s (kind.Keyword k) h = absurd cc
sign_is s kind.Identifier h = absurd cc
sign_is s kind.Region h = absurd cc
sign_is s (kind.Number value suffix) h = absurd cc
sign_is s (kind.Character byte) h = absurd cc
sign_is s kind.Text h = absurd cc
sign_is s (kind.Sign k) h = ap kind.Sign (sign_same k s (eqb-true (sign_number k) (sign_number s) h))

pub sign_passes : (s : Sign) → is_sign s (kind.Sign s) ≡ true
sign_passes s = eq-eqb (sign_number s) (sign_number s) refl
