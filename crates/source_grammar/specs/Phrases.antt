-- Believed: tokens of phrases. A phrase relates the tokens from its first one on, `from`, to those behind it, `to`.
use Rattle.std.specs.Prelude.{◌≡◌, ◌≢◌, ℕ, List, [], ◌∷◌, codes, nat_eq, if◌then◌else◌}
use Rattle.cyc_lexer.specs.Lexing.{Token}
use Rattle.cyc_lexer.specs.Spelling.{text_bytes}
use Rattle.cyc_lexer.specs.declared.token.Keyword.{Keyword}
use Rattle.cyc_lexer.specs.declared.token.Sign.{Sign}
use Rattle.cyc_lexer.specs.declared.token.Sign.TheVariants as sign
use Rattle.cyc_lexer.specs.declared.token.TokenKind.{TokenKind}
use Rattle.cyc_lexer.specs.declared.token.TokenKind.TheVariants as kind
use Rattle.cyc_tree.specs.Tree.{Name, RegionName, Heap, Unique, Named}

abbrev pub Tokens : Type 0
Tokens = List Token

-- ---- single tokens

-- one token, of this kind and at this place
abbrev pub IsOne : TokenKind → ℕ → Tokens → Tokens → Type 0
IsOne k at from to = (text : List ℕ) × (from ≡ record { kind = k; at = at; text = text } ∷ to)

abbrev pub KeywordAt : Keyword → ℕ → Tokens → Tokens → Type 0
KeywordAt word at from to = IsOne (kind.Keyword word) at from to

abbrev pub SignAt : Sign → ℕ → Tokens → Tokens → Type 0
SignAt s at from to = IsOne (kind.Sign s) at from to

-- the same, wherever it stands
abbrev pub IsKeyword : Keyword → Tokens → Tokens → Type 0
IsKeyword word from to = (at : ℕ) × KeywordAt word at from to

abbrev pub IsSign : Sign → Tokens → Tokens → Type 0
IsSign s from to = (at : ℕ) × SignAt s at from to

-- a name, with its place
abbrev pub IsName : Name → Tokens → Tokens → Type 0
IsName n from to = from ≡ record { kind = kind.Identifier; at = n.at; text = n.text } ∷ to

-- a string; its bytes are those that its spelling means
abbrev pub IsString : ℕ → List ℕ → Tokens → Tokens → Type 0
IsString at bytes from to =
    (text : List ℕ) × (from ≡ record { kind = kind.Text; at = at; text = text } ∷ to) × (bytes ≡ text_bytes text)

-- a region name's spelling without its backquote
abbrev pub after_backquote : List ℕ → List ℕ
after_backquote [] = []
after_backquote (byte ∷ rest) = (if nat_eq byte 96 then rest else byte ∷ rest)

-- a region name: the heap, the unique region, or another one
abbrev pub IsRegion : RegionName → Tokens → Tokens → Type 0
IsRegion (Heap at) from to = from ≡ record { kind = kind.Region; at = at; text = codes "`H" } ∷ to
IsRegion (Unique at) from to = from ≡ record { kind = kind.Region; at = at; text = codes "`U" } ∷ to
IsRegion (Named n) from to =
    (text : List ℕ) × (from ≡ record { kind = kind.Region; at = n.at; text = text } ∷ to) × (n.text ≡ after_backquote text) × (text ≢ codes "`H")
    × (text ≢ codes "`U")

-- a phrase's first token stands here
abbrev pub StartsAt : ℕ → Tokens → Type 0
StartsAt at from = (first : Token) × (rest : Tokens) × (from ≡ first ∷ rest) × (first.at ≡ at)

-- a phrase in parentheses
abbrev pub InParentheses : (Tokens → Tokens → Type 0) → Tokens → Tokens → Type 0
InParentheses Is from to = (a : Tokens) × (b : Tokens) × IsSign sign.LeftParenthesis from a × Is a b × IsSign sign.RightParenthesis b to

-- ---- lists of phrases

-- phrases one after the other
abbrev pub Each : {A : Type 0} → (A → Tokens → Tokens → Type 0) → List A → Tokens → Tokens → Type 0
Each Is [] from to = from ≡ to
Each Is (x ∷ xs) from to = (a : Tokens) × Is x from a × Each Is xs a to

-- a phrase behind a sign
abbrev pub Behind : {A : Type 0} → Sign → (A → Tokens → Tokens → Type 0) → A → Tokens → Tokens → Type 0
Behind s Is x from to = (a : Tokens) × IsSign s from a × Is x a to

-- one phrase or more, with commas between them
abbrev pub Listed : {A : Type 0} → (A → Tokens → Tokens → Type 0) → List A → Tokens → Tokens → Type 0
Listed Is [] from to = ⊥
Listed Is (x ∷ xs) from to = (a : Tokens) × Is x from a × Each (Behind sign.Comma Is) xs a to
