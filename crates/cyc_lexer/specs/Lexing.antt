-- Believed: the tokens of a text: spaces, comments and tokens in turn, each token the longest that begins at its place.
use Rattle.std.specs.Prelude.{◌≡◌, ◌≢◌, ℕ, ◌+◌, ◌≤◌, List, [], ◌∷◌, ◌++◌, length, IsTrue, ◌⊎◌, Contains}
use Rattle.cyc_lexer.specs.Bytes.{is_space, is_word_byte}
use Rattle.cyc_lexer.specs.Spelling.{Spells}
use Rattle.cyc_lexer.specs.declared.token.TokenKind.{TokenKind}
use Rattle.cyc_lexer.specs.declared.token.TokenKind.TheVariants as kind

-- a token: its kind, where it stands, and its spelling
pub record Token : Type 0 where
  pub kind : TokenKind
  pub at : ℕ
  pub text : List ℕ

-- ---- between tokens

abbrev pub IsSpace : List ℕ → Type 0
IsSpace s = (byte : ℕ) × (s ≡ byte ∷ []) × IsTrue (is_space byte)

-- the end of the text, or of the line
abbrev pub EndsLine : List ℕ → Type 0
EndsLine [] = Unit {0}
EndsLine (b ∷ bs) = b ≡ 10

-- `//` to the end of the line, which is not a part of it
abbrev pub IsLineComment : List ℕ → List ℕ → Type 0
IsLineComment s rest = (inner : List ℕ) × (s ≡ 47 ∷ 47 ∷ inner) × ¬ Contains inner 10 × EndsLine rest

-- the text has `*/` somewhere
abbrev pub HasEnd : List ℕ → Type 0
HasEnd s = (front : List ℕ) × (back : List ℕ) × (s ≡ front ++ 42 ∷ 47 ∷ back)

-- `/*` to the next `*/`, with any bytes between
abbrev pub IsBlockComment : List ℕ → Type 0
IsBlockComment s = (inner : List ℕ) × (s ≡ 47 ∷ 42 ∷ inner ++ 42 ∷ 47 ∷ []) × ¬ HasEnd (inner ++ 42 ∷ [])

-- a space or a comment, before the rest of the text
abbrev pub IsGap : List ℕ → List ℕ → Type 0
IsGap s rest = IsSpace s ⊎ IsLineComment s rest ⊎ IsBlockComment s

-- ---- tokens

-- `//` or `/*` stands here, where no sign begins then
abbrev pub BeginsComment : List ℕ → Type 0
BeginsComment text = (back : List ℕ) × ((text ≡ 47 ∷ 47 ∷ back) ⊎ (text ≡ 47 ∷ 42 ∷ back))

-- no longer token begins where s does
abbrev pub IsLongest : List ℕ → List ℕ → Type 0
IsLongest s rest = (k : TokenKind) (other more : List ℕ) → s ++ rest ≡ other ++ more → Spells k other → length other ≤ length s

abbrev pub BeginsWithWordByte : List ℕ → Type 0
BeginsWithWordByte [] = ⊥
BeginsWithWordByte (b ∷ bs) = IsTrue (is_word_byte b)

-- no letter, digit or `_` stands directly after a number
abbrev pub MayFollow : TokenKind → List ℕ → Type 0
MayFollow (kind.Number n suffix) rest = ¬ BeginsWithWordByte rest
MayFollow (kind.Keyword k) rest = Unit {0}
MayFollow kind.Identifier rest = Unit {0}
MayFollow kind.Region rest = Unit {0}
MayFollow (kind.Character byte) rest = Unit {0}
MayFollow kind.Text rest = Unit {0}
MayFollow (kind.Sign k) rest = Unit {0}

-- s is the token, of this kind, that begins the text s ++ rest
pub record IsToken (k : TokenKind) (s rest : List ℕ) : Type 0 where
  pub spelled : Spells k s
  pub longest : IsLongest s rest
  pub no_comment : ¬ BeginsComment (s ++ rest)
  pub apart : MayFollow k rest

-- ---- a text from its front

-- Spaces, comments and tokens in turn, from the text at the offset `at` to the rest of it at the offset `end`.
pub data Lexing : (at : ℕ) (text : List ℕ) (tokens : List Token) (end : ℕ) (rest : List ℕ) → Type 0 where
  stays : (at : ℕ) (text : List ℕ) → Lexing at text [] at text
  gap : (at : ℕ) (s text : List ℕ) (tokens : List Token) (end : ℕ) (rest : List ℕ) →
      IsGap s text → Lexing (at + length s) text tokens end rest → Lexing at (s ++ text) tokens end rest
  token : (at : ℕ) (k : TokenKind) (s text : List ℕ) (tokens : List Token) (end : ℕ) (rest : List ℕ) →
      IsToken k s text → Lexing (at + length s) text tokens end rest →
      Lexing at (s ++ text) (record { kind = k; at = at; text = s } ∷ tokens) end rest

-- the tokens of a whole text
abbrev pub AreTokens : List ℕ → List Token → Type 0
AreTokens text tokens = Lexing 0 text tokens (length text) []

-- neither a space, a comment nor a token begins the text
abbrev pub BeginsNothing : List ℕ → Type 0
BeginsNothing text = ((s rest : List ℕ) → text ≡ s ++ rest → IsGap s rest → ⊥) × ((k : TokenKind) (s rest : List ℕ) → text ≡ s ++ rest → IsToken k s rest → ⊥)

-- the place of the first token or comment that is none: what stands before it is in order
abbrev pub IsFaultAt : List ℕ → ℕ → Type 0
IsFaultAt text at = (tokens : List Token) × (rest : List ℕ) × Lexing 0 text tokens at rest × (rest ≢ []) × BeginsNothing rest

-- a text of more bytes than these is refused whole
abbrev pub text_limit : ℕ
text_limit = 1048576
