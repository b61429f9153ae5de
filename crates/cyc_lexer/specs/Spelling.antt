-- Believed: what spells a token: for each kind, the byte lists that are a token of it.
use Rattle.std.specs.Prelude.{◌≡◌, ◌≢◌, ℕ, suc, zero, ◌+◌, ◌-◌, ◌*◌, ◌≤◌, List, [], ◌∷◌, ◌++◌, length, take, drop, true, false, not, ◌&&◌, nat_eq}
use Rattle.std.specs.Prelude.{if◌then◌else◌, Option, Some, None, IsTrue, codes, ◌⊎◌}
use Rattle.cyc_lexer.specs.Bytes.{is_between, is_letter, is_digit, is_octal_digit, is_hexadecimal_digit, is_word_byte, digit_value, all_bytes, value_of}
use Rattle.cyc_lexer.specs.declared.token.TokenKind.{TokenKind}
use Rattle.cyc_lexer.specs.declared.token.TokenKind.TheVariants as kind
use Rattle.cyc_lexer.specs.declared.token.Keyword.{Keyword}
use Rattle.cyc_lexer.specs.declared.token.Keyword.TheVariants as word
use Rattle.cyc_lexer.specs.declared.token.Sign.{Sign}
use Rattle.cyc_lexer.specs.declared.token.Sign.TheVariants as sign

-- ---- names

abbrev pub keyword_text : Keyword → List ℕ
keyword_text word.Int = codes "int"
keyword_text word.Unsigned = codes "unsigned"
keyword_text word.Char = codes "char"
keyword_text word.Void = codes "void"
keyword_text word.Struct = codes "struct"
keyword_text word.Union = codes "union"
keyword_text word.RegionT = codes "region_t"
keyword_text word.UregionKeyT = codes "uregion_key_t"
keyword_text word.Region = codes "region"
keyword_text word.Open = codes "open"
keyword_text word.Let = codes "let"
keyword_text word.Alias = codes "alias"
keyword_text word.NewDynamicRegion = codes "NewDynamicRegion"
keyword_text word.NewUkey = codes "new_ukey"
keyword_text word.FreeUkey = codes "free_ukey"
keyword_text word.Ufree = codes "ufree"
keyword_text word.Numelts = codes "numelts"
keyword_text word.Rnew = codes "rnew"
keyword_text word.New = codes "new"
keyword_text word.HeapRegion = codes "heap_region"
keyword_text word.UniqueRegion = codes "unique_region"
keyword_text word.Null = codes "NULL"
keyword_text word.If = codes "if"
keyword_text word.Else = codes "else"
keyword_text word.While = codes "while"
keyword_text word.Break = codes "break"
keyword_text word.Continue = codes "continue"
keyword_text word.Return = codes "return"
keyword_text word.Switch = codes "switch"
keyword_text word.Case = codes "case"
keyword_text word.Default = codes "default"
keyword_text word.For = codes "for"

-- a letter or `_`, and then letters, digits and `_`
abbrev pub IsWord : List ℕ → Type 0
IsWord [] = ⊥
IsWord (b ∷ bs) = IsTrue (is_letter b) × IsTrue (all_bytes is_word_byte bs)

abbrev pub IsNoKeyword : List ℕ → Type 0
IsNoKeyword s = (k : Keyword) → s ≢ keyword_text k

-- a backquote, and then the spelling of a name or of a keyword
abbrev pub IsRegionName : List ℕ → Type 0
IsRegionName [] = ⊥
IsRegionName (b ∷ bs) = (b ≡ 96) × IsWord bs

-- ---- numbers

-- a decimal number has no leading 0
abbrev pub IsDecimal : List ℕ → ℕ → Type 0
IsDecimal [] n = ⊥
IsDecimal (d ∷ ds) n = IsTrue (is_between 49 57 d) × IsTrue (all_bytes is_digit ds) × (n ≡ value_of 10 (d ∷ ds))

-- `0`, and then octal digits, or none
abbrev pub IsOctal : List ℕ → ℕ → Type 0
IsOctal [] n = ⊥
IsOctal (d ∷ ds) n = (d ≡ 48) × IsTrue (all_bytes is_octal_digit ds) × (n ≡ value_of 8 ds)

-- `0x` or `0X`, and then hexadecimal digits, one at least
abbrev pub IsHexadecimal : List ℕ → ℕ → Type 0
IsHexadecimal [] n = ⊥
IsHexadecimal (d ∷ []) n = ⊥
IsHexadecimal (d ∷ x ∷ ds) n = (d ≡ 48) × ((x ≡ 120) ⊎ (x ≡ 88)) × (ds ≢ []) × IsTrue (all_bytes is_hexadecimal_digit ds) × (n ≡ value_of 16 ds)

-- digits with what they stand for, at most 4294967295
abbrev pub IsNumber : List ℕ → ℕ → Type 0
IsNumber s n = (IsDecimal s n ⊎ IsOctal s n ⊎ IsHexadecimal s n) × (n ≤ 4294967295)

-- the same, and a suffix `u` or `U`
abbrev pub IsSuffixed : List ℕ → ℕ → Type 0
IsSuffixed s n = (digits : List ℕ) × (u : ℕ) × (s ≡ digits ++ u ∷ []) × ((u ≡ 117) ⊎ (u ≡ 85)) × IsNumber digits n

-- ---- characters

-- what stands after a backslash, other than `x`, and the byte that it means
abbrev pub escapes : List (ℕ × ℕ)
escapes =
    (110, 10) ∷ (116, 9) ∷ (114, 13) ∷ (97, 7) ∷ (98, 8) ∷ (102, 12) ∷ (118, 11) ∷ (48, 0) ∷ (92, 92) ∷ (39, 39) ∷ (34, 34) ∷ []

abbrev pub IsIn : ℕ → ℕ → List (ℕ × ℕ) → Type 0
IsIn letter byte [] = ⊥
IsIn letter byte (e ∷ es) = ((letter ≡ e.0) × (byte ≡ e.1)) ⊎ IsIn letter byte es

-- a byte from 32 to 126 other than the backslash and the closing quote
abbrev pub IsPlain : ℕ → List ℕ → ℕ → Type 0
IsPlain quote s byte = (s ≡ byte ∷ []) × (32 ≤ byte) × (byte ≤ 126) × (byte ≢ 92) × (byte ≢ quote)

abbrev pub IsEscape : List ℕ → ℕ → Type 0
IsEscape s byte = (letter : ℕ) × (s ≡ 92 ∷ letter ∷ []) × IsIn letter byte escapes

-- `\x` and exactly two hexadecimal digits
abbrev pub IsHexadecimalEscape : List ℕ → ℕ → Type 0
IsHexadecimalEscape s byte =
    (high : ℕ) × (low : ℕ) × (s ≡ 92 ∷ 120 ∷ high ∷ low ∷ []) × IsTrue (is_hexadecimal_digit high) × IsTrue (is_hexadecimal_digit low) ×
    (byte ≡ digit_value high * 16 + digit_value low)

-- one character between such quotes, and the byte that it means
abbrev pub IsCharacter : ℕ → List ℕ → ℕ → Type 0
IsCharacter quote s byte = IsPlain quote s byte ⊎ IsEscape s byte ⊎ IsHexadecimalEscape s byte

-- characters one after the other, and the bytes that they mean
abbrev pub AreCharacters : ℕ → List ℕ → List ℕ → Type 0
AreCharacters quote s [] = s ≡ []
AreCharacters quote s (byte ∷ bytes) =
    (first : List ℕ) × (others : List ℕ) × (s ≡ first ++ others) × IsCharacter quote first byte × AreCharacters quote others bytes

-- a string, and its bytes, without the final 0
abbrev pub IsText : List ℕ → List ℕ → Type 0
IsText s bytes = (inner : List ℕ) × (s ≡ 34 ∷ inner ++ 34 ∷ []) × AreCharacters 34 inner bytes

-- ---- the bytes that characters mean, from the front: of each its byte and its length

abbrev pub find_escape : List (ℕ × ℕ) → ℕ → Option (ℕ × ℕ)
find_escape [] letter = None
find_escape (e ∷ es) letter = if nat_eq letter e.0 then Some (e.1, 2) else find_escape es letter

-- after `\x`
abbrev pub hexadecimal_at : List ℕ → Option (ℕ × ℕ)
hexadecimal_at [] = None
hexadecimal_at (h ∷ []) = None
hexadecimal_at (h ∷ l ∷ rest) = if (is_hexadecimal_digit h && is_hexadecimal_digit l) then Some (digit_value h * 16 + digit_value l, 4) else None

-- after a backslash
abbrev pub escape_at : List ℕ → Option (ℕ × ℕ)
escape_at [] = None
escape_at (b ∷ bs) = if nat_eq b 120 then hexadecimal_at bs else find_escape escapes b

abbrev pub character_at : ℕ → List ℕ → Option (ℕ × ℕ)
character_at quote [] = None
character_at quote (b ∷ bs) =
    if nat_eq b 92 then escape_at bs else (if (is_between 32 126 b && not (nat_eq b quote)) then Some (b, 1) else None)

abbrev pub with_character : Option (ℕ × ℕ) → (ℕ → List ℕ) → List ℕ
with_character None rest = []
with_character (Some c) rest = c.0 ∷ rest c.1

-- the bytes that the characters at the front mean, up to where there is none, and at most a number of them
abbrev pub characters_in : ℕ → ℕ → List ℕ → List ℕ
characters_in zero quote bytes = []
characters_in (suc most) quote bytes = with_character (character_at quote bytes) (λ n. characters_in most quote (drop n bytes))

-- the bytes that a string's spelling means: those of the characters between its first byte and its last, the quotes
unfoldable pub text_bytes : List ℕ → List ℕ
text_bytes spelling = characters_in (length spelling) 34 (take (length spelling - 2) (drop 1 spelling))

-- ---- signs

abbrev pub sign_text : Sign → List ℕ
sign_text sign.Tagged = codes "@tagged"
sign_text sign.NotNull = codes "@notnull"
sign_text sign.FatSign = codes "@fat"
sign_text sign.Thin = codes "@thin"
sign_text sign.Exchange = codes ":=:"
sign_text sign.Arrow = codes "->"
sign_text sign.ShiftLeft = codes "<<"
sign_text sign.ShiftRight = codes ">>"
sign_text sign.LessEqual = codes "<="
sign_text sign.GreaterEqual = codes ">="
sign_text sign.EqualEqual = codes "=="
sign_text sign.NotEqual = codes "!="
sign_text sign.AndAnd = codes "&&"
sign_text sign.OrOr = codes "||"
sign_text sign.Plus = codes "+"
sign_text sign.Minus = codes "-"
sign_text sign.Star = codes "*"
sign_text sign.Slash = codes "/"
sign_text sign.Percent = codes "%"
sign_text sign.Less = codes "<"
sign_text sign.Greater = codes ">"
sign_text sign.Assign = codes "="
sign_text sign.Not = codes "!"
sign_text sign.And = codes "&"
sign_text sign.Or = codes "|"
sign_text sign.Xor = codes "^"
sign_text sign.Tilde = codes "~"
sign_text sign.LeftParenthesis = codes "("
sign_text sign.RightParenthesis = codes ")"
sign_text sign.LeftBracket = codes "["
sign_text sign.RightBracket = codes "]"
sign_text sign.LeftBrace = codes "{"
sign_text sign.RightBrace = codes "}"
sign_text sign.Comma = codes ","
sign_text sign.Semicolon = codes ";"
sign_text sign.Colon = codes ":"
sign_text sign.Dot = codes "."
sign_text sign.At = codes "@"
sign_text sign.Question = codes "?"

-- ---- the spellings of each kind

abbrev pub Spells : TokenKind → List ℕ → Type 0
Spells (kind.Keyword k) s = s ≡ keyword_text k
Spells kind.Identifier s = IsWord s × IsNoKeyword s
Spells kind.Region s = IsRegionName s
Spells (kind.Number n false) s = IsNumber s n
Spells (kind.Number n true) s = IsSuffixed s n
Spells (kind.Character byte) s = (inner : List ℕ) × (s ≡ 39 ∷ inner ++ 39 ∷ []) × IsCharacter 39 inner byte
Spells kind.Text s = (bytes : List ℕ) × IsText s bytes
Spells (kind.Sign k) s = s ≡ sign_text k
