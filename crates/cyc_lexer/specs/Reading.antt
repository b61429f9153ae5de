-- Believed: how the front of a text is read, step by step: what the functions of the crate compute. Lengths are in bytes. That this reading is the one of
-- Lexing.antt is proved in proofs/.
use Rattle.std.specs.Prelude.{ℕ, suc, ◌+◌, ◌-◌, ◌*◌, zero, List, [], ◌∷◌, length, map, take, slice_index, Bool, true, false, not, ◌&&◌, ◌||◌, nat_eq, nat_le}
use Rattle.std.specs.Prelude.{if◌then◌else◌, Option, Some, None}
use Rattle.cyc_lexer.specs.declared.words.TheConstants.{KEYWORDS}
use Rattle.cyc_lexer.specs.declared.signs.TheConstants.{SIGNS}
use Rattle.cyc_lexer.specs.Bytes.{is_space, is_letter, is_digit, is_octal_digit, is_hexadecimal_digit, is_word_byte, digit_value}
use Rattle.cyc_lexer.specs.Spelling.{character_at}
use Rattle.cyc_lexer.specs.declared.token.TokenKind.{TokenKind}
use Rattle.cyc_lexer.specs.declared.token.TokenKind.TheVariants as kind
use Rattle.cyc_lexer.specs.declared.token.Keyword.{Keyword}
use Rattle.cyc_lexer.specs.declared.token.Sign.{Sign}

-- how many bytes at the front pass
abbrev pub run : (ℕ → Bool) → List ℕ → ℕ
run test [] = 0
run test (b ∷ bs) = if test b then suc (run test bs) else 0

-- a length, if there is one, and `n` bytes more
abbrev pub longer : ℕ → Option ℕ → Option ℕ
longer n None = None
longer n (Some m) = Some (n + m)

abbrev pub same : List ℕ → List ℕ → Bool
same [] [] = true
same [] (y ∷ ys) = false
same (x ∷ xs) [] = false
same (x ∷ xs) (y ∷ ys) = nat_eq x y && same xs ys

-- ---- names

abbrev pub find_keyword : List (Keyword × List ℕ) → List ℕ → Option Keyword
find_keyword [] word = None
find_keyword (e ∷ es) word = if same word e.1 then Some e.0 else find_keyword es word

-- the keywords with their spellings
abbrev pub keywords : List (Keyword × List ℕ)
keywords = map (λ e. (e.0, e.1.now)) KEYWORDS

-- ---- numbers

abbrev pub is_digit_to : ℕ → ℕ → Bool
is_digit_to base byte = if nat_eq base 8 then is_octal_digit byte else (if nat_eq base 10 then is_digit byte else is_hexadecimal_digit byte)

-- the number that digits to a base stand for, after digits that stand for `before`
abbrev pub digits_value : ℕ → ℕ → List ℕ → Option ℕ
digits_value base before [] = Some before
digits_value base before (d ∷ ds) =
    if is_digit_to base d then (if nat_le (before * base + digit_value d) 4294967295 then digits_value base (before * base + digit_value d)
    ds else None) else None

abbrev pub after_x : List ℕ → Option ℕ
after_x [] = None
after_x (d ∷ ds) = digits_value 16 0 (d ∷ ds)

abbrev pub after_zero : List ℕ → Option ℕ
after_zero [] = Some 0
after_zero (d ∷ ds) = if (nat_eq d 120 || nat_eq d 88) then after_x ds else digits_value 8 0 (d ∷ ds)

abbrev pub digits_of : List ℕ → Option ℕ
digits_of [] = None
digits_of (d ∷ ds) = if nat_eq d 48 then after_zero ds else digits_value 10 0 (d ∷ ds)

abbrev pub is_suffix : ℕ → Bool
is_suffix byte = nat_eq byte 117 || nat_eq byte 85

abbrev pub with_suffix : Bool → Option ℕ → Option TokenKind
with_suffix u None = None
with_suffix u (Some n) = Some (kind.Number n u)

-- the number that a word spells, all of it
abbrev pub number_of : List ℕ → Option TokenKind
number_of word =
    if is_suffix (slice_index word (length word - 1)) then with_suffix true (digits_of (take (length word - 1) word)) else with_suffix false (digits_of word)

-- ---- characters and strings

abbrev pub on_character : Option (ℕ × ℕ) → (ℕ → Option ℕ) → Option ℕ
on_character None rest = None
on_character (Some c) rest = rest (c.1 - 1)

-- The length of a string after its opening quote, with the closing one. The first `skip` bytes belong to a character.
abbrev pub text_from : ℕ → List ℕ → Option ℕ
text_from skip [] = None
text_from zero (b ∷ bs) = if nat_eq b 34 then Some 1 else on_character (character_at 34 (b ∷ bs)) (λ n. longer 1 (text_from n bs))
text_from (suc skip) (b ∷ bs) = longer 1 (text_from skip bs)

-- ---- signs

abbrev pub begins_with : List ℕ → List ℕ → Bool
begins_with [] text = true
begins_with (x ∷ xs) [] = false
begins_with (x ∷ xs) (y ∷ ys) = nat_eq x y && begins_with xs ys

abbrev pub find_sign : List (Sign × List ℕ) → List ℕ → Option (TokenKind × ℕ)
find_sign [] text = None
find_sign (e ∷ es) text = if begins_with e.1 text then Some (kind.Sign e.0, length e.1) else find_sign es text

-- the signs with their spellings
abbrev pub signs : List (Sign × List ℕ)
signs = map (λ e. (e.0, e.1.now)) SIGNS

-- ---- between tokens

-- the length up to and with the next `*/`
abbrev pub comment_end : List ℕ → Option ℕ
comment_end [] = None
comment_end (b ∷ []) = None
comment_end (b ∷ c ∷ bs) = if (nat_eq b 42 && nat_eq c 47) then Some 2 else longer 1 (comment_end (c ∷ bs))

abbrev pub is_no_line_end : ℕ → Bool
is_no_line_end byte = not (nat_eq byte 10)

-- after a slash
abbrev pub comment_at : List ℕ → Option ℕ
comment_at [] = None
comment_at (b ∷ bs) =
    if nat_eq b 47 then Some (run is_no_line_end bs + 2) else (if nat_eq b 42 then longer 2 (comment_end bs) else None)

-- the length of one space or comment
abbrev pub gap_at : List ℕ → Option ℕ
gap_at [] = None
gap_at (b ∷ bs) = if is_space b then Some 1 else (if nat_eq b 47 then comment_at bs else None)

-- ---- tokens: the kind and the length

abbrev pub word_kind : Option Keyword → TokenKind
word_kind None = kind.Identifier
word_kind (Some k) = kind.Keyword k

abbrev pub with_length : ℕ → Option TokenKind → Option (TokenKind × ℕ)
with_length n None = None
with_length n (Some k) = Some (k, n)

-- after a backquote
abbrev pub region_at : List ℕ → Option (TokenKind × ℕ)
region_at [] = None
region_at (b ∷ bs) = if is_letter b then Some (kind.Region, run is_word_byte (b ∷ bs) + 1) else None

-- after a quote
abbrev pub closed_by : Option (ℕ × ℕ) → List ℕ → Option (TokenKind × ℕ)
closed_by None bs = None
closed_by (Some c) bs = if nat_eq (slice_index bs c.1) 39 then Some (kind.Character c.0, c.1 + 2) else None

abbrev pub quoted_at : List ℕ → Option (TokenKind × ℕ)
quoted_at bs = closed_by (character_at 39 bs) bs

abbrev pub text_token : Option ℕ → Option (TokenKind × ℕ)
text_token None = None
text_token (Some n) = Some (kind.Text, n + 1)

-- `//` or `/*` stands here
abbrev pub begins_comment : List ℕ → Bool
begins_comment [] = false
begins_comment (b ∷ []) = false
begins_comment (b ∷ c ∷ bs) = nat_eq b 47 && (nat_eq c 47 || nat_eq c 42)

abbrev pub sign_at : List ℕ → Option (TokenKind × ℕ)
sign_at text = if begins_comment text then None else find_sign signs text

abbrev pub word_at : List ℕ → Option (TokenKind × ℕ)
word_at text = Some (word_kind (find_keyword keywords (take (run is_word_byte text) text)), run is_word_byte text)

abbrev pub number_at : List ℕ → Option (TokenKind × ℕ)
number_at text = with_length (run is_word_byte text) (number_of (take (run is_word_byte text) text))

-- the token at the front of a text
abbrev pub token_at : List ℕ → Option (TokenKind × ℕ)
token_at [] = None
token_at (b ∷ bs) =
    if is_letter b then word_at (b ∷ bs)
    else (if is_digit b then number_at (b ∷ bs)
    else (if nat_eq b 96 then region_at bs
    else (if nat_eq b 39 then quoted_at bs
    else (if nat_eq b 34 then text_token (text_from 0 bs)
    else sign_at (b ∷ bs)))))
