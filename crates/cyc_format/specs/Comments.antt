-- Believed: the comments of a text. They stand where no token does: before the first token, between two, and after the last.
use Rattle.std.specs.Prelude.{ℕ, zero, suc, ◌+◌, ◌-◌, List, [], ◌∷◌, length, take, drop, Option, Some, None, if◌then◌else◌}
use Rattle.cyc_lexer.specs.Bytes.{is_space, all_bytes}
use Rattle.cyc_lexer.specs.Lexing.{Token}
use Rattle.cyc_lexer.specs.Reading.{gap_at}

-- a comment without the white space at its end, which only a `//` comment has
abbrev pub stripped : List ℕ → List ℕ
stripped [] = []
stripped (b ∷ bs) = if all_bytes is_space (b ∷ bs) then [] else b ∷ stripped bs

-- the comment of this length at the front, and those after it
abbrev pub with_comment : Option ℕ → List ℕ → (ℕ → List (List ℕ)) → List (List ℕ)
with_comment None bytes rest = []
with_comment (Some n) bytes rest = stripped (take n bytes) ∷ rest (n - 1)

-- The comments among bytes that are white space and comments. The first `skip` bytes belong to a comment.
abbrev pub comments_from : ℕ → List ℕ → List (List ℕ)
comments_from skip [] = []
comments_from zero (b ∷ bs) = if is_space b then comments_from zero bs else with_comment (gap_at (b ∷ bs)) (b ∷ bs) (λ n. comments_from n bs)
comments_from (suc skip) (b ∷ bs) = comments_from skip bs

abbrev pub comments_of : List ℕ → List (List ℕ)
comments_of bytes = comments_from zero bytes

-- For a text and its tokens: the comments before each token, from an offset on, and those after the last.
abbrev pub comments_around : ℕ → List ℕ → List Token → List (List (List ℕ))
comments_around at text [] = comments_of (drop at text) ∷ []
comments_around at text (t ∷ ts) = comments_of (take (t.at - at) (drop at text)) ∷ comments_around (t.at + length t.text) text ts
