-- What is left of a comment, from byte to byte.
use Rattle.std.proofs.Common.{◌≡◌, ℕ, ◌+◌, ◌<◌, true, false, cond, ◌&&◌, List, [], ◌∷◌, ◌++◌, length, take, get_or, ap, sym, ◌∙◌}
use Rattle.std.proofs.lemmas.List.{take_more}
use Rattle.std.proofs.lemmas.Bool.{cond-true, cond-false, and_right}
use Rattle.cyc_lexer.specs.Bytes.{is_space, all_bytes}
use Rattle.cyc_format.specs.Comments.{stripped}

all_more : (xs : List ℕ) (b : ℕ) → is_space b ≡ true → all_bytes is_space (xs ++ b ∷ []) ≡ all_bytes is_space xs
all_more [] b h = ap (λ x. x && true) h
all_more (x ∷ xs) b h = ap (λ r. is_space x && r) (all_more xs b h)

not_all : (xs : List ℕ) (b : ℕ) → is_space b ≡ false → all_bytes is_space (xs ++ b ∷ []) ≡ false
not_all [] b h = ap (λ x. x && true) h
not_all (x ∷ xs) b h = and_right (is_space x) (all_bytes is_space (xs ++ b ∷ [])) (not_all xs b h)

space_behind : (xs : List ℕ) (b : ℕ) → is_space b ≡ true → stripped (xs ++ b ∷ []) ≡ stripped xs
space_behind [] b h = cond-true (is_space b && true) [] (b ∷ []) (ap (λ x. x && true) h)
space_behind (x ∷ xs) b h =
    ap (λ t. cond t [] (x ∷ stripped (xs ++ b ∷ []))) (all_more (x ∷ xs) b h)
    ∙ ap (λ r. cond (all_bytes is_space (x ∷ xs)) [] (x ∷ r)) (space_behind xs b h)

other_behind : (xs : List ℕ) (b : ℕ) → is_space b ≡ false → stripped (xs ++ b ∷ []) ≡ xs ++ b ∷ []
other_behind [] b h = cond-false (is_space b && true) [] (b ∷ []) (ap (λ x. x && true) h)
other_behind (x ∷ xs) b h =
    cond-false (all_bytes is_space (x ∷ xs ++ b ∷ [])) [] (x ∷ stripped (xs ++ b ∷ [])) (not_all (x ∷ xs) b h)
    ∙ ap (λ r. x ∷ r) (other_behind xs b h)

-- ---- one byte further

pub space_more : (s : List ℕ) (i end : ℕ) → i < length s → is_space (get_or s i 0) ≡ true → stripped (take i s) ≡ take end s
    → stripped (take (i + 1) s) ≡ take end s
space_more s i end lt h was = ap stripped (take_more s i 0 lt) ∙ space_behind (take i s) (get_or s i 0) h ∙ was

pub other_more : (s : List ℕ) (i : ℕ) → i < length s → is_space (get_or s i 0) ≡ false → stripped (take (i + 1) s) ≡ take (i + 1) s
other_more s i lt h = ap stripped (take_more s i 0 lt) ∙ other_behind (take i s) (get_or s i 0) h ∙ sym (take_more s i 0 lt)
