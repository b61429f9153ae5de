-- Steps of the loops over bytes.
use Rattle.std.proofs.Common.{◌≡◌, ℕ, ◌+◌, ◌-◌, ◌<◌, ◌≤◌, false, cond, eqb, ◌&&◌, List, [], ◌∷◌, length, take, drop, get_or, Some, None, refl, ap, sym, ◌∙◌}
use Rattle.std.proofs.Common.{arith}
use Rattle.std.specs.Cmp.Lexicographic.{pointwise}
use Rattle.std.proofs.lemmas.List.{at_drop_more, length-drop}
use Rattle.cyc_lexer.specs.Reading.{longer, comment_end, begins_with}
use Rattle.cyc_lexer.proofs.ReadStrings.{longer-longer}

-- ---- the end of a comment

pub comment_end-more : (bytes : List ℕ) (j : ℕ) → j + 1 < length bytes →
    comment_end (drop j bytes) ≡ cond (eqb (get_or bytes j 0) 42 && eqb (get_or bytes (j + 1) 0) 47) (Some 2) (longer 1 (comment_end (drop (j + 1) bytes)))
comment_end-more bytes j h =
    let b = get_or bytes j 0 in
    let c = get_or bytes (j + 1) 0 in
    at_drop_more comment_end bytes j 0 (omega arith)
    ∙ at_drop_more (λ t. comment_end (b ∷ t)) bytes (j + 1) 0 h
    ∙ ap (λ o. cond (eqb b 42 && eqb c 47) (Some 2) (longer 1 o)) (sym (at_drop_more comment_end bytes (j + 1) 0 h))

pub comment_end-short : (bytes : List ℕ) → length bytes ≤ 1 → comment_end bytes ≡ None
comment_end-short [] h = refl
comment_end-short (b ∷ []) h = refl
comment_end-short (b ∷ c ∷ bs) h = absurd (omega arith)

-- ---- a front

pub pointwise-is : (xs ys : List ℕ) → pointwise eqb xs (take (length xs) ys) ≡ begins_with xs ys
pointwise-is [] ys = refl
pointwise-is (x ∷ xs) [] = refl
pointwise-is (x ∷ xs) (y ∷ ys) = ap (λ b. eqb x y && b) (pointwise-is xs ys)

-- ---- the loop over the ends of comments

pub comment_end-turn : (bytes : List ℕ) (i : ℕ) → 1 ≤ i → i < length bytes → comment_end bytes ≡ longer (i - 1) (comment_end (drop (i - 1) bytes)) →
    (eqb (get_or bytes (i - 1) 0) 42 && eqb (get_or bytes i 0) 47) ≡ false → comment_end bytes ≡ longer (i + 1 - 1) (comment_end (drop (i + 1 - 1) bytes))
comment_end-turn bytes i pos lt h unlike =
    let j : i - 1 + 1 ≡ i = omega arith in
    let here = comment_end-more bytes (i - 1) (omega arith) in
    let test2 = ap (λ k. eqb (get_or bytes (i - 1) 0) 42 && eqb (get_or bytes k 0) 47) j ∙ unlike in
    let rest = longer 1 (comment_end (drop (i - 1 + 1) bytes)) in
    h ∙ ap (longer (i - 1)) (here ∙ ap (λ b. cond b (Some 2) rest) test2)
    ∙ longer-longer (i - 1) 1 (comment_end (drop (i - 1 + 1) bytes))
    ∙ ap (λ k. longer k (comment_end (drop k bytes))) (omega arith)

pub comment_end-past : (bytes : List ℕ) (i : ℕ) → 1 ≤ i → length bytes ≤ i → comment_end bytes ≡ longer (i - 1) (comment_end (drop (i - 1) bytes))
    → None ≡ comment_end bytes
comment_end-past bytes i pos le h =
    sym (h ∙ ap (longer (i - 1)) (comment_end-short (drop (i - 1) bytes) (omega (arith, length-drop (i - 1) bytes))))
