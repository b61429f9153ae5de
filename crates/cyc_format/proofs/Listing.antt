-- Comments from the front on.
use Rattle.std.proofs.Common.{◌≡◌, ℕ, zero, suc, ◌+◌, ◌-◌, ◌<◌, true, false, List, [], ◌∷◌, length, take, drop, get_or, Some, None, refl, ap, sym, ◌∙◌, subst}
use Rattle.std.proofs.Common.{arith}
use Rattle.std.proofs.lemmas.Bool.{cond-true, cond-false}
use Rattle.std.proofs.lemmas.List.{at_drop_more, take_rest}
use Rattle.cyc_lexer.specs.Bytes.{is_space}
use Rattle.cyc_lexer.specs.Reading.{gap_at}
use Rattle.cyc_lexer.proofs.ReadGaps.{gap_read}
use Rattle.cyc_lexer.proofs.ReadTokens.{first_of_gap}
use Rattle.cyc_format.specs.Comments.{stripped, with_comment, comments_from, comments_of}

pub gap_some : (t : List ℕ) (n : ℕ) → gap_at t ≡ Some n → 0 < n
gap_some t n h =
    let w = gap_read t n h in
    let first = first_of_gap w.front w.rest w.holds in
    omega (arith, w.size, ap length first.2)

skipped : (n : ℕ) (bytes : List ℕ) → comments_from n bytes ≡ comments_of (drop n bytes)
skipped zero [] = refl
skipped (suc n) [] = refl
skipped zero (b ∷ bs) = refl
skipped (suc n) (b ∷ bs) = skipped n bs

listed : (b : ℕ) (bs : List ℕ) (n : ℕ) → is_space b ≡ false → gap_at (b ∷ bs) ≡ Some n →
    comments_of (b ∷ bs) ≡ stripped (take n (b ∷ bs)) ∷ comments_of (drop n (b ∷ bs))
listed b bs zero h g = let never = gap_some (b ∷ bs) zero g in absurd (omega arith)
listed b bs (suc n) h g =
    let one : suc n - 1 ≡ n = omega arith in
    cond-false (is_space b) (comments_of bs) (with_comment (gap_at (b ∷ bs)) (b ∷ bs) (λ m. comments_from m bs)) h
    ∙ ap (λ o. with_comment o (b ∷ bs) (λ m. comments_from m bs)) g
    ∙ ap (λ k. stripped (take (suc n) (b ∷ bs)) ∷ comments_from k bs) one
    ∙ ap (λ r. stripped (take (suc n) (b ∷ bs)) ∷ r) (skipped n bs)

none_listed : (b : ℕ) (bs : List ℕ) → is_space b ≡ false → gap_at (b ∷ bs) ≡ None → comments_of (b ∷ bs) ≡ []
none_listed b bs h g =
    cond-false (is_space b) (comments_of bs) (with_comment (gap_at (b ∷ bs)) (b ∷ bs) (λ m. comments_from m bs)) h
    ∙ ap (λ o. with_comment o (b ∷ bs) (λ m. comments_from m bs)) g

-- ---- at an index

pub space_here : (bytes : List ℕ) (i : ℕ) → i < length bytes → is_space (get_or bytes i 0) ≡ true
    → comments_of (drop i bytes) ≡ comments_of (drop (i + 1) bytes)
space_here bytes i lt h =
    at_drop_more comments_of bytes i 0 lt
    ∙ cond-true (is_space (get_or bytes i 0)) (comments_of (drop (i + 1) bytes))
    (with_comment (gap_at (get_or bytes i 0 ∷ drop (i + 1) bytes)) (get_or bytes i 0 ∷ drop (i + 1) bytes) (λ m. comments_from m (drop (i + 1) bytes))) h

pub comment_here : (bytes : List ℕ) (i n : ℕ) → i < length bytes → is_space (get_or bytes i 0) ≡ false → gap_at (drop i bytes) ≡ Some n →
    comments_of (drop i bytes) ≡ stripped (take n (drop i bytes)) ∷ comments_of (drop n (drop i bytes))
comment_here bytes i n lt h g =
    let b = get_or bytes i 0 in
    let bs = drop (i + 1) bytes in
    let here : gap_at (b ∷ bs) ≡ Some n = sym (at_drop_more gap_at bytes i 0 lt) ∙ g in
    at_drop_more comments_of bytes i 0 lt ∙ listed b bs n h here
    ∙ sym (at_drop_more (λ t. stripped (take n t) ∷ comments_of (drop n t)) bytes i 0 lt)

pub nothing_here : (bytes : List ℕ) (i : ℕ) → i < length bytes → is_space (get_or bytes i 0) ≡ false → gap_at (drop i bytes) ≡ None
    → comments_of (drop i bytes) ≡ []
nothing_here bytes i lt h g =
    let b = get_or bytes i 0 in
    let bs = drop (i + 1) bytes in
    at_drop_more comments_of bytes i 0 lt ∙ none_listed b bs h (sym (at_drop_more gap_at bytes i 0 lt) ∙ g)

-- ---- the first comment

-- the bytes from an index on
abbrev pub rest_of : List ℕ → ℕ → List ℕ
rest_of bytes i = take (length bytes - i) (drop i bytes)

pub comment_found : (bytes : List ℕ) (i n : ℕ) (comment : List ℕ) → i < length bytes → is_space (get_or bytes i 0) ≡ false
    → comments_of bytes ≡ comments_of (drop i bytes) →
    gap_at (rest_of bytes i) ≡ Some n → comment ≡ stripped (take n (rest_of bytes i)) → comments_of bytes ≡ comment ∷ comments_of (rest_of (rest_of bytes i) n)
comment_found bytes i n comment lt h was g e =
    let whole = take_rest bytes i in
    let here : gap_at (drop i bytes) ≡ Some n = sym (ap gap_at whole) ∙ g in
    was ∙ comment_here bytes i n lt h here
    ∙ sym (ap (λ t. stripped (take n t) ∷ comments_of (drop n t)) whole)
    ∙ ap (λ x. x ∷ comments_of (drop n (rest_of bytes i))) (sym e)
    ∙ ap (λ t. comment ∷ comments_of t) (sym (take_rest (rest_of bytes i) n))
