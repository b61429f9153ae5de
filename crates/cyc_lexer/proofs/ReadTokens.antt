-- The token at the front of a text is read as it is defined.
use Rattle.std.proofs.Common.{◌||◌, ◌≡◌, ℕ, ◌≤◌, Bool, true, false, cond, eqb, List, [], ◌∷◌, ◌++◌, length, Option, Some, refl, ap, sym, ◌∙◌, subst, arith, inl}
use Rattle.std.proofs.Common.{inr, ◌⊎◌}
use Rattle.std.proofs.lemmas.Bool.{or_cases, or_from, cond_both, eqb-true, ne_eqb}
use Rattle.cyc_lexer.specs.Bytes.{is_between, is_space, is_letter, is_digit}
use Rattle.cyc_lexer.specs.Spelling.{IsWord}
use Rattle.cyc_lexer.specs.Lexing.{IsGap, BeginsComment, IsLongest, IsToken}
use Rattle.cyc_lexer.specs.Reading.{keywords, find_keyword, text_from, word_kind, region_at, quoted_at, text_token, sign_at, word_at, number_at, token_at}
use Rattle.cyc_lexer.specs.declared.token.TokenKind.{TokenKind}
use Rattle.cyc_lexer.specs.declared.token.TokenKind.TheVariants as kind
use Rattle.cyc_lexer.proofs.Fronts.{Reads}
use Rattle.cyc_lexer.proofs.ByteTests.{between, is_between-below}
use Rattle.cyc_lexer.proofs.ReadWords.{keyword_again, identifier_again, keyword_is_word}
use Rattle.cyc_lexer.proofs.Tables.{class}
use Rattle.cyc_lexer.proofs.FirstBytes.{kind_class, class_here}
use Rattle.cyc_lexer.proofs.WordTokens.{word_read, word_at_again, region_read, region_again, number_at_read, number_at_again}
use Rattle.cyc_lexer.proofs.QuotedTokens.{quoted_read, quoted_again, string_read, string_again, sign_at_read, sign_again}

high_class : (letter digit back quote double space : Bool) → letter ≡ false → digit ≡ false → back ≡ false → quote ≡ false → double ≡ false →
    5 ≤ cond letter 0 (cond digit 1 (cond back 2 (cond quote 3 (cond double 4 (cond space 6 5)))))
high_class letter digit back quote double true a b c d e = rw (a, b, c, d, e) (omega arith)
high_class letter digit back quote double false a b c d e = rw (a, b, c, d, e) (omega arith)

-- what is read is the token of the definition
pub token_read : (t : List ℕ) → Reads IsToken t (token_at t)
token_read [] = tt
token_read (b ∷ bs) =
    let t = b ∷ bs in
    let P : Option (TokenKind × ℕ) → Type 0 = Reads IsToken t in
    let last = sign_at t in
    let from4 = cond (eqb b 34) (text_token (text_from 0 bs)) last in
    let from3 = cond (eqb b 39) (quoted_at bs) from4 in
    let from2 = cond (eqb b 96) (region_at bs) from3 in
    cond_both (is_letter b) (word_at t) (cond (is_digit b) (number_at t) from2) P (λ h. word_read b bs h)
    (λ letter. cond_both (is_digit b) (number_at t) from2 P (λ h. number_at_read b bs h)
    (λ digit. cond_both (eqb b 96) (region_at bs) from3 P (λ h. subst (λ (x : ℕ). Reads IsToken (x ∷ bs) (region_at bs)) (sym (eqb-true b 96 h))
    (region_read bs))
    (λ back. cond_both (eqb b 39) (quoted_at bs) from4 P (λ h. subst (λ (x : ℕ). Reads IsToken (x ∷ bs) (quoted_at bs)) (sym (eqb-true b 39 h))
    (quoted_read bs))
    (λ quote. cond_both (eqb b 34) (text_token (text_from 0 bs)) last P
    (λ h. subst (λ (x : ℕ). Reads IsToken (x ∷ bs) (text_token (text_from 0 bs))) (sym (eqb-true b 34 h)) (string_read bs))
    (λ double. sign_at_read b bs (high_class (is_letter b) (is_digit b) (eqb b 96) (eqb b 39) (eqb b 34) (is_space b) letter digit back quote double))))))

word_again : (k : TokenKind) (s rest : List ℕ) → IsWord s → IsLongest s rest → word_kind (find_keyword keywords s) ≡ k
    → token_at (s ++ rest) ≡ Some (k, length s)
word_again k [] rest word longest e = absurd word
word_again k (b ∷ bs) rest word longest e = word_at_again k b bs rest word longest e

-- and the token of the definition is read
pub token_again : (k : TokenKind) (s rest : List ℕ) → IsToken k s rest → token_at (s ++ rest) ≡ Some (k, length s)
token_again (kind.Keyword k) s rest h = word_again (kind.Keyword k) s rest (keyword_is_word s k h.spelled) h.longest (keyword_again s k h.spelled)
token_again kind.Identifier s rest h = word_again kind.Identifier s rest h.spelled.0 h.longest (identifier_again s h.spelled.1)
token_again kind.Region s rest h = region_again s rest h.spelled h.longest
token_again (kind.Number n u) s rest h = number_at_again n u s rest h.spelled h.apart
token_again (kind.Character byte) s rest h = quoted_again byte h.spelled.0 s rest h.spelled.1 h.spelled.2
token_again kind.Text s rest h = string_again s h.spelled.0 rest h.spelled.1
token_again (kind.Sign k) s rest h = sign_again k s rest h.spelled h.longest h.no_comment

-- ---- consequences

low_class : (letter digit back quote double space : Bool) → letter ≡ false → digit ≡ false → back ≡ false → quote ≡ false → double ≡ false → space ≡ true →
    ◌≡◌ {A = ℕ} (cond letter 0 (cond digit 1 (cond back 2 (cond quote 3 (cond double 4 (cond space 6 5)))))) 6
low_class letter digit back quote double space a b c d e f = rw (a, b, c, d, e, f) refl

low_byte : (b : ℕ) → is_space b ≡ true → b ≤ 32
low_byte b h = elim (or_cases (eqb b 32) (is_between 9 13 b) h) [ inl k ↦ omega (arith, eqb-true b 32 k) | inr k ↦ omega (arith, (between 9 13 b k).1) ]

space_class : (b : ℕ) → is_space b ≡ true → class b ≡ 6
space_class b h =
    let low = low_byte b h in
    low_class (is_letter b) (is_digit b) (eqb b 96) (eqb b 39) (eqb b 34) (is_space b)
    (or_from (eqb b 95 || is_between 65 90 b) (is_between 97 122 b)
    (or_from (eqb b 95) (is_between 65 90 b) (ne_eqb b 95 (λ e. absurd (omega arith))) (is_between-below 65 90 b (omega arith)))
    (is_between-below 97 122 b (omega arith)))
    (is_between-below 48 57 b (omega arith)) (ne_eqb b 96 (λ e. absurd (omega arith))) (ne_eqb b 39 (λ e. absurd (omega arith)))
    (ne_eqb b 34 (λ e. absurd (omega arith))) h

kind_class-within : (k : TokenKind) → kind_class k ≤ 5
kind_class-within (kind.Keyword k) = omega arith
kind_class-within kind.Identifier = omega arith
kind_class-within (kind.Number n u) = omega arith
kind_class-within kind.Region = omega arith
kind_class-within (kind.Character byte) = omega arith
kind_class-within kind.Text = omega arith
kind_class-within (kind.Sign k) = omega arith

pub first_of_gap : (s rest : List ℕ) → IsGap s rest → (b : ℕ) × (bs : List ℕ) × (s ≡ b ∷ bs) × ((class b ≡ 6) ⊎ BeginsComment (s ++ rest))
first_of_gap s rest (inl h) = (h.0, [], h.1, inl (space_class h.0 h.2))
first_of_gap s rest (inr (inl h)) = (47, 47 ∷ h.0, h.1, inr (h.0 ++ rest, inl (ap (λ t. t ++ rest) h.1)))
first_of_gap s rest (inr (inr h)) = (47, 42 ∷ h.0 ++ 42 ∷ 47 ∷ [], h.1, inr ((h.0 ++ 42 ∷ 47 ∷ []) ++ rest, inr (ap (λ t. t ++ rest) h.1)))

gap_no_token : (k : TokenKind) (b : ℕ) (bs s r : List ℕ) → b ∷ bs ≡ s ++ r → ((class b ≡ 6) ⊎ BeginsComment (b ∷ bs)) → IsToken k s r → ⊥
gap_no_token k b bs s r e (inl h) token = absurd (omega (arith, h, class_here k b bs s r e token.spelled, kind_class-within k))
gap_no_token k b bs s r e (inr h) token = token.no_comment (subst BeginsComment e h)

-- a gap and a token never begin at one place
pub gap_or_token : (k : TokenKind) (s r s2 r2 : List ℕ) → IsGap s r → IsToken k s2 r2 → s ++ r ≡ s2 ++ r2 → ⊥
gap_or_token k s r s2 r2 gap token e =
    let first = first_of_gap s r gap in
    let here : first.0 ∷ first.1 ++ r ≡ s2 ++ r2 = sym (ap (λ u. u ++ r) first.2) ∙ e in
    gap_no_token k first.0 (first.1 ++ r) s2 r2 here
    (elim first.3 [ inl h ↦ inl h | inr h ↦ inr (subst BeginsComment (ap (λ u. u ++ r) first.2) h) ]) token
