-- Words are read as they are spelled.
use Rattle.std.proofs.Common.{◌≡◌, ℕ, true, eqb, List, [], ◌∷◌, Option, Some, None, refl, ap, sym, ◌∙◌, subst}
use Rattle.std.proofs.lemmas.Bool.{cond_both, and_parts, and_from, eqb-true, false≢true}
use Rattle.cyc_lexer.specs.Bytes.{is_word_byte, all_bytes}
use Rattle.cyc_lexer.specs.Spelling.{keyword_text, IsWord, IsNoKeyword, Spells}
use Rattle.cyc_lexer.specs.Reading.{same, find_keyword, keywords, word_kind}
use Rattle.cyc_lexer.specs.declared.token.TokenKind.TheVariants as kind
use Rattle.cyc_lexer.specs.declared.token.Keyword.{Keyword}
use Rattle.cyc_lexer.proofs.ByteTests.{letter_word}
use Rattle.cyc_lexer.proofs.Tables.{keyword_found, keyword_word, keywords_are_spelled, keywords_spelled}

pub same-true : (xs ys : List ℕ) → same xs ys ≡ true → xs ≡ ys
same-true [] [] h = refl
same-true [] (y ∷ ys) h = absurd (false≢true h)
same-true (x ∷ xs) [] h = absurd (false≢true h)
same-true (x ∷ xs) (y ∷ ys) h =
    let both = and_parts (eqb x y) (same xs ys) h in
    let first = eqb-true x y both.0 in
    let others = same-true xs ys both.1 in
    cc

abbrev KeywordMeans : List ℕ → Option Keyword → Type 0
KeywordMeans w None = Unit {0}
KeywordMeans w (Some k) = w ≡ keyword_text k

keyword_read : (es : List (Keyword × List ℕ)) (w : List ℕ) → keywords_are_spelled es ≡ true → KeywordMeans w (find_keyword es w)
keyword_read [] w h = tt
keyword_read (e ∷ es) w h =
    let both = and_parts (same e.1 (keyword_text e.0)) (keywords_are_spelled es) h in
    cond_both (same w e.1) (Some e.0) (find_keyword es w) (KeywordMeans w)
    (λ g. same-true w e.1 g ∙ same-true e.1 (keyword_text e.0) both.0) (λ g. keyword_read es w both.1)

kind_spells : (w : List ℕ) → IsWord w → (o : Option Keyword) → find_keyword keywords w ≡ o → Spells (word_kind o) w
kind_spells w h None e = (h, λ k is. (let never : None ≡ Some k = sym e ∙ ap (find_keyword keywords) is ∙ keyword_found k in cc))
kind_spells w h (Some k) e = subst (KeywordMeans w) e (keyword_read keywords w keywords_spelled)

-- each word spells the kind that is read
pub word_spells : (w : List ℕ) → IsWord w → Spells (word_kind (find_keyword keywords w)) w
word_spells w h = kind_spells w h (find_keyword keywords w) refl

no_keyword : (w : List ℕ) → IsNoKeyword w → (o : Option Keyword) → find_keyword keywords w ≡ o → o ≡ None
no_keyword w h None e = refl
no_keyword w h (Some k) e = absurd (h k (subst (KeywordMeans w) e (keyword_read keywords w keywords_spelled)))

pub keyword_again : (w : List ℕ) (k : Keyword) → w ≡ keyword_text k → word_kind (find_keyword keywords w) ≡ kind.Keyword k
keyword_again w k e = ap (λ s. word_kind (find_keyword keywords s)) e ∙ ap word_kind (keyword_found k)

pub identifier_again : (w : List ℕ) → IsNoKeyword w → word_kind (find_keyword keywords w) ≡ kind.Identifier
identifier_again w h = ap word_kind (no_keyword w h (find_keyword keywords w) refl)

pub keyword_is_word : (w : List ℕ) (k : Keyword) → w ≡ keyword_text k → IsWord w
keyword_is_word w k e = subst IsWord (sym e) (keyword_word k)

pub word_bytes : (w : List ℕ) → IsWord w → all_bytes is_word_byte w ≡ true
word_bytes [] h = refl
word_bytes (b ∷ bs) h = and_from (is_word_byte b) (all_bytes is_word_byte bs) (letter_word b h.0) h.1
