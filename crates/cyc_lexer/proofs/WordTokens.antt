-- Tokens that are words or regions.
use Rattle.std.proofs.Common.{◌≡◌, ℕ, ◌+◌, ◌≤◌, Bool, true, cond, eqb, List, [], ◌∷◌, ◌++◌, length, take, get_or, Option, Some, None, refl, ap, sym, ◌∙◌, subst}
use Rattle.std.proofs.Common.{arith}
use Rattle.std.proofs.lemmas.Bool.{cond_both, and_parts, cond-true, cond-false, false_from_ne_true, true≢false}
use Rattle.std.proofs.lemmas.List.{take_at}
use Rattle.cyc_lexer.specs.Bytes.{is_letter, is_digit, is_word_byte, all_bytes}
use Rattle.cyc_lexer.specs.Spelling.{IsWord, IsRegionName, Spells}
use Rattle.cyc_lexer.specs.Lexing.{IsLongest, BeginsWithWordByte, MayFollow, IsToken}
use Rattle.cyc_lexer.specs.Reading.{keywords, run, find_keyword, number_of, text_from, word_kind, with_length, region_at, quoted_at, text_token, sign_at}
use Rattle.cyc_lexer.specs.Reading.{word_at, number_at, token_at}
use Rattle.cyc_lexer.specs.declared.token.TokenKind.{TokenKind}
use Rattle.cyc_lexer.specs.declared.token.TokenKind.TheVariants as kind
use Rattle.cyc_lexer.specs.declared.token.Keyword.{Keyword}
use Rattle.cyc_lexer.proofs.Fronts.{Cut, Reads, Cut-take}
use Rattle.cyc_lexer.proofs.ByteTests.{digit_no_letter, letter_word}
use Rattle.cyc_lexer.proofs.ReadRuns.{Stops, IsRun, run_cut, run_covers, run_again}
use Rattle.cyc_lexer.proofs.ReadSuffixes.{spelled_words, spelled_first, spelled_some, number_again, number_read, NumberTokenMeans}
use Rattle.cyc_lexer.proofs.ReadWords.{word_spells, keyword_is_word, word_bytes}
use Rattle.cyc_lexer.proofs.FirstBytes.{kind_class, class_letter, class_digit, class_here, IsBounded, no_comment_at, token_from, class_not_slash}

words_of_class : (k : TokenKind) (s : List ℕ) → 0 ≡ kind_class k → Spells k s → all_bytes is_word_byte s ≡ true
words_of_class (kind.Keyword k) s e h = word_bytes s (keyword_is_word s k h)
words_of_class kind.Identifier s e h = word_bytes s h.0
words_of_class (kind.Number n u) s e h = absurd (omega (arith, e))
words_of_class kind.Region s e h = absurd (omega (arith, e))
words_of_class (kind.Character byte) s e h = absurd (omega (arith, e))
words_of_class kind.Text s e h = absurd (omega (arith, e))
words_of_class (kind.Sign k) s e h = absurd (omega (arith, e))

covered : (t other more : List ℕ) → t ≡ other ++ more → all_bytes is_word_byte other ≡ true → length other ≤ run is_word_byte t
covered t other more e h = omega (arith, run_covers is_word_byte other more h, ap (run is_word_byte) e)

words_bounded : (b : ℕ) (bs : List ℕ) → is_letter b ≡ true → IsBounded (run is_word_byte (b ∷ bs)) (b ∷ bs)
words_bounded b bs letter k other more e h =
    covered (b ∷ bs) other more e (words_of_class k other (sym (class_letter b letter) ∙ class_here k b bs other more e h) h)

is_word_front : (b : ℕ) (bs s rest : List ℕ) → is_letter b ≡ true → b ∷ bs ≡ s ++ rest → IsRun is_word_byte s rest → IsWord s
is_word_front b bs [] rest letter e h = absurd (true≢false (sym (letter_word b letter) ∙ subst (Stops is_word_byte) (sym e) h.1))
is_word_front b bs (x ∷ xs) rest letter e h =
    (ap (λ s. is_letter (get_or s 0 0)) (sym e) ∙ letter, (and_parts (is_word_byte x) (all_bytes is_word_byte xs) h.0).1)

word_may_follow : (o : Option Keyword) (rest : List ℕ) → MayFollow (word_kind o) rest
word_may_follow None rest = tt
word_may_follow (Some k) rest = tt

pub word_read : (b : ℕ) (bs : List ℕ) → is_letter b ≡ true → Reads IsToken (b ∷ bs) (word_at (b ∷ bs))
word_read b bs letter =
    let t = b ∷ bs in
    let n = run is_word_byte t in
    let w = run_cut is_word_byte t in
    let s = w.front in
    let k = word_kind (find_keyword keywords s) in
    let token = token_from k t s w.rest w.is (word_spells s (is_word_front b bs s w.rest letter w.is w.holds))
    (subst (λ (m : ℕ). IsBounded m t) (sym w.size) (words_bounded b bs letter))
    (no_comment_at b bs (class_not_slash b 0 (class_letter b letter) (omega arith))) (word_may_follow (find_keyword keywords s) w.rest) in
    subst (λ (u : List ℕ). Cut (IsToken (word_kind (find_keyword keywords u))) n t) (sym (Cut-take (IsRun is_word_byte) n t w))
    (record { front = s; rest = w.rest; is = w.is; size = w.size; holds = token })

letter_token : (b : ℕ) (bs : List ℕ) → is_letter b ≡ true → token_at (b ∷ bs) ≡ word_at (b ∷ bs)
letter_token b bs h =
    cond-true (is_letter b) (word_at (b ∷ bs))
    (cond (is_digit b) (number_at (b ∷ bs))
    (cond (eqb b 96) (region_at bs) (cond (eqb b 39) (quoted_at bs) (cond (eqb b 34) (text_token (text_from 0 bs)) (sign_at (b ∷ bs)))))) h

-- the whole run is a word, and the token is no shorter
word_run_again : (b : ℕ) (bs rest : List ℕ) → IsWord (b ∷ bs) → IsLongest (b ∷ bs) rest → run is_word_byte (b ∷ bs ++ rest) ≡ length (b ∷ bs)
word_run_again b bs rest word longest =
    let t = b ∷ bs ++ rest in
    let w = run_cut is_word_byte t in
    let spelled = word_spells w.front (is_word_front b (bs ++ rest) w.front w.rest word.0 w.is w.holds) in
    omega (
      arith,
      longest (word_kind (find_keyword keywords w.front)) w.front w.rest w.is spelled,
      w.size,
      run_covers is_word_byte (b ∷ bs) rest (word_bytes (b ∷ bs) word),
    )

pub word_at_again : (k : TokenKind) (b : ℕ) (bs rest : List ℕ) → IsWord (b ∷ bs) → IsLongest (b ∷ bs) rest → word_kind (find_keyword keywords (b ∷ bs)) ≡ k →
    token_at (b ∷ bs ++ rest) ≡ Some (k, length (b ∷ bs))
word_at_again k b bs rest word longest e =
    let t = b ∷ bs ++ rest in
    let size = word_run_again b bs rest word longest in
    letter_token b (bs ++ rest) word.0
    ∙ ap (λ n. Some (word_kind (find_keyword keywords (take n t)), n)) size
    ∙ ap (λ s. Some (word_kind (find_keyword keywords s), length (b ∷ bs))) (take_at (b ∷ bs) rest (length (b ∷ bs)) refl)
    ∙ ap (λ l. Some (l, length (b ∷ bs))) e

-- ---- regions

region_of_class : (k : TokenKind) (s : List ℕ) → 2 ≡ kind_class k → Spells k s → IsRegionName s
region_of_class (kind.Keyword k) s e h = absurd (omega (arith, e))
region_of_class kind.Identifier s e h = absurd (omega (arith, e))
region_of_class (kind.Number n u) s e h = absurd (omega (arith, e))
region_of_class kind.Region s e h = h
region_of_class (kind.Character byte) s e h = absurd (omega (arith, e))
region_of_class kind.Text s e h = absurd (omega (arith, e))
region_of_class (kind.Sign k) s e h = absurd (omega (arith, e))

region_covered : (bs other more : List ℕ) → 96 ∷ bs ≡ other ++ more → IsRegionName other → length other ≤ run is_word_byte bs + 1
region_covered bs [] more e h = absurd h
region_covered bs (o ∷ os) more e h =
    let others : bs ≡ os ++ more = cc in
    omega (arith, covered bs os more others (word_bytes os h.1))

region_bounded : (bs : List ℕ) → IsBounded (run is_word_byte bs + 1) (96 ∷ bs)
region_bounded bs k other more e h = region_covered bs other more e (region_of_class k other (class_here k 96 bs other more e h) h)

pub region_read : (bs : List ℕ) → Reads IsToken (96 ∷ bs) (region_at bs)
region_read [] = tt
region_read (b ∷ bs) =
    let t = b ∷ bs in
    let n = run is_word_byte t + 1 in
    let w = run_cut is_word_byte t in
    cond_both (is_letter b) (Some (kind.Region, n)) None (Reads IsToken (96 ∷ t))
    (λ letter. (let size : length (96 ∷ w.front) ≡ n = omega (arith, w.size) in
    record {
      front = 96 ∷ w.front;
      rest = w.rest;
      is = ap (λ s. 96 ∷ s) w.is;
      size = size;
      holds = token_from kind.Region (96 ∷ t) (96 ∷ w.front) w.rest (ap (λ s. 96 ∷ s) w.is)
          (refl, is_word_front b bs w.front w.rest letter w.is w.holds) (subst (λ (m : ℕ). IsBounded m (96 ∷ t)) (sym size) (region_bounded t))
          (no_comment_at 96 t (λ e. absurd (omega (arith, e)))) tt;
    }))
    (λ _. tt)

region_size : (b : ℕ) (bs rest : List ℕ) → IsWord (b ∷ bs) → IsLongest (96 ∷ b ∷ bs) rest → run is_word_byte (b ∷ bs ++ rest) ≡ length (b ∷ bs)
region_size b bs rest word longest =
    let t = b ∷ bs ++ rest in
    let w = run_cut is_word_byte t in
    let bound = longest kind.Region (96 ∷ w.front) w.rest (ap (λ s. 96 ∷ s) w.is) (refl, is_word_front b (bs ++ rest) w.front w.rest word.0 w.is w.holds) in
    omega (arith, bound, w.size, run_covers is_word_byte (b ∷ bs) rest (word_bytes (b ∷ bs) word))

pub region_again : (s rest : List ℕ) → IsRegionName s → IsLongest s rest → token_at (s ++ rest) ≡ Some (kind.Region, length s)
region_again [] rest h longest = absurd h
region_again (a ∷ []) rest h longest = absurd h.1
region_again (a ∷ b ∷ bs) rest h longest =
    let longest2 = subst (λ (x : ℕ). IsLongest (x ∷ b ∷ bs) rest) h.0 longest in
    ap (λ x. token_at (x ∷ b ∷ bs ++ rest)) h.0
    ∙ cond-true (is_letter b) (Some (kind.Region, run is_word_byte (b ∷ bs ++ rest) + 1)) None h.1.0
    ∙ ap (λ n. Some (kind.Region, n)) (omega (arith, region_size b bs rest h.1 longest2))

-- ---- numbers

number_of_class : (k : TokenKind) (s : List ℕ) → 1 ≡ kind_class k → Spells k s → all_bytes is_word_byte s ≡ true
number_of_class (kind.Keyword k) s e h = absurd (omega (arith, e))
number_of_class kind.Identifier s e h = absurd (omega (arith, e))
number_of_class (kind.Number n u) s e h = spelled_words n u s h
number_of_class kind.Region s e h = absurd (omega (arith, e))
number_of_class (kind.Character byte) s e h = absurd (omega (arith, e))
number_of_class kind.Text s e h = absurd (omega (arith, e))
number_of_class (kind.Sign k) s e h = absurd (omega (arith, e))

numbers_bounded : (b : ℕ) (bs : List ℕ) → is_digit b ≡ true → IsBounded (run is_word_byte (b ∷ bs)) (b ∷ bs)
numbers_bounded b bs digit k other more e h =
    covered (b ∷ bs) other more e (number_of_class k other (sym (class_digit b digit) ∙ class_here k b bs other more e h) h)

no_word_byte : (rest : List ℕ) → Stops is_word_byte rest → BeginsWithWordByte rest → ⊥
no_word_byte [] h f = f
no_word_byte (b ∷ bs) h f = absurd (true≢false (sym f ∙ h))

stops_word : (rest : List ℕ) → (BeginsWithWordByte rest → ⊥) → Stops is_word_byte rest
stops_word [] h = tt
stops_word (b ∷ bs) h = false_from_ne_true (is_word_byte b) h

number_token : (b : ℕ) (bs : List ℕ) → is_digit b ≡ true → (w : Cut (IsRun is_word_byte) (run is_word_byte (b ∷ bs)) (b ∷ bs)) →
    (o : Option TokenKind) → NumberTokenMeans w.front o → Reads IsToken (b ∷ bs) (with_length (run is_word_byte (b ∷ bs)) o)
number_token b bs digit w None h = tt
number_token b bs digit w (Some k) h =
    let t = b ∷ bs in
    let token = token_from (kind.Number h.value h.suffix) t w.front w.rest w.is h.spelled
    (subst (λ (m : ℕ). IsBounded m t) (sym w.size) (numbers_bounded b bs digit))
    (no_comment_at b bs (class_not_slash b 1 (class_digit b digit) (omega arith))) (no_word_byte w.rest w.holds.1) in
    record {
      front = w.front;
      rest = w.rest;
      is = w.is;
      size = w.size;
      holds = subst (λ (l : TokenKind). IsToken l w.front w.rest) (sym h.is) token;
    }

pub number_at_read : (b : ℕ) (bs : List ℕ) → is_digit b ≡ true → Reads IsToken (b ∷ bs) (number_at (b ∷ bs))
number_at_read b bs digit =
    let t = b ∷ bs in
    let n = run is_word_byte t in
    let w = run_cut is_word_byte t in
    subst (λ (u : List ℕ). Reads IsToken t (with_length n (number_of u))) (sym (Cut-take (IsRun is_word_byte) n t w))
    (number_token b bs digit w (number_of w.front) (number_read w.front))

digit_token : (b : ℕ) (bs : List ℕ) → is_digit b ≡ true → token_at (b ∷ bs) ≡ number_at (b ∷ bs)
digit_token b bs h =
    let others = cond (eqb b 96) (region_at bs) (cond (eqb b 39) (quoted_at bs) (cond (eqb b 34) (text_token (text_from 0 bs)) (sign_at (b ∷ bs)))) in
    cond-false (is_letter b) (word_at (b ∷ bs)) (cond (is_digit b) (number_at (b ∷ bs)) others) (digit_no_letter b h)
    ∙ cond-true (is_digit b) (number_at (b ∷ bs)) others h

pub number_at_again : (n : ℕ) (u : Bool) (s rest : List ℕ) → Spells (kind.Number n u) s → (BeginsWithWordByte rest → ⊥)
    → token_at (s ++ rest) ≡ Some (kind.Number n u, length s)
number_at_again n u [] rest h apart = absurd (spelled_some n u h)
number_at_again n u (b ∷ bs) rest h apart =
    let s = b ∷ bs in
    let t = b ∷ bs ++ rest in
    let size : run is_word_byte t ≡ length s = run_again is_word_byte s rest (spelled_words n u s h) (stops_word rest apart) in
    digit_token b (bs ++ rest) (spelled_first n u b bs h)
    ∙ ap (λ m. with_length m (number_of (take m t))) size
    ∙ ap (λ r. with_length (length s) (number_of r)) (take_at s rest (length s) refl)
    ∙ ap (with_length (length s)) (number_again n u s h)
