-- What a token may be, by its first byte.
use Rattle.std.proofs.Common.{◌≡◌, ℕ, ◌<◌, ◌≤◌, true, cond, eqb, List, [], ◌∷◌, ◌++◌, length, get_or, ap, sym, ◌∙◌, subst, arith, inl, inr}
use Rattle.std.proofs.lemmas.Bool.{cond-true, cond-false}
use Rattle.cyc_lexer.specs.Bytes.{is_space, is_letter, is_digit}
use Rattle.cyc_lexer.specs.Spelling.{IsWord, Spells}
use Rattle.cyc_lexer.specs.Lexing.{BeginsComment, MayFollow, IsToken}
use Rattle.cyc_lexer.specs.declared.token.TokenKind.{TokenKind}
use Rattle.cyc_lexer.specs.declared.token.TokenKind.TheVariants as kind
use Rattle.cyc_lexer.proofs.ByteTests.{digit_no_letter}
use Rattle.cyc_lexer.proofs.ReadSuffixes.{spelled_first, spelled_some}
use Rattle.cyc_lexer.proofs.ReadWords.{keyword_is_word}
use Rattle.cyc_lexer.proofs.Tables.{class, sign_class}

-- ---- the first byte

abbrev pub kind_class : TokenKind → ℕ
kind_class (kind.Keyword k) = 0
kind_class kind.Identifier = 0
kind_class (kind.Number n u) = 1
kind_class kind.Region = 2
kind_class (kind.Character byte) = 3
kind_class kind.Text = 4
kind_class (kind.Sign k) = 5

pub class_letter : (b : ℕ) → is_letter b ≡ true → class b ≡ 0
class_letter b h = cond-true (is_letter b) 0 (cond (is_digit b) 1 (cond (eqb b 96) 2 (cond (eqb b 39) 3 (cond (eqb b 34) 4 (cond (is_space b) 6 5))))) h

pub class_digit : (b : ℕ) → is_digit b ≡ true → class b ≡ 1
class_digit b h =
    cond-false (is_letter b) 0 (cond (is_digit b) 1 (cond (eqb b 96) 2 (cond (eqb b 39) 3 (cond (eqb b 34) 4 (cond (is_space b) 6 5))))) (digit_no_letter b h)
    ∙ cond-true (is_digit b) 1 (cond (eqb b 96) 2 (cond (eqb b 39) 3 (cond (eqb b 34) 4 (cond (is_space b) 6 5)))) h

word_class : (b : ℕ) (bs : List ℕ) → IsWord (b ∷ bs) → class b ≡ 0
word_class b bs h = class_letter b h.0

pub spells_class : (k : TokenKind) (b : ℕ) (bs : List ℕ) → Spells k (b ∷ bs) → class b ≡ kind_class k
spells_class (kind.Keyword k) b bs h = word_class b bs (keyword_is_word (b ∷ bs) k h)
spells_class kind.Identifier b bs h = word_class b bs h.0
spells_class (kind.Number n u) b bs h = class_digit b (spelled_first n u b bs h)
spells_class kind.Region b bs h = ap class h.0
spells_class (kind.Character byte) b bs h = ap (λ s. class (get_or s 0 0)) h.1
spells_class kind.Text b bs h = ap (λ s. class (get_or s 0 0)) h.1.1
spells_class (kind.Sign k) b bs h = ap (λ s. class (get_or s 0 0)) h ∙ (sign_class k).0

pub spells_some : (k : TokenKind) → Spells k [] → ⊥
spells_some (kind.Keyword k) h = keyword_is_word [] k h
spells_some kind.Identifier h = h.0
spells_some (kind.Number n u) h = spelled_some n u h
spells_some kind.Region h = h
spells_some (kind.Character byte) h = let e = h.1 in cc
spells_some kind.Text h = let e = h.1.1 in cc
spells_some (kind.Sign k) h = absurd (omega (arith, (sign_class k).1, ap length h))

-- what is spelled at a place is of the class of the byte there
pub class_here : (k : TokenKind) (b : ℕ) (bs other more : List ℕ) → b ∷ bs ≡ other ++ more → Spells k other → class b ≡ kind_class k
class_here k b bs [] more e h = absurd (spells_some k h)
class_here k b bs (o ∷ os) more e h = ap (λ s. class (get_or s 0 0)) e ∙ spells_class k o os h

-- nothing longer than n begins here
abbrev pub IsBounded : ℕ → List ℕ → Type 0
IsBounded n t = (k : TokenKind) (other more : List ℕ) → t ≡ other ++ more → Spells k other → length other ≤ n

pub no_comment_at : (b : ℕ) (bs : List ℕ) → (b ≡ 47 → ⊥) → BeginsComment (b ∷ bs) → ⊥
no_comment_at b bs h (back, inl e) = h (ap (λ s. get_or s 0 0) e)
no_comment_at b bs h (back, inr e) = h (ap (λ s. get_or s 0 0) e)

pub token_from : (k : TokenKind) (t s rest : List ℕ) → t ≡ s ++ rest → Spells k s → IsBounded (length s) t → (BeginsComment t → ⊥) → MayFollow k rest
    → IsToken k s rest
token_from k t s rest is spelled bounded none apart = record {
  spelled = spelled;
  longest = λ l other more e h. bounded l other more (is ∙ e) h;
  no_comment = subst (λ (u : List ℕ). BeginsComment u → ⊥) is none;
  apart = apart;
}

pub class_not_slash : (b n : ℕ) → class b ≡ n → n < 5 → b ≡ 47 → ⊥
class_not_slash b n h lt e = absurd (omega (arith, sym h ∙ ap class e))
