-- Phrases as long as the next token passes: the reader's two equations, whatever reads each phrase.
use Rattle.std.proofs.Common.{◌≡◌, ℕ, zero, suc, ◌<◌, ◌≤◌, Bool, true, false, cond, List, [], ◌∷◌, length, Ok, refl, ap, ◌∙◌, arith}
use Rattle.std.proofs.lemmas.Bool.{le-leb, leb-true}
use Rattle.std.specs.Prelude.{nat_le}
use Rattle.cyc_lexer.specs.declared.token.TokenKind.{TokenKind}
use Rattle.source_grammar.specs.Phrases.{Tokens}
use Rattle.cyc_parser.specs.Reader.{Outcome, ◌>>=◌, next_is, one_more, many_in, many}
use Rattle.cyc_parser.proofs.exactness.Parts.{bind_same}

-- what the others read counts only where a token was taken
one_more_at : {A : Type 0} (ts : Tokens) (x : A × Tokens) (r s : Outcome (List A)) (b : Bool) → nat_le (suc (length x.1)) (length ts) ≡ b
    → (length x.1 < length ts → r ≡ s) → one_more ts x r ≡ one_more ts x s
one_more_at ts x r s true e h = let le = leb-true (suc (length x.1)) (length ts) e in ap (one_more ts x) (h (omega (arith, le)))
one_more_at ts x r s false e h = rw e refl

one_more_same : {A : Type 0} (ts : Tokens) (x : A × Tokens) (r s : Outcome (List A)) → (length x.1 < length ts → r ≡ s)
    → one_more ts x r ≡ one_more ts x s
one_more_same ts x r s h = one_more_at ts x r s (nat_le (suc (length x.1)) (length ts)) refl h

pub one_more_is : {A : Type 0} (ts : Tokens) (x : A × Tokens) (r : Outcome (List A)) → length x.1 < length ts
    → one_more ts x r ≡ (r >>= λ y. Ok (x.0 ∷ y.0, y.1))
one_more_is ts x r h = let e : nat_le (suc (length x.1)) (length ts) ≡ true = le-leb (suc (length x.1)) (length ts) (omega arith) in rw e refl

module _ {A : Type 0} (test : TokenKind → Bool) (p : Tokens → Outcome A) where
  -- more turns change nothing
  same_turns : (n m : ℕ) (ts : Tokens) → length ts ≤ n → length ts ≤ m → many_in n test p ts ≡ many_in m test p ts
  same_turns zero zero ts h k = refl
  same_turns zero (suc m) [] h k = refl
  same_turns zero (suc m) (t ∷ ts) h k = absurd (omega arith)
  same_turns (suc n) zero [] h k = refl
  same_turns (suc n) zero (t ∷ ts) h k = absurd (omega arith)
  same_turns (suc n) (suc m) ts h k =
      ap (λ (r : Outcome (List A)). cond (next_is test ts) r (Ok ([], ts)))
      (bind_same (p ts) (λ x. one_more ts x (many_in n test p x.1)) (λ x. one_more ts x (many_in m test p x.1))
      (λ x. one_more_same ts x (many_in n test p x.1) (many_in m test p x.1) (λ lt. same_turns n m x.1 (omega arith) (omega arith))))

  -- where the next token passes, one phrase is read and then the others
  pub many_more : (ts : Tokens) → next_is test ts ≡ true → many test p ts ≡ (p ts >>= λ x. one_more ts x (many test p x.1))
  unfolding many
  many_more [] h = absurd cc
  many_more (t ∷ ts) h =
      rw h (bind_same (p (t ∷ ts)) (λ x. one_more (t ∷ ts) x (many_in (length ts) test p x.1)) (λ x. one_more (t ∷ ts) x (many test p x.1))
      (λ x. one_more_same (t ∷ ts) x (many_in (length ts) test p x.1) (many test p x.1)
      (λ lt. same_turns (length ts) (length x.1) x.1 (omega arith) (omega arith))))

  -- where it doesn't, nothing is read
  pub many_end : (ts : Tokens) → next_is test ts ≡ false → many test p ts ≡ Ok ([], ts)
  unfolding many
  many_end [] h = refl
  many_end (t ∷ ts) h = rw h refl

  -- where a token was taken, the phrase that was read stands before what the others read
  pub many_next : (ts : Tokens) (x : A) (mid : Tokens) → next_is test ts ≡ true → p ts ≡ Ok (x, mid) → length mid < length ts
      → many test p ts ≡ (many test p mid >>= λ y. Ok (x ∷ y.0, y.1))
  many_next ts x mid h g lt = many_more ts h ∙ rw g (one_more_is ts (x, mid) (many test p mid) lt)
