-- Loops over phrases of which there is one at least.
use Rattle.std.proofs.Common.{◌≡◌, ◌<◌, ◌≤◌, ℕ, Bool, true, false, List, [], ◌∷◌, ◌++◌, length, map, Ok, Err, refl, sym, ap, subst, ◌∙◌, arith}
use Rattle.std.proofs.lemmas.List.{map_push}
use Rattle.cyc_lexer.specs.declared.token.Sign.TheVariants as sign_of
use Rattle.cyc_lexer.specs.declared.token.TokenKind.{TokenKind}
use Rattle.cyc_parser.specs.declared.fault.ParseFault.{ParseFault}
use Rattle.source_grammar.specs.Phrases.{Tokens}
use Rattle.cyc_parser.specs.Tests.{is_sign}
use Rattle.cyc_parser.specs.Reader.{◌>>=◌, Outcome, Fails, done, read, many, next_is, sign, behind}
use Rattle.cyc_parser.proofs.ReadLoops.{with_front, goes_on, fails_so, is_done}
use Rattle.cyc_parser.proofs.ReadSteps.{first_fails}

-- a phrase, and then others as long as the next token passes
abbrev pub led : {A : Type 0} → (Tokens → Outcome A) → (TokenKind → Bool) → (Tokens → Outcome A) → Tokens → Outcome (List A)
led p test q = read p (λ x. read (many test q) (λ xs. done (x ∷ xs)))

-- what a loop has read before it reads a phrase: nothing, or some phrases, and what shows that another one follows
pub data Before {A : Type 0} (p : Tokens → Outcome A) (test : TokenKind → Bool) (q : Tokens → Outcome A) (from : Tokens) (xs : List A)
    (now : Tokens) : Type 0 where
  First : xs ≡ [] → now ≡ from → Before p test q from xs now
  Later : (stood : Tokens) → next_is test stood ≡ true → q stood ≡ p now → length now ≤ length stood
      → with_front xs (many test q stood) ≡ led p test q from → Before p test q from xs now

fresh : {A : Type 0} (x : A) (r : Outcome (List A)) → with_front (x ∷ []) r ≡ (r >>= λ z. Ok (x ∷ z.0, z.1))
fresh x (Ok y) = refl
fresh x (Err fault) = refl

one_more : {A : Type 0} (p : Tokens → Outcome A) (test : TokenKind → Bool) (q : Tokens → Outcome A) (from : Tokens) (xs : List A) (now : Tokens) (x : A)
    (mid : Tokens)
    → Before p test q from xs now → p now ≡ Ok (x, mid) → length mid < length now → with_front (xs ++ x ∷ []) (many test q mid) ≡ led p test q from
one_more p test q from xs now x mid (First none same) one shorter =
    ap (λ ys. with_front (ys ++ x ∷ []) (many test q mid)) none ∙ fresh x (many test q mid)
    ∙ sym (ap (λ o. o >>= λ y. many test q y.1 >>= λ z. Ok (y.0 ∷ z.0, z.1)) (ap p (sym same) ∙ one))
one_more p test q from xs now x mid (Later stood next same longer before) one shorter =
    goes_on test q xs stood x mid (led p test q from) next (same ∙ one) (omega (arith, shorter, longer)) before

-- the phrase is refused
pub refused : {A : Type 0} (p : Tokens → Outcome A) (test : TokenKind → Bool) (q : Tokens → Outcome A) (from : Tokens) (xs : List A) (now : Tokens)
    (fault : ParseFault)
    → Before p test q from xs now → Fails fault (p now) → Fails fault (led p test q from)
refused p test q from xs now fault (First none same) fails =
    first_fails fault (p from) (λ y. many test q y.1 >>= λ z. Ok (y.0 ∷ z.0, z.1)) (subst (λ ts. Fails fault (p ts)) same fails)
refused p test q from xs now fault (Later stood next same longer before) fails =
    fails_so test q xs stood fault (led p test q from) next (subst (Fails fault) (sym same) fails) before

-- the phrase is read, and stands at the end of a vector
pub one_pushed : {X A : Type 0} (view : X → A) (p : Tokens → Outcome A) (test : TokenKind → Bool) (q : Tokens → Outcome A) (from : Tokens) (xs all : List X)
    (x : X) (now mid : Tokens)
    → Before p test q from (map view xs) now → all ≡ xs ++ x ∷ [] → p now ≡ Ok (view x, mid) → length mid < length now
    → with_front (map view all) (many test q mid) ≡ led p test q from
one_pushed view p test q from xs all x now mid before push one shorter =
    subst (λ ys. with_front ys (many test q mid) ≡ led p test q from) (sym (ap (map view) push ∙ map_push view xs x))
    (one_more p test q from (map view xs) now (view x) mid before one shorter)

-- it is the last one
pub last_pushed : {X A : Type 0} (view : X → A) (p : Tokens → Outcome A) (test : TokenKind → Bool) (q : Tokens → Outcome A) (from : Tokens) (xs all : List X)
    (x : X) (now mid : Tokens)
    → Before p test q from (map view xs) now → all ≡ xs ++ x ∷ [] → p now ≡ Ok (view x, mid) → length mid < length now
    → next_is test mid ≡ false → led p test q from ≡ Ok (map view all, mid)
last_pushed view p test q from xs all x now mid before push one shorter next =
    is_done test q (map view all) mid (led p test q from) next (one_pushed view p test q from xs all x now mid before push one shorter)

-- another one follows it
pub goes_further : {X A : Type 0} (view : X → A) (p : Tokens → Outcome A) (test : TokenKind → Bool) (from : Tokens) (xs all : List X) (x : X) (now mid : Tokens)
    → Before p test p from (map view xs) now → all ≡ xs ++ x ∷ [] → p now ≡ Ok (view x, mid) → length mid < length now
    → next_is test mid ≡ true → Before p test p from (map view all) mid
goes_further view p test from xs all x now mid before push one shorter next =
    Later mid next refl (omega arith) (one_pushed view p test p from xs all x now mid before push one shorter)

-- the same behind a comma
pub goes_behind : {X A : Type 0} (view : X → A) (p : Tokens → Outcome A) (from : Tokens) (xs all : List X) (x : X) (now mid after : Tokens) (at : ℕ)
    → Before p (is_sign sign_of.Comma) (behind sign_of.Comma p) from (map view xs) now → all ≡ xs ++ x ∷ [] → p now ≡ Ok (view x, mid) → length mid < length now
    → next_is (is_sign sign_of.Comma) mid ≡ true → sign sign_of.Comma mid ≡ Ok (at, after) → length after < length mid
    → Before p (is_sign sign_of.Comma) (behind sign_of.Comma p) from (map view all) after
goes_behind view p from xs all x now mid after at before push one shorter next comma less =
    Later mid next (ap (λ o. o >>= λ y. p y.1) comma) (omega (arith, less))
    (one_pushed view p (is_sign sign_of.Comma) (behind sign_of.Comma p) from xs all x now mid before push one shorter)
