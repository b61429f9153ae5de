-- Readers of lists are exact.
use Rattle.std.proofs.Common.{◌≡◌, Bool, true, false, ◌||◌, List, [], ◌∷◌, refl, sym, subst}
use Rattle.cyc_lexer.specs.declared.token.Sign.{Sign}
use Rattle.cyc_lexer.specs.declared.token.Sign.TheVariants as sign_of
use Rattle.cyc_lexer.specs.declared.token.TokenKind.{TokenKind}
use Rattle.source_grammar.specs.Phrases.{Tokens, SignAt, IsSign, Each, Behind, Listed}
use Rattle.cyc_parser.specs.Tests.{is_sign}
use Rattle.cyc_parser.specs.Reader.{Outcome, many, sign, behind, listed, next_is}
use Rattle.cyc_parser.specs.Exact.{Exact, Anything, ends, always, Then, Rows, Whole}
use Rattle.cyc_parser.proofs.Exact.{many_exact, exact_as, exact_wider}
use Rattle.cyc_parser.proofs.exactness.Composed.{begins_with, then_exact, Made, image_exact}
use Rattle.cyc_parser.proofs.exactness.Kinds.{sign_passes}
use Rattle.cyc_parser.proofs.exactness.Tokens.{sign_exact}

pub rows_each : {A : Type 0} (Is : A → Tokens → Tokens → Type 0) (b : Bool) (xs : List A) (from to : Tokens) → Rows (Whole Is) b xs from to
    → Each Is xs from to
rows_each Is b [] from to w = w
rows_each Is b (x ∷ xs) from to w = (w.0, w.1, rows_each Is b xs w.0 to w.2)

pub each_rows : {A : Type 0} (Is : A → Tokens → Tokens → Type 0) (b : Bool) (xs : List A) (from to : Tokens) → Each Is xs from to
    → Rows (Whole Is) b xs from to
each_rows Is b [] from to w = w
each_rows Is b (x ∷ xs) from to w = (w.0, w.1, each_rows Is b xs w.0 to w.2)

-- phrases that don't nest, as long as the next token passes
pub each_exact : {A : Type 0} (test : TokenKind → Bool) (Is : A → Tokens → Tokens → Type 0) (any : TokenKind → Bool) (p : Tokens → Outcome A)
    → Exact Anything (Whole Is) (always any) p → ((a : A) (from to : Tokens) → Is a from to → next_is test from ≡ true)
    → ((k : TokenKind) → test k ≡ true → any k ≡ false)
    → Exact Anything (Whole (Each Is)) (always (λ k. test k || any k)) (many test p)
each_exact test Is any p each begins apart =
    exact_as Anything (Rows (Whole Is)) (always (λ k. test k || any k)) (many test p)
    (many_exact test (Whole Is) (always any) p each (λ b. begins) (λ a. apart) any (λ a k h. h))
    (Whole (Each Is)) (rows_each Is) (each_rows Is)

-- ---- phrases with commas between them

pub sign_begins : (s : Sign) (from to : Tokens) → IsSign s from to → next_is (is_sign s) from ≡ true
sign_begins s from to w = begins_with (is_sign s) from _ _ w.1.1 (sign_passes s)

pub behind_exact : {A : Type 0} (s : Sign) (Is : A → Tokens → Tokens → Type 0) (goes_on : A → TokenKind → Bool) (p : Tokens → Outcome A)
    → Exact Anything (Whole Is) goes_on p → Exact Anything (Whole (Behind s Is)) goes_on (behind s p)
behind_exact s Is goes_on p each =
    exact_as Anything (Then (Whole (SignAt s)) (λ at. Whole Is)) goes_on (behind s p)
    (then_exact (Whole (SignAt s)) (sign s) (sign_exact s) (λ at. Whole Is) goes_on (λ at. p) (λ at. each))
    (Whole (Behind s Is)) (λ b x from to w. (w.1, (w.0, w.2), w.3)) (λ b x from to w. (w.1.0, w.0, w.1.1, w.2))

or_never : (a : Bool) → (a || false) ≡ true → a ≡ true
or_never true h = refl
or_never false h = h

pub commas_exact : {A : Type 0} (Is : A → Tokens → Tokens → Type 0) (p : Tokens → Outcome A) → Exact Anything (Whole Is) ends p
    → Exact Anything (Whole (Each (Behind sign_of.Comma Is))) (always (is_sign sign_of.Comma)) (many (is_sign sign_of.Comma) (behind sign_of.Comma p))
commas_exact Is p each =
    exact_wider Anything (Whole (Each (Behind sign_of.Comma Is))) (always (λ k. is_sign sign_of.Comma k || false)) (always (is_sign sign_of.Comma))
    (many (is_sign sign_of.Comma) (behind sign_of.Comma p))
    (each_exact (is_sign sign_of.Comma) (Behind sign_of.Comma Is) (λ k. false) (behind sign_of.Comma p) (behind_exact sign_of.Comma Is ends p each)
    (λ x from to w. sign_begins sign_of.Comma from w.0 w.1) (λ k h. refl))
    (λ xs k h. or_never (is_sign sign_of.Comma k) h)

abbrev Tail : {A : Type 0} → (A → Tokens → Tokens → Type 0) → A → Bool → List A → Tokens → Tokens → Type 0
Tail Is x = Made (λ xs. x ∷ xs) (Whole (Each (Behind sign_of.Comma Is)))

listed_into : {A : Type 0} (Is : A → Tokens → Tokens → Type 0) (b : Bool) (xs : List A) (from to : Tokens)
    → Then (Whole Is) (Tail Is) b xs from to → Listed Is xs from to
listed_into Is b xs from to w = subst (λ (c : List _). Listed Is c from to) (sym w.3.1) (w.1, w.2, w.3.2)

listed_back : {A : Type 0} (Is : A → Tokens → Tokens → Type 0) (b : Bool) (xs : List A) (from to : Tokens) → Listed Is xs from to
    → Then (Whole Is) (Tail Is) b xs from to
listed_back Is b [] from to w = absurd w
listed_back Is b (x ∷ xs) from to w = (x, w.0, w.1, (xs, refl, w.2))

pub listed_exact : {A : Type 0} (Is : A → Tokens → Tokens → Type 0) (p : Tokens → Outcome A) → Exact Anything (Whole Is) ends p
    → Exact Anything (Whole (Listed Is)) (always (is_sign sign_of.Comma)) (listed p)
listed_exact Is p each =
    exact_as Anything (Then (Whole Is) (Tail Is)) (always (is_sign sign_of.Comma)) (listed p)
    (then_exact (Whole Is) p each (Tail Is) (always (is_sign sign_of.Comma)) _ (λ x.
    image_exact (Whole (Each (Behind sign_of.Comma Is))) (is_sign sign_of.Comma) _ (commas_exact Is p each) (λ xs. x ∷ xs)))
    (Whole (Listed Is)) (listed_into Is) (listed_back Is)

-- a list begins as its first phrase does
pub listed_begins : {A : Type 0} (test : TokenKind → Bool) (Is : A → Tokens → Tokens → Type 0)
    → ((x : A) (from to : Tokens) → Is x from to → next_is test from ≡ true)
    → (xs : List A) (from to : Tokens) → Listed Is xs from to → next_is test from ≡ true
listed_begins test Is begins [] from to w = absurd w
listed_begins test Is begins (x ∷ xs) from to w = begins x from w.0 w.1
