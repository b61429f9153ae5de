-- View of code: readers: what is read from the front of tokens, from left to right and by the next token alone. A reader answers its tree and the tokens that
-- are left, or the fault. The private functions of the crate compute what the readers of Read*.antt do; that those read just what the grammar says is proved in
-- proofs/.
use Rattle.std.specs.Prelude.{◌≡◌, ℕ, zero, suc, List, [], ◌∷◌, length, Bool, false, nat_le, if◌then◌else◌, Option, Some, None, Result, Ok, Err}
use Rattle.cyc_lexer.specs.Lexing.{Token}
use Rattle.cyc_lexer.specs.declared.token.Sign.{Sign}
use Rattle.cyc_lexer.specs.declared.token.Sign.TheVariants as sign_of
use Rattle.cyc_lexer.specs.declared.token.Keyword.{Keyword}
use Rattle.cyc_lexer.specs.declared.token.TokenKind.{TokenKind}
use Rattle.cyc_parser.specs.declared.fault.ParseFault.{ParseFault}
use Rattle.cyc_parser.specs.declared.fault.ParseFault.TheVariants.{Parse, TooDeep, Memory}
use Rattle.source_grammar.specs.Phrases.{Tokens}
use Rattle.cyc_parser.specs.Reading.{next_kind, next_place}
use Rattle.cyc_parser.specs.Tests.{is_sign, is_keyword}

-- a tree and the tokens behind it, or the fault
abbrev pub Outcome : Type 0 → Type 0
Outcome A = Result (A × Tokens) ParseFault

infixl 10 ◌>>=◌
abbrev pub ◌>>=◌ : {A B : Type 0} → Outcome A → (A × Tokens → Outcome B) → Outcome B
(Ok x) >>= f = f x
(Err e) >>= f = Err e

-- ---- steps

-- nothing more
abbrev pub done : {A : Type 0} → A → Tokens → Outcome A
done x ts = Ok (x, ts)

-- one phrase and then another one
abbrev pub read : {A B : Type 0} → (Tokens → Outcome A) → (A → Tokens → Outcome B) → Tokens → Outcome B
read p q ts = p ts >>= λ x. q x.0 x.1

-- whether a token's kind, if there is one, passes
abbrev pub passes : (TokenKind → Bool) → Option TokenKind → Bool
passes test None = false
passes test (Some k) = test k

-- whether the next token passes
abbrev pub next_is : (TokenKind → Bool) → Tokens → Bool
next_is test ts = passes test (next_kind ts)

-- a token that passes
abbrev pub token : (TokenKind → Bool) → Tokens → Outcome Token
token test [] = Err (Parse (next_place []))
token test (t ∷ ts) = if test t.kind then Ok (t, ts) else Err (Parse t.at)

-- the one or the other, by the next token
abbrev pub choose : {A : Type 0} → (TokenKind → Bool) → (Tokens → Outcome A) → (Tokens → Outcome A) → Tokens → Outcome A
choose test p q ts = if next_is test ts then p ts else q ts

-- the fault where a phrase would nest too deep: that it does, where one begins
abbrev pub too_deep : (TokenKind → Bool) → Tokens → ParseFault
too_deep begins ts = if next_is begins ts then TooDeep (next_place ts) else Parse (next_place ts)

abbrev pub refuse : {A : Type 0} → (TokenKind → Bool) → Tokens → Outcome A
refuse begins ts = Err (too_deep begins ts)

-- a phrase, and the place where it begins
abbrev pub placed : {A : Type 0} → (Tokens → Outcome A) → Tokens → Outcome (ℕ × A)
placed p ts = p ts >>= λ x. Ok ((next_place ts, x.0), x.1)

-- ---- lists

-- what a step of a list has read, where it took a token, and what the others read
abbrev pub one_more : {A : Type 0} → Tokens → A × Tokens → Outcome (List A) → Outcome (List A)
one_more ts x others = if nat_le (suc (length x.1)) (length ts) then (others >>= λ y. Ok (x.0 ∷ y.0, y.1)) else Err Memory

-- phrases as long as the next token passes, in at most n turns
abbrev pub many_in : {A : Type 0} → ℕ → (TokenKind → Bool) → (Tokens → Outcome A) → Tokens → Outcome (List A)
many_in zero test p ts = Ok ([], ts)
many_in (suc n) test p ts = if next_is test ts then (p ts >>= λ x. one_more ts x (many_in n test p x.1)) else Ok ([], ts)

-- each turn takes a token, so that there are no more turns than tokens
unfoldable pub many : {A : Type 0} → (TokenKind → Bool) → (Tokens → Outcome A) → Tokens → Outcome (List A)
many test p ts = many_in (length ts) test p ts

-- ---- single tokens

abbrev pub sign : Sign → Tokens → Outcome ℕ
sign s = read (token (is_sign s)) (λ t. done t.at)

abbrev pub keyword : Keyword → Tokens → Outcome ℕ
keyword w = read (token (is_keyword w)) (λ t. done t.at)

-- a phrase behind a sign
abbrev pub behind : {A : Type 0} → Sign → (Tokens → Outcome A) → Tokens → Outcome A
behind s p = read (sign s) (λ at. p)

-- one phrase or more, with commas between them
abbrev pub listed : {A : Type 0} → (Tokens → Outcome A) → Tokens → Outcome (List A)
listed p = read p (λ x. read (many (is_sign sign_of.Comma) (behind sign_of.Comma p)) (λ xs. done (x ∷ xs)))

-- one phrase, and more as long as the next token passes
abbrev pub some : {A : Type 0} → (TokenKind → Bool) → (Tokens → Outcome A) → Tokens → Outcome (List A)
some test p = read p (λ x. read (many test p) (λ xs. done (x ∷ xs)))

-- ---- what a function answers

-- the fault that a function answers is the reader's, unless memory ran out
abbrev pub Fails : {A : Type 0} → ParseFault → Outcome A → Type 0
Fails Memory outcome = Unit {0}
Fails (Parse at) outcome = outcome ≡ Err (Parse at)
Fails (TooDeep at) outcome = outcome ≡ Err (TooDeep at)

-- what a function answers, seen by this view, and the tokens that it leaves are the reader's, unless memory ran out
abbrev pub Gives : {X A : Type 0} → (X → A) → Result X ParseFault → Tokens → Outcome A → Type 0
Gives view (Ok x) left outcome = outcome ≡ Ok (view x, left)
Gives view (Err fault) left outcome = Fails fault outcome
