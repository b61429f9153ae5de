-- Readers that are made of exact ones, where no guard is needed.
use Rattle.std.proofs.Common.{◌≡◌, Bool, true, false, refl}
use Rattle.cyc_lexer.specs.declared.token.Keyword.{Keyword}
use Rattle.cyc_lexer.specs.declared.token.Sign.{Sign}
use Rattle.cyc_lexer.specs.declared.token.TokenKind.{TokenKind}
use Rattle.source_grammar.specs.Phrases.{Tokens, IsSign, IsKeyword, SignAt, KeywordAt}
use Rattle.cyc_parser.specs.Reader.{Outcome, done, read, choose, next_is, sign, keyword}
use Rattle.cyc_parser.specs.Exact.{Exact, Stops, Anything, ends, Whole, Then, Either}
use Rattle.cyc_parser.proofs.Exact.{made_exact, exact_as}
pub use Rattle.cyc_parser.proofs.exactness.Composed.{stops_never, begins_within, Made}
use Rattle.cyc_parser.proofs.exactness.Composed.{meets_exact, either_exact}
use Rattle.cyc_parser.proofs.exactness.Types.{sign_exact, keyword_exact}

-- ---- one phrase and then another one

pub read_on : {A B : Type 0} {First : Bool → A → Tokens → Tokens → Type 0} {goes_on : A → TokenKind → Bool} {p : Tokens → Outcome A}
    {Second : A → Bool → B → Tokens → Tokens → Type 0} {then_on : B → TokenKind → Bool} {q : A → Tokens → Outcome B}
    → Exact Anything First goes_on p → ((a : A) → Exact Anything (Second a) then_on (q a))
    → ((b : Bool) (a : A) (c : B) (mid to : Tokens) → Second a b c mid to → Stops (then_on c) to → Stops (goes_on a) mid)
    → Exact Anything (Then First Second) then_on (read p q)
read_on {First} {goes_on} {p} {Second} {then_on} {q} first second meets =
    meets_exact First goes_on p first Second then_on q second meets

-- the first phrase goes on with nothing
pub read_closed : {A B : Type 0} {First : Bool → A → Tokens → Tokens → Type 0} {p : Tokens → Outcome A}
    {Second : A → Bool → B → Tokens → Tokens → Type 0} {then_on : B → TokenKind → Bool} {q : A → Tokens → Outcome B}
    → Exact Anything First ends p → ((a : A) → Exact Anything (Second a) then_on (q a))
    → Exact Anything (Then First Second) then_on (read p q)
read_closed first second = read_on first second (λ b a c mid to w h. stops_never mid)

-- ---- signs and keywords, whose place doesn't matter

abbrev pub BehindSign : {B : Type 0} → Sign → (Bool → B → Tokens → Tokens → Type 0) → Bool → B → Tokens → Tokens → Type 0
BehindSign s Second b c from to = (mid : Tokens) × IsSign s from mid × Second b c mid to

abbrev pub BehindKeyword : {B : Type 0} → Keyword → (Bool → B → Tokens → Tokens → Type 0) → Bool → B → Tokens → Tokens → Type 0
BehindKeyword word Second b c from to = (mid : Tokens) × IsKeyword word from mid × Second b c mid to

pub sign_then : {B : Type 0} {Second : Bool → B → Tokens → Tokens → Type 0} {then_on : B → TokenKind → Bool} {q : Tokens → Outcome B}
    (s : Sign) → Exact Anything Second then_on q → Exact Anything (BehindSign s Second) then_on (read (sign s) (λ _. q))
sign_then {Second} {then_on} {q} s second =
    exact_as Anything (Then (Whole (SignAt s)) (λ _. Second)) then_on (read (sign s) (λ _. q)) (read_closed (sign_exact s) (λ _. second))
    (BehindSign s Second) (λ b c from to w. (w.1, (w.0, w.2), w.3)) (λ b c from to w. (w.1.0, w.0, w.1.1, w.2))

pub keyword_then : {B : Type 0} {Second : Bool → B → Tokens → Tokens → Type 0} {then_on : B → TokenKind → Bool} {q : Tokens → Outcome B}
    (word : Keyword) → Exact Anything Second then_on q → Exact Anything (BehindKeyword word Second) then_on (read (keyword word) (λ _. q))
keyword_then {Second} {then_on} {q} word second =
    exact_as Anything (Then (Whole (KeywordAt word)) (λ _. Second)) then_on (read (keyword word) (λ _. q))
    (read_closed (keyword_exact word) (λ _. second))
    (BehindKeyword word Second) (λ b c from to w. (w.1, (w.0, w.2), w.3)) (λ b c from to w. (w.1.0, w.0, w.1.1, w.2))

-- ---- one phrase or the other

pub choose_on : {A : Type 0} {goes_on : A → TokenKind → Bool} {First : Bool → A → Tokens → Tokens → Type 0} {p : Tokens → Outcome A}
    {Second : Bool → A → Tokens → Tokens → Type 0} {q : Tokens → Outcome A} (test : TokenKind → Bool)
    → Exact Anything First goes_on p → Exact Anything Second goes_on q
    → ((b : Bool) (a : A) (from to : Tokens) → First b a from to → next_is test from ≡ true)
    → ((b : Bool) (a : A) (from to : Tokens) → Second b a from to → Stops (goes_on a) to → next_is test from ≡ false)
    → Exact Anything (Either First Second) goes_on (choose test p q)
choose_on {goes_on} {First} {p} {Second} {q} test first second begins apart =
    either_exact test goes_on First p first Second q second begins apart

-- ---- a value made from a phrase

pub make_on : {A B : Type 0} {Is : Bool → A → Tokens → Tokens → Type 0} {goes_on : A → TokenKind → Bool} {p : Tokens → Outcome A}
    (f : A → B) (then_on : B → TokenKind → Bool) → Exact Anything Is goes_on p
    → ((a : A) (k : TokenKind) → goes_on a k ≡ true → then_on (f a) k ≡ true)
    → Exact Anything (Made f Is) then_on (read p (λ a. done (f a)))
make_on {Is} {goes_on} {p} f then_on each within =
    made_exact Anything Is goes_on p each f then_on within (Made f Is) (λ b a from to w. (a, refl, w)) (λ b c from to w. w)

pub make_closed : {A B : Type 0} {Is : Bool → A → Tokens → Tokens → Type 0} {p : Tokens → Outcome A} (f : A → B) (then_on : B → TokenKind → Bool)
    → Exact Anything Is ends p → Exact Anything (Made f Is) then_on (read p (λ a. done (f a)))
make_closed f then_on each = make_on f then_on each (λ a k h. absurd cc)

-- ---- a sign at the end

abbrev pub EndsWith : {B : Type 0} → Sign → B → Bool → B → Tokens → Tokens → Type 0
EndsWith s x b y from to = (y ≡ x) × IsSign s from to

pub end_with : {B : Type 0} (s : Sign) (x : B) (then_on : B → TokenKind → Bool) → Exact Anything (EndsWith s x) then_on (read (sign s) (λ _. done x))
end_with s x then_on = made_exact Anything (Whole (SignAt s)) ends (sign s) (sign_exact s) (λ _. x) then_on (λ a k h. absurd cc)
    (EndsWith s x) (λ b a from to w. (refl, (a, w))) (λ b c from to w. (w.1.0, w.0, w.1.1))
