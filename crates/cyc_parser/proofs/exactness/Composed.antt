-- Steps of the proofs that readers are exact.
use Rattle.std.proofs.Common.{◌≡◌, Bool, true, false, [], ◌∷◌, refl, sym, ap, subst, ◌∙◌, true≢false}
use Rattle.cyc_lexer.specs.Lexing.{Token}
use Rattle.cyc_lexer.specs.declared.token.TokenKind.{TokenKind}
use Rattle.source_grammar.specs.Phrases.{Tokens}
use Rattle.cyc_parser.specs.Reader.{Outcome, done, read, choose, next_is}
use Rattle.cyc_parser.specs.Exact.{Stops, Exact, Anything, ends, always, IsDone, Then, Either}
pub use Rattle.cyc_parser.proofs.exactness.Parts.{stops_never, stops_wider, begins_stops}
use Rattle.cyc_parser.proofs.Exact.{read_exact, choose_exact, done_exact, made_exact, exact_on, exact_wider}

-- ---- next tokens

pub stops_ends : {A : Type 0} (a : A) (ts : Tokens) → Stops (ends a) ts
stops_ends a ts = stops_never ts

pub begins_with : (test : TokenKind → Bool) (from : Tokens) (t : Token) (rest : Tokens) → from ≡ t ∷ rest → test t.kind ≡ true
    → next_is test from ≡ true
begins_with test from t rest e h = ap (next_is test) e ∙ h

pub begins_within : (f g : TokenKind → Bool) → ((k : TokenKind) → f k ≡ true → g k ≡ true) → (ts : Tokens) → next_is f ts ≡ true → next_is g ts ≡ true
begins_within f g within [] h = h
begins_within f g within (t ∷ ts) h = within t.kind h

pub stops_at : (test : TokenKind → Bool) (from : Tokens) (t : Token) (rest : Tokens) → from ≡ t ∷ rest → test t.kind ≡ false → Stops test from
stops_at test from t rest e h = ap (next_is test) e ∙ h

-- behind nothing
pub stops_behind : (f g : TokenKind → Bool) → ((k : TokenKind) → f k ≡ true → g k ≡ true) → {from to : Tokens} → from ≡ to → Stops g to → Stops f from
stops_behind f g within {from} {to} e h = stops_wider f g within from (subst (Stops g) (sym e) h)

-- ---- one phrase and then another one, where nothing goes on with the first

pub then_exact : {A B : Type 0} (First : Bool → A → Tokens → Tokens → Type 0) (p : Tokens → Outcome A) → Exact Anything First ends p
    → (Second : A → Bool → B → Tokens → Tokens → Type 0) (then_on : B → TokenKind → Bool) (q : A → Tokens → Outcome B)
    → ((a : A) → Exact Anything (Second a) then_on (q a)) → Exact Anything (Then First Second) then_on (read p q)
then_exact First p first Second then_on q second =
    read_exact Anything First ends p first (λ a ts. Unit {0}) Second then_on q second (λ ts a mid g h. tt) (λ b a c mid to w s. stops_ends a mid)

-- what stands behind the first phrase is none of what it would go on with
pub meets_exact : {A B : Type 0} (First : Bool → A → Tokens → Tokens → Type 0) (goes_on : A → TokenKind → Bool) (p : Tokens → Outcome A)
    → Exact Anything First goes_on p
    → (Second : A → Bool → B → Tokens → Tokens → Type 0) (then_on : B → TokenKind → Bool) (q : A → Tokens → Outcome B)
    → ((a : A) → Exact Anything (Second a) then_on (q a))
    → ((b : Bool) (a : A) (c : B) (mid to : Tokens) → Second a b c mid to → Stops (then_on c) to → Stops (goes_on a) mid)
    → Exact Anything (Then First Second) then_on (read p q)
meets_exact First goes_on p first Second then_on q second meets =
    read_exact Anything First goes_on p first (λ a ts. Unit {0}) Second then_on q second (λ ts a mid g h. tt) meets

-- ---- one phrase or the other

pub either_exact : {A : Type 0} (test : TokenKind → Bool) (goes_on : A → TokenKind → Bool)
    (First : Bool → A → Tokens → Tokens → Type 0) (p : Tokens → Outcome A) → Exact Anything First goes_on p
    → (Second : Bool → A → Tokens → Tokens → Type 0) (q : Tokens → Outcome A) → Exact Anything Second goes_on q
    → ((b : Bool) (a : A) (from to : Tokens) → First b a from to → next_is test from ≡ true)
    → ((b : Bool) (a : A) (from to : Tokens) → Second b a from to → Stops (goes_on a) to → next_is test from ≡ false)
    → Exact Anything (Either First Second) goes_on (choose test p q)
either_exact test goes_on First p first Second q second begins apart =
    choose_exact Anything test goes_on
    First p (exact_on Anything (λ ts. Anything ts × (next_is test ts ≡ true)) First goes_on p first (λ ts g. tt))
    Second q (exact_on Anything (λ ts. Anything ts × (next_is test ts ≡ false)) Second goes_on q second (λ ts g. tt)) begins apart

-- a phrase, or nothing
pub option_exact : {A : Type 0} (test : TokenKind → Bool) (goes_on : A → TokenKind → Bool)
    (Is : Bool → A → Tokens → Tokens → Type 0) (p : Tokens → Outcome A)
    → Exact Anything Is goes_on p → (x : A)
    → ((b : Bool) (a : A) (from to : Tokens) → Is b a from to → next_is test from ≡ true)
    → ((k : TokenKind) → test k ≡ true → goes_on x k ≡ true)
    → Exact Anything (Either Is (IsDone x)) goes_on (choose test p (done x))
option_exact test goes_on Is p each x begins within =
    either_exact test goes_on Is p each (IsDone x) (done x)
    (exact_wider Anything (IsDone x) ends goes_on (done x) (done_exact x) (λ a k h. absurd (true≢false (sym h))))
    begins (λ b a from to w s.
    stops_wider test (goes_on x) within from (subst (Stops (goes_on x)) (sym w.1) (subst (λ y. Stops (goes_on y) to) w.0 s)))

-- ---- a value made from a phrase

abbrev pub Made : {A B : Type 0} → (A → B) → (Bool → A → Tokens → Tokens → Type 0) → Bool → B → Tokens → Tokens → Type 0
Made f Is b c from to = (a : _) × (c ≡ f a) × Is b a from to

pub image_exact : {A B : Type 0} (Is : Bool → A → Tokens → Tokens → Type 0) (goes_on : TokenKind → Bool) (p : Tokens → Outcome A)
    → Exact Anything Is (always goes_on) p → (f : A → B) → Exact Anything (Made f Is) (always goes_on) (read p (λ a. done (f a)))
image_exact Is goes_on p each f =
    made_exact Anything Is (always goes_on) p each f (always goes_on) (λ a k h. h) (Made f Is) (λ b a from to w. (a, refl, w)) (λ b c from to w. w)

-- where the tree and the tokens behind it are these
pub finish : {A : Type 0} (As : A → Tokens → Type 0) {x c : A} {mid to : Tokens} → (c ≡ x) × (mid ≡ to) → As x mid → As c to
finish As {x} {c} {mid} {to} d w = subst (λ y. As y to) (sym d.0) (subst (λ ts. As x ts) d.1 w)

-- where nothing goes on, as where these tokens do
pub ends_wider : {A : Type 0} (Is : Bool → A → Tokens → Tokens → Type 0) (p : Tokens → Outcome A) → Exact Anything Is ends p
    → (goes_on : A → TokenKind → Bool)
    → Exact Anything Is goes_on p
ends_wider Is p each goes_on = exact_wider Anything Is ends goes_on p each (λ a k h. absurd (true≢false (sym h)))
