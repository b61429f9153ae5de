-- What a reader of several steps gives, from what its steps give.
use Rattle.std.proofs.Common.{◌≡◌, ◌<◌, Bool, true, false, if◌then◌else◌, ℕ, List, [], ◌∷◌, ◌++◌, length, map, Option, Ok, Err, ap, ◌∙◌}
use Rattle.cyc_lexer.specs.Lexing.{Token}
use Rattle.cyc_lexer.specs.declared.token.Sign.{Sign}
use Rattle.cyc_lexer.specs.declared.token.TokenKind.{TokenKind}
use Rattle.cyc_parser.specs.declared.fault.ParseFault.{ParseFault}
use Rattle.cyc_parser.specs.declared.fault.ParseFault.TheVariants.{Parse, TooDeep, Memory}
use Rattle.source_grammar.specs.Phrases.{Tokens}
use Rattle.cyc_parser.specs.Reading.{next_kind, next_place}
use Rattle.cyc_parser.specs.Tests.{is_any, is_sign}
use Rattle.cyc_parser.specs.Reader.{Outcome, ◌>>=◌, Fails, done, read, token, many, passes, next_is, too_deep, sign, behind}
use Rattle.cyc_parser.proofs.ReadLoops.{with_front, pushed, fails_so, is_done}

-- ---- two steps

pub fails_as : {A : Type 0} (fault : ParseFault) (outcome : Outcome A) → outcome ≡ Err fault → Fails fault outcome
fails_as Memory outcome same = tt
fails_as (Parse at) outcome same = same
fails_as (TooDeep at) outcome same = same

pub first_fails : {A B : Type 0} (fault : ParseFault) (outcome : Outcome A) (f : A × Tokens → Outcome B) → Fails fault outcome
    → Fails fault (outcome >>= f)
first_fails Memory outcome f first = tt
first_fails (Parse at) outcome f first = ap (λ o. o >>= f) first
first_fails (TooDeep at) outcome f first = ap (λ o. o >>= f) first

pub then_fails : {A B : Type 0} (fault : ParseFault) (outcome : Outcome A) (f : A × Tokens → Outcome B) (x : A) (ts : Tokens)
    → outcome ≡ Ok (x, ts) → Fails fault (f (x, ts)) → Fails fault (outcome >>= f)
then_fails fault outcome f x ts first second = rw first second

pub then_reads : {A B : Type 0} (outcome : Outcome A) (f : A × Tokens → Outcome B) (x : A) (ts : Tokens) (whole : Outcome B)
    → outcome ≡ Ok (x, ts) → f (x, ts) ≡ whole → (outcome >>= f) ≡ whole
then_reads outcome f x ts whole first second = rw first second

-- ---- a token that was read without a test

pub token_passes : (test : TokenKind → Bool) (ts : Tokens) (t : Token) (rest : Tokens) → next_is test ts ≡ true → token is_any ts ≡ Ok (t, rest)
    → token test ts ≡ Ok (t, rest)
token_passes test [] t rest next one = cc
token_passes test (first ∷ others) t rest next one = rw next one

-- ---- the fault at a nesting

pub is_too_deep : (begins_so : TokenKind → Bool) (fault : ParseFault) (begins : Bool) (kind : Option TokenKind) (ts : Tokens) → kind ≡ next_kind ts
    → begins ≡ passes begins_so kind → fault ≡ (if begins then TooDeep (next_place ts) else Parse (next_place ts)) → fault ≡ too_deep begins_so ts
is_too_deep begins_so fault begins kind ts next test is =
    is ∙ ap (λ b. if b then TooDeep (next_place ts) else Parse (next_place ts)) (test ∙ ap (passes begins_so) next)

-- ---- a phrase, and others of its kind, each behind a sign

-- what is read so, made into one
abbrev pub joined : {A B : Type 0} → Sign → (Tokens → Outcome A) → (A → List A → B) → Tokens → Outcome B
joined s p make = read p (λ first. read (many (is_sign s) (behind s p)) (λ others. done (make first others)))

pub other_fails : {A B : Type 0} (s : Sign) (p : Tokens → Outcome A) (make : A → List A → B)
    (from mid now after : Tokens) (first : A) (xs : List A) (at : ℕ) (fault : ParseFault)
    → p from ≡ Ok (first, mid) → next_is (is_sign s) now ≡ true → sign s now ≡ Ok (at, after) → Fails fault (p after)
    → with_front xs (many (is_sign s) (behind s p) now) ≡ many (is_sign s) (behind s p) mid → Fails fault (joined s p make from)
other_fails s p make from mid now after first xs at fault one next signed fails before =
    then_fails fault (p from) (λ x. read (many (is_sign s) (behind s p)) (λ others. done (make x.0 others)) x.1) first mid one
    (first_fails fault (many (is_sign s) (behind s p) mid) (λ x. Ok (make first x.0, x.1))
    (fails_so (is_sign s) (behind s p) xs now fault (many (is_sign s) (behind s p) mid) next
    (then_fails fault (sign s now) (λ x. p x.1) at after signed fails) before))

pub other_pushed : {X A : Type 0} (view : X → A) (s : Sign) (p : Tokens → Outcome A)
    (now after left : Tokens) (xs all : List X) (x : X) (at : ℕ) (whole : Outcome (List A))
    → all ≡ xs ++ x ∷ [] → next_is (is_sign s) now ≡ true → sign s now ≡ Ok (at, after) → p after ≡ Ok (view x, left) → length left < length now
    → with_front (map view xs) (many (is_sign s) (behind s p) now) ≡ whole → with_front (map view all) (many (is_sign s) (behind s p) left) ≡ whole
other_pushed view s p now after left xs all x at whole push next signed one shorter before =
    pushed view (is_sign s) (behind s p) xs all x now left whole push next
    (then_reads (sign s now) (λ y. p y.1) at after (Ok (view x, left)) signed one) shorter before

pub others_done : {A B : Type 0} (s : Sign) (p : Tokens → Outcome A) (make : A → List A → B)
    (from mid now : Tokens) (first : A) (xs : List A) (all : B)
    → p from ≡ Ok (first, mid) → next_is (is_sign s) now ≡ false
    → with_front xs (many (is_sign s) (behind s p) now) ≡ many (is_sign s) (behind s p) mid
    → make first xs ≡ all → joined s p make from ≡ Ok (all, now)
others_done s p make from mid now first xs all one next before made =
    then_reads (p from) (λ x. read (many (is_sign s) (behind s p)) (λ others. done (make x.0 others)) x.1) first mid (Ok (all, now)) one
    (then_reads (many (is_sign s) (behind s p) mid) (λ x. Ok (make first x.0, x.1)) xs now (Ok (all, now))
    (is_done (is_sign s) (behind s p) xs now (many (is_sign s) (behind s p) mid) next before) (ap (λ x. Ok (x, now)) made))
