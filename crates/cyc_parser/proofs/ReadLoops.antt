-- Reading phrases one after the other, as a loop does: what was read stands before what is read yet.
use Rattle.std.proofs.Common.{◌≡◌, ◌<◌, Result, Bool, true, false, List, [], ◌∷◌, ◌++◌, length, map, Ok, Err, refl, sym, ap, subst, ◌∙◌, append_assoc}
use Rattle.std.proofs.lemmas.List.{append-nil, map_push}
use Rattle.cyc_lexer.specs.declared.token.TokenKind.{TokenKind}
use Rattle.cyc_parser.specs.declared.fault.ParseFault.{ParseFault}
use Rattle.cyc_parser.specs.declared.fault.ParseFault.TheVariants.{Parse, TooDeep, Memory}
use Rattle.source_grammar.specs.Phrases.{Tokens}
use Rattle.cyc_parser.specs.Reader.{Outcome, ◌>>=◌, Fails, Gives, next_is, many}
use Rattle.cyc_parser.proofs.Many.{many_more, many_end, many_next}

-- what was read stands before what is read yet
abbrev pub with_front : {A : Type 0} → List A → Outcome (List A) → Outcome (List A)
with_front xs (Ok y) = Ok (xs ++ y.0, y.1)
with_front xs (Err fault) = Err fault

regroup : {A : Type 0} (xs : List A) (x : A) (r : Outcome (List A)) → with_front xs (r >>= λ y. Ok (x ∷ y.0, y.1)) ≡ with_front (xs ++ x ∷ []) r
regroup {A} xs x (Ok y) = ap (λ (zs : List A). Ok (zs, y.1)) (sym (append_assoc xs (x ∷ []) y.0))
regroup xs x (Err fault) = refl

pub starts : {A : Type 0} (r : Outcome (List A)) → with_front [] r ≡ r
starts (Ok y) = refl
starts (Err fault) = refl

module _ {A : Type 0} (test : TokenKind → Bool) (p : Tokens → Outcome A) where
  -- a phrase more
  pub goes_on : (xs : List A) (ts : Tokens) (x : A) (mid : Tokens) (whole : Outcome (List A)) → next_is test ts ≡ true → p ts ≡ Ok (x, mid)
      → length mid < length ts
      → with_front xs (many test p ts) ≡ whole → with_front (xs ++ x ∷ []) (many test p mid) ≡ whole
  goes_on xs ts x mid whole h g lt so_far =
      sym (regroup xs x (many test p mid)) ∙ sym (ap (with_front xs) (many_next test p ts x mid h g lt)) ∙ so_far

  -- a phrase that isn't read
  pub fails : (xs : List A) (ts : Tokens) (fault : ParseFault) (whole : Outcome (List A)) → next_is test ts ≡ true → p ts ≡ Err fault
      → with_front xs (many test p ts) ≡ whole → whole ≡ Err fault
  fails xs ts fault whole h g so_far = sym so_far ∙ ap (with_front xs) (many_more test p ts h) ∙ rw g refl

  -- the end
  pub is_done : (xs : List A) (ts : Tokens) (whole : Outcome (List A)) → next_is test ts ≡ false → with_front xs (many test p ts) ≡ whole
      → whole ≡ Ok (xs, ts)
  is_done xs ts whole h so_far =
      sym so_far ∙ ap (with_front xs) (many_end test p ts h) ∙ ap (λ (zs : List A). Ok (zs, ts)) (append-nil xs)

-- the same of what a vector holds after a push
pub pushed : {X A : Type 0} (view : X → A) (test : TokenKind → Bool) (p : Tokens → Outcome A) (xs all : List X) (x : X) (ts mid : Tokens)
    (whole : Outcome (List A))
    → all ≡ xs ++ x ∷ [] → next_is test ts ≡ true → p ts ≡ Ok (view x, mid) → length mid < length ts → with_front (map view xs) (many test p ts) ≡ whole
    → with_front (map view all) (many test p mid) ≡ whole
pushed view test p xs all x ts mid whole push next one shorter before =
    subst (λ ys. with_front ys (many test p mid) ≡ whole) (sym (ap (map view) push ∙ map_push view xs x))
    (goes_on test p (map view xs) ts (view x) mid whole next one shorter before)

-- ---- the fault that a function answers

pub fails_so : {A : Type 0} (test : TokenKind → Bool) (p : Tokens → Outcome A) (xs : List A) (ts : Tokens) (fault : ParseFault) (whole : Outcome (List A))
    → next_is test ts ≡ true → Fails fault (p ts) → with_front xs (many test p ts) ≡ whole → Fails fault whole
fails_so test p xs ts Memory whole next one before = tt
fails_so test p xs ts (Parse at) whole next one before = fails test p xs ts (Parse at) whole next one before
fails_so test p xs ts (TooDeep at) whole next one before = fails test p xs ts (TooDeep at) whole next one before

pub is_refused : {X A : Type 0} (view : X → A) (result : Result X ParseFault) (fault : ParseFault) (left : Tokens) (outcome : Outcome A)
    → result ≡ Err fault → Fails fault outcome → Gives view result left outcome
is_refused view result fault left outcome is fails = subst (λ (r : Result _ ParseFault). Gives view r left outcome) (sym is) fails
