-- One phrase or the other, by the next token: their reader is exact where both parts' readers are.
use Rattle.std.proofs.Common.{◌≡◌, ℕ, Bool, true, false, ◌∷◌, ◌++◌, Ok, Err, refl, sym, ap, ◌∙◌, inl, inr}
use Rattle.std.proofs.lemmas.Bool.{cases_Bool}
use Rattle.cyc_lexer.specs.Lexing.{Token}
use Rattle.cyc_lexer.specs.declared.token.TokenKind.{TokenKind}
use Rattle.cyc_parser.specs.declared.fault.ParseFault.TheVariants.{Parse, TooDeep, Memory}
use Rattle.source_grammar.specs.Phrases.{Tokens}
use Rattle.cyc_parser.specs.Reader.{Outcome, choose, next_is}
use Rattle.cyc_parser.specs.Exact.{Found, Refused, Deepened, Stops, Passes, Exact, Either}
use Rattle.cyc_parser.proofs.exactness.Parts.{next_same}

pub choose_first : {A : Type 0} (test : TokenKind → Bool) (p q : Tokens → Outcome A) (ts : Tokens) → next_is test ts ≡ true
    → choose test p q ts ≡ p ts
choose_first test p q ts h = rw h refl

pub choose_second : {A : Type 0} (test : TokenKind → Bool) (p q : Tokens → Outcome A) (ts : Tokens) → next_is test ts ≡ false
    → choose test p q ts ≡ q ts
choose_second test p q ts h = rw h refl

module _ {A : Type 0} (Guard : Tokens → Type 0) (test : TokenKind → Bool) (goes_on : A → TokenKind → Bool)
    (First : Bool → A → Tokens → Tokens → Type 0) (p : Tokens → Outcome A)
    (first : Exact (λ ts. Guard ts × (next_is test ts ≡ true)) First goes_on p)
    (Second : Bool → A → Tokens → Tokens → Type 0) (q : Tokens → Outcome A)
    (second : Exact (λ ts. Guard ts × (next_is test ts ≡ false)) Second goes_on q)
    (begins : (b : Bool) (a : A) (from to : Tokens) → First b a from to → next_is test from ≡ true)
    (apart : (b : Bool) (a : A) (from to : Tokens) → Second b a from to → Stops (goes_on a) to → next_is test from ≡ false) where
  abbrev One : Bool → A → Tokens → Tokens → Type 0
  One = Either First Second

  abbrev r : Tokens → Outcome A
  r = choose test p q

  -- a reader that is r where the next token is so stays it whatever follows the next token
  stays : (x : Tokens → Outcome A) (b : Bool) → ((ts : Tokens) → next_is test ts ≡ b → r ts ≡ x ts)
      → (ts front rest : Tokens) (t : Token) (others after : Tokens)
      → next_is test ts ≡ b → ts ≡ front ++ rest → rest ≡ t ∷ others → r (front ++ t ∷ after) ≡ x (front ++ t ∷ after)
  stays x b same ts front rest t others after h parts k =
      same (front ++ t ∷ after) (next_same test b ts front t others after (parts ∙ ap (λ (z : Tokens). front ++ z) k) h)

  found : (Is : Bool → A → Tokens → Tokens → Type 0) (into : (b : Bool) (a : A) (from to : Tokens) → Is b a from to → One b a from to)
      (x : Tokens → Outcome A) (b : Bool) → ((ts : Tokens) → next_is test ts ≡ b → r ts ≡ x ts) → (ts : Tokens) (a : A) (rest : Tokens)
      → next_is test ts ≡ b → Found (Is true) x ts a rest → Found (One true) r ts a rest
  found Is into x b same ts a rest h f = record {
    taken = f.taken;
    parts = f.parts;
    is = λ more. into true a (f.taken ++ more) more (f.is more);
    kept = λ t others after k. stays x b same ts f.taken rest t others after h f.parts k ∙ f.kept t others after k;
  }

  refused : (Is : Bool → A → Tokens → Tokens → Type 0) (into : (b : Bool) (a : A) (from to : Tokens) → Is b a from to → One b a from to)
      (x : Tokens → Outcome A) (b : Bool) → ((ts : Tokens) → next_is test ts ≡ b → r ts ≡ x ts) → (ts : Tokens) (at : ℕ)
      → next_is test ts ≡ b → Refused (Is false) x ts at → Refused (One false) r ts at
  refused Is into x b same ts at h f = record {
    front = f.front;
    rest = f.rest;
    parts = f.parts;
    place = f.place;
    tree = f.tree;
    ending = f.ending;
    made_up = f.made_up;
    is = λ more. into false f.tree (f.front ++ (f.ending ++ more)) more (f.is more);
    still = λ t others after k. stays x b same ts f.front f.rest t others after h f.parts k ∙ f.still t others after k;
  }

  deepened : (Is : Bool → A → Tokens → Tokens → Type 0) (into : (b : Bool) (a : A) (from to : Tokens) → Is b a from to → One b a from to)
      (x : Tokens → Outcome A) (b : Bool) → ((ts : Tokens) → next_is test ts ≡ b → r ts ≡ x ts) → (ts : Tokens) (at : ℕ)
      → next_is test ts ≡ b → Deepened (Is false) x ts at → Deepened (One false) r ts at
  deepened Is into x b same ts at h f = record {
    front = f.front;
    next = f.next;
    others = f.others;
    parts = f.parts;
    place = f.place;
    tree = f.tree;
    ending = f.ending;
    made_up = f.made_up;
    is = λ more. into false f.tree (f.front ++ f.next ∷ (f.ending ++ more)) more (f.is more);
    still = λ after. stays x b same ts f.front (f.next ∷ f.others) f.next f.others after h f.parts refl ∙ f.still after;
  }

  into_first : (b : Bool) (a : A) (from to : Tokens) → First b a from to → One b a from to
  into_first b a from to is = inl is

  into_second : (b : Bool) (a : A) (from to : Tokens) → Second b a from to → One b a from to
  into_second b a from to is = inr is

  choose_sound : (ts : Tokens) (a : A) (rest : Tokens) → Guard ts → r ts ≡ Ok (a, rest) → Found (One true) r ts a rest
  choose_sound ts a rest guard h =
      elim (cases_Bool (next_is test ts)) [
        | inl b ↦ found First into_first p true (choose_first test p q) ts a rest b
            (first.sound ts a rest (guard, b) (sym (choose_first test p q ts b) ∙ h))
        | inr b ↦ found Second into_second q false (choose_second test p q) ts a rest b
            (second.sound ts a rest (guard, b) (sym (choose_second test p q ts b) ∙ h))
      ]

  choose_any : (a : A) (from to : Tokens) → One true a from to → One false a from to
  choose_any a from to (inl is) = inl (first.of_any a from to is)
  choose_any a from to (inr is) = inr (second.of_any a from to is)

  choose_again : (a : A) (from to : Tokens) → One true a from to → Stops (goes_on a) to → r from ≡ Ok (a, to)
  choose_again a from to (inl is) stops = choose_first test p q from (begins true a from to is) ∙ first.again a from to is stops
  choose_again a from to (inr is) stops = choose_second test p q from (apart true a from to is stops) ∙ second.again a from to is stops

  choose_never : (a : A) (from to : Tokens) → One false a from to → Stops (goes_on a) to → Passes (r from) a to
  choose_never a from to (inl is) stops = rw (choose_first test p q from (begins false a from to is)) (first.never a from to is stops)
  choose_never a from to (inr is) stops = rw (choose_second test p q from (apart false a from to is stops)) (second.never a from to is stops)

  choose_refused : (ts : Tokens) (at : ℕ) → Guard ts → r ts ≡ Err (Parse at) → Refused (One false) r ts at
  choose_refused ts at guard h =
      elim (cases_Bool (next_is test ts)) [
        | inl b ↦ refused First into_first p true (choose_first test p q) ts at b
            (first.refused ts at (guard, b) (sym (choose_first test p q ts b) ∙ h))
        | inr b ↦ refused Second into_second q false (choose_second test p q) ts at b
            (second.refused ts at (guard, b) (sym (choose_second test p q ts b) ∙ h))
      ]

  choose_deepened : (ts : Tokens) (at : ℕ) → Guard ts → r ts ≡ Err (TooDeep at) → Deepened (One false) r ts at
  choose_deepened ts at guard h =
      elim (cases_Bool (next_is test ts)) [
        | inl b ↦ deepened First into_first p true (choose_first test p q) ts at b
            (first.deepened ts at (guard, b) (sym (choose_first test p q ts b) ∙ h))
        | inr b ↦ deepened Second into_second q false (choose_second test p q) ts at b
            (second.deepened ts at (guard, b) (sym (choose_second test p q ts b) ∙ h))
      ]

  -- memory never runs out, as it doesn't in the one that is read
  choose_enough : (ts : Tokens) → Guard ts → r ts ≡ Err Memory → ⊥
  choose_enough ts guard h =
      elim (cases_Bool (next_is test ts)) [
        | inl b ↦ first.enough ts (guard, b) (sym (choose_first test p q ts b) ∙ h)
        | inr b ↦ second.enough ts (guard, b) (sym (choose_second test p q ts b) ∙ h)
      ]

  pub choose_exact : Exact Guard (Either First Second) goes_on (choose test p q)
  choose_exact = record {
    sound = choose_sound;
    of_any = choose_any;
    again = choose_again;
    never = choose_never;
    refused = choose_refused;
    deepened = choose_deepened;
    enough = choose_enough;
    some = record { tree = first.some.tree; tokens = first.some.tokens; made_up = first.some.made_up; is = λ more. inl (first.some.is more) };
  }
