-- One phrase and then another one: their reader is exact where both parts' readers are.
use Rattle.std.proofs.Common.{◌≡◌, ℕ, Bool, true, false, ◌∷◌, ◌++◌, Ok, Err, refl, sym, ap, subst, ◌∙◌, append_assoc, inl, inr}
use Rattle.cyc_lexer.specs.declared.token.TokenKind.{TokenKind}
use Rattle.cyc_parser.specs.declared.fault.ParseFault.TheVariants.{Parse, TooDeep, Memory}
use Rattle.source_grammar.specs.Phrases.{Tokens}
use Rattle.cyc_parser.specs.Reader.{Outcome, read}
use Rattle.cyc_parser.specs.Exact.{Found, Refused, Deepened, Phrase, Stops, Passes, Exact, Then}
use Rattle.cyc_parser.proofs.exactness.Parts.{bind_ok, bind_err, kept_on, passes_then, made_up_both}

module _ {A B : Type 0} (Guard : Tokens → Type 0) (First : Bool → A → Tokens → Tokens → Type 0) (goes_on : A → TokenKind → Bool)
    (p : Tokens → Outcome A)
    (first : Exact Guard First goes_on p)
    (Later : A → Tokens → Type 0) (Second : A → Bool → B → Tokens → Tokens → Type 0) (then_on : B → TokenKind → Bool) (q : A → Tokens → Outcome B)
    (second : (a : A) → Exact (Later a) (Second a) then_on (q a))
    (leaves : (ts : Tokens) (a : A) (mid : Tokens) → Guard ts → p ts ≡ Ok (a, mid) → Later a mid)
    (meets : (b : Bool) (a : A) (c : B) (mid to : Tokens) → Second a b c mid to → Stops (then_on c) to → Stops (goes_on a) mid) where
  abbrev Both : Bool → B → Tokens → Tokens → Type 0
  Both = Then First Second

  -- a phrase whatever follows, and then another one
  join : (b : Bool) (a : A) (c : B) (xs ys more : Tokens) → First b a (xs ++ (ys ++ more)) (ys ++ more) → Second a b c (ys ++ more) more
      → Both b c ((xs ++ ys) ++ more) more
  join b a c xs ys more f s = (a, ys ++ more, subst (λ (z : Tokens). First b a z (ys ++ more)) (sym (append_assoc xs ys more)) f, s)

  sound_second : (ts : Tokens) (a : A) (mid : Tokens) (c : B) (rest : Tokens)
      → Found (First true) p ts a mid → Found (Second a true) (q a) mid c rest → Found (Both true) (read p q) ts c rest
  sound_second ts a mid c rest f s = record {
    taken = f.taken ++ s.taken;
    parts = f.parts ∙ ap (λ (z : Tokens). f.taken ++ z) s.parts ∙ sym (append_assoc f.taken s.taken rest);
    is = λ more. join true a c f.taken s.taken more (f.is (s.taken ++ more)) (s.is more);
    kept = λ t others after k.
        let g : p (f.taken ++ (s.taken ++ t ∷ after)) ≡ Ok (a, s.taken ++ t ∷ after) =
        kept_on p a f.taken mid s.taken t others after (s.parts ∙ ap (λ (z : Tokens). s.taken ++ z) k) f.kept in
        ap (read p q) (append_assoc f.taken s.taken (t ∷ after)) ∙ rw g (s.kept t others after k);
  }

  read_sound : (ts : Tokens) (c : B) (rest : Tokens) → Guard ts → read p q ts ≡ Ok (c, rest) → Found (Both true) (read p q) ts c rest
  read_sound ts c rest guard e =
      let x = bind_ok (p ts) (λ x. q x.0 x.1) (c, rest) e in
      sound_second ts x.0.0 x.0.1 c rest (first.sound ts x.0.0 x.0.1 guard x.1)
      ((second x.0.0).sound x.0.1 c rest (leaves ts x.0.0 x.0.1 guard x.1) x.2)

  read_any : (c : B) (from to : Tokens) → Both true c from to → Both false c from to
  read_any c from to is = (is.0, is.1, first.of_any is.0 from is.1 is.2, (second is.0).of_any c is.1 to is.3)

  read_again : (c : B) (from to : Tokens) → Both true c from to → Stops (then_on c) to → read p q from ≡ Ok (c, to)
  read_again c from to is stops =
      let g : p from ≡ Ok (is.0, is.1) = first.again is.0 from is.1 is.2 (meets true is.0 c is.1 to is.3 stops) in
      rw g ((second is.0).again c is.1 to is.3 stops)

  read_never : (c : B) (from to : Tokens) → Both false c from to → Stops (then_on c) to → Passes (read p q from) c to
  read_never c from to is stops =
      passes_then (p from) (λ x. q x.0 x.1) is.0 is.1 c to
      (first.never is.0 from is.1 is.2 (meets false is.0 c is.1 to is.3 stops)) ((second is.0).never c is.1 to is.3 stops)

  -- the phrases that complete what was begun, one more behind them
  refused_first : (ts : Tokens) (at : ℕ) → Refused (First false) p ts at → Refused (Both false) (read p q) ts at
  refused_first ts at r =
      let some : Phrase (Second r.tree false) = (second r.tree).some in
      record {
        front = r.front;
        rest = r.rest;
        parts = r.parts;
        place = r.place;
        tree = some.tree;
        ending = r.ending ++ some.tokens;
        made_up = made_up_both r.ending some.tokens r.made_up some.made_up;
        is = λ more. (
          r.tree,
          some.tokens ++ more,
          subst (λ (z : Tokens). First false r.tree (r.front ++ z) (some.tokens ++ more)) (sym (append_assoc r.ending some.tokens more))
              (r.is (some.tokens ++ more)),
          some.is more,
        );
        still = λ t others after k. rw (r.still t others after k) refl;
      }

  refused_second : (ts : Tokens) (at : ℕ) (a : A) (mid : Tokens) → Found (First true) p ts a mid → Refused (Second a false) (q a) mid at
      → Refused (Both false) (read p q) ts at
  refused_second ts at a mid f r = record {
    front = f.taken ++ r.front;
    rest = r.rest;
    parts = f.parts ∙ ap (λ (z : Tokens). f.taken ++ z) r.parts ∙ sym (append_assoc f.taken r.front r.rest);
    place = r.place;
    tree = r.tree;
    ending = r.ending;
    made_up = r.made_up;
    is = λ more.
        let xs : Tokens = r.front ++ (r.ending ++ more) in (
          a,
          xs,
          subst (λ (z : Tokens). First false a z xs) (sym (append_assoc f.taken r.front (r.ending ++ more)))
              (first.of_any a (f.taken ++ xs) xs (f.is xs)),
          r.is more,
        );
    still = λ t others after k.
        let g : p (f.taken ++ (r.front ++ t ∷ after)) ≡ Ok (a, r.front ++ t ∷ after) =
        kept_on p a f.taken mid r.front t others after (r.parts ∙ ap (λ (z : Tokens). r.front ++ z) k) f.kept in
        ap (read p q) (append_assoc f.taken r.front (t ∷ after)) ∙ rw g (r.still t others after k);
  }

  read_refused : (ts : Tokens) (at : ℕ) → Guard ts → read p q ts ≡ Err (Parse at) → Refused (Both false) (read p q) ts at
  read_refused ts at guard e =
      elim (bind_err (p ts) (λ x. q x.0 x.1) (Parse at) e) [
        | inl g ↦ refused_first ts at (first.refused ts at guard g)
        | inr x ↦ refused_second ts at x.0.0 x.0.1 (first.sound ts x.0.0 x.0.1 guard x.1)
            ((second x.0.0).refused x.0.1 at (leaves ts x.0.0 x.0.1 guard x.1) x.2)
      ]

  deepened_first : (ts : Tokens) (at : ℕ) → Deepened (First false) p ts at → Deepened (Both false) (read p q) ts at
  deepened_first ts at r =
      let some : Phrase (Second r.tree false) = (second r.tree).some in
      record {
        front = r.front;
        next = r.next;
        others = r.others;
        parts = r.parts;
        place = r.place;
        tree = some.tree;
        ending = r.ending ++ some.tokens;
        made_up = made_up_both r.ending some.tokens r.made_up some.made_up;
        is = λ more. (
          r.tree,
          some.tokens ++ more,
          subst (λ (z : Tokens). First false r.tree (r.front ++ r.next ∷ z) (some.tokens ++ more)) (sym (append_assoc r.ending some.tokens more))
              (r.is (some.tokens ++ more)),
          some.is more,
        );
        still = λ after. rw (r.still after) refl;
      }

  deepened_second : (ts : Tokens) (at : ℕ) (a : A) (mid : Tokens) → Found (First true) p ts a mid → Deepened (Second a false) (q a) mid at
      → Deepened (Both false) (read p q) ts at
  deepened_second ts at a mid f r = record {
    front = f.taken ++ r.front;
    next = r.next;
    others = r.others;
    parts = f.parts ∙ ap (λ (z : Tokens). f.taken ++ z) r.parts ∙ sym (append_assoc f.taken r.front (r.next ∷ r.others));
    place = r.place;
    tree = r.tree;
    ending = r.ending;
    made_up = r.made_up;
    is = λ more.
        let xs : Tokens = r.front ++ r.next ∷ (r.ending ++ more) in (
          a,
          xs,
          subst (λ (z : Tokens). First false a z xs) (sym (append_assoc f.taken r.front (r.next ∷ (r.ending ++ more))))
              (first.of_any a (f.taken ++ xs) xs (f.is xs)),
          r.is more,
        );
    still = λ after.
        let g : p (f.taken ++ (r.front ++ r.next ∷ after)) ≡ Ok (a, r.front ++ r.next ∷ after) =
        kept_on p a f.taken mid r.front r.next r.others after r.parts f.kept in
        ap (read p q) (append_assoc f.taken r.front (r.next ∷ after)) ∙ rw g (r.still after);
  }

  read_deepened : (ts : Tokens) (at : ℕ) → Guard ts → read p q ts ≡ Err (TooDeep at) → Deepened (Both false) (read p q) ts at
  read_deepened ts at guard e =
      elim (bind_err (p ts) (λ x. q x.0 x.1) (TooDeep at) e) [
        | inl g ↦ deepened_first ts at (first.deepened ts at guard g)
        | inr x ↦ deepened_second ts at x.0.0 x.0.1 (first.sound ts x.0.0 x.0.1 guard x.1)
            ((second x.0.0).deepened x.0.1 at (leaves ts x.0.0 x.0.1 guard x.1) x.2)
      ]

  -- memory never runs out, as it doesn't in either
  read_enough : (ts : Tokens) → Guard ts → read p q ts ≡ Err Memory → ⊥
  read_enough ts guard e =
      elim (bind_err (p ts) (λ x. q x.0 x.1) Memory e) [
        | inl g ↦ first.enough ts guard g
        | inr x ↦ (second x.0.0).enough x.0.1 (leaves ts x.0.0 x.0.1 guard x.1) x.2
      ]

  read_some : Phrase (Both false)
  read_some =
      let one = first.some in
      let other : Phrase (Second one.tree false) = (second one.tree).some in
      record {
        tree = other.tree;
        tokens = one.tokens ++ other.tokens;
        made_up = made_up_both one.tokens other.tokens one.made_up other.made_up;
        is = λ more. join false one.tree other.tree one.tokens other.tokens more (one.is (other.tokens ++ more)) (other.is more);
      }

  pub read_exact : Exact Guard (Then First Second) then_on (read p q)
  read_exact = record {
    sound = read_sound;
    of_any = read_any;
    again = read_again;
    never = read_never;
    refused = read_refused;
    deepened = read_deepened;
    enough = read_enough;
    some = read_some;
  }
