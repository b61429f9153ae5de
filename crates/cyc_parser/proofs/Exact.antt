-- Readers that are made of exact ones are exact.
use Rattle.std.proofs.Common.{◌≡◌, ℕ, Bool, true, false, [], ◌∷◌, ◌++◌, Ok, Err, refl, sym, ap, subst, ◌∙◌, inl, inr}
use Rattle.cyc_lexer.specs.Lexing.{Token}
use Rattle.cyc_lexer.specs.declared.token.TokenKind.{TokenKind}
use Rattle.cyc_parser.specs.declared.fault.ParseFault.{ParseFault}
use Rattle.cyc_parser.specs.declared.fault.ParseFault.TheVariants.{Parse, TooDeep, Memory}
use Rattle.source_grammar.specs.Phrases.{Tokens}
use Rattle.cyc_parser.specs.Reading.{next_place}
use Rattle.cyc_parser.specs.Reader.{Outcome, placed, next_is}
use Rattle.cyc_parser.proofs.exactness.Parts.{bind_ok, bind_err, ok_is, no_fault, passes_then}
use Rattle.cyc_parser.specs.Exact.{AreMadeUp, Found, Refused, Deepened, Phrase, Stops, Passes, Exact, IsPlaced}
pub use Rattle.cyc_parser.proofs.exactness.Reads.{read_exact}
pub use Rattle.cyc_parser.proofs.exactness.Choice.{choose_exact}
pub use Rattle.cyc_parser.proofs.exactness.Lists.{many_exact}
pub use Rattle.cyc_parser.proofs.Many.{many_more, many_end}
pub use Rattle.cyc_parser.proofs.exactness.Steps.{token_exact, done_exact, refuse_exact, exact_as, exact_wider, exact_on, made_exact}

-- ---- a phrase and its place

-- the first token's place is the same, whatever follows
place_kept : (xs ys more : Tokens) (t : Token) (rest : Tokens) → xs ++ (ys ++ []) ≡ t ∷ rest → next_place (xs ++ ys) ≡ next_place (xs ++ (ys ++ more))
place_kept [] [] more t rest e = absurd cc
place_kept [] (y ∷ ys) more t rest e = refl
place_kept (x ∷ xs) ys more t rest e = refl

place_before : (xs : Tokens) (t : Token) (more others : Tokens) → next_place (xs ++ t ∷ more) ≡ next_place (xs ++ t ∷ others)
place_before [] t more others = refl
place_before (x ∷ xs) t more others = refl

module _ {A : Type 0} (Guard : Tokens → Type 0) (Is : Bool → A → Tokens → Tokens → Type 0) (goes_on : A → TokenKind → Bool) (p : Tokens → Outcome A)
    (each : Exact Guard Is goes_on p)
    (some : (b : Bool) (a : A) (from to : Tokens) → Is b a from to → (t : Token) × (rest : Tokens) × (from ≡ t ∷ rest)) where
  -- what stands before the rest begins at the same place, whatever follows
  place_taken : (b : Bool) (a : A) (taken rest more : Tokens) → ((more : Tokens) → Is b a (taken ++ more) more)
      → next_place (taken ++ rest) ≡ next_place (taken ++ more)
  place_taken b a taken rest more is =
      let first = some b a (taken ++ []) [] (is []) in
      sym (place_kept [] taken rest first.0 first.1 first.2) ∙ place_kept [] taken more first.0 first.1 first.2

  sound_at : (ts : Tokens) (a : A) (rest : Tokens) → Found (Is true) p ts a rest → Found (IsPlaced Is true) (placed p) ts (next_place ts, a) rest
  sound_at ts a rest f =
      let same : (more : Tokens) → next_place ts ≡ next_place (f.taken ++ more) =
      λ more. ap next_place f.parts ∙ place_taken true a f.taken rest more f.is in
      record {
        taken = f.taken;
        parts = f.parts;
        is = λ more. (same more, f.is more);
        kept = λ t others after k. rw (f.kept t others after k) (ap (λ (n : ℕ). Ok ((n, a), t ∷ after)) (sym (same (t ∷ after))));
      }

  placed_sound : (ts : Tokens) (x : ℕ × A) (rest : Tokens) → Guard ts → placed p ts ≡ Ok (x, rest) → Found (IsPlaced Is true) (placed p) ts x rest
  placed_sound ts x rest guard e =
      let y = bind_ok (p ts) (λ y. Ok ((next_place ts, y.0), y.1)) (x, rest) e in
      let it : (ℕ × A) × Tokens = ((next_place ts, y.0.0), y.0.1) in
      let other : (ℕ × A) × Tokens = (x, rest) in
      subst (λ (z : (ℕ × A) × Tokens). Found (IsPlaced Is true) (placed p) ts z.0 z.1) {x = it} {y = other} (ok_is it other y.2)
      (sound_at ts y.0.0 y.0.1 (each.sound ts y.0.0 y.0.1 guard y.1))

  placed_again : (x : ℕ × A) (from to : Tokens) → IsPlaced Is true x from to → Stops (goes_on x.1) to → placed p from ≡ Ok (x, to)
  placed_again x from to is stops = rw (each.again x.1 from to is.1 stops) (ap (λ (n : ℕ). Ok ((n, x.1), to)) (sym is.0))

  placed_never : (x : ℕ × A) (from to : Tokens) → IsPlaced Is false x from to → Stops (goes_on x.1) to → Passes (placed p from) x to
  placed_never x from to is stops =
      passes_then (p from) (λ y. Ok ((next_place from, y.0), y.1)) x.1 to x to (each.never x.1 from to is.1 stops)
      (inl (ap (λ (n : ℕ). Ok ((n, x.1), to)) (sym is.0)))

  -- a faulty answer is the phrase's
  fault_is : (ts : Tokens) (fault : ParseFault) → placed p ts ≡ Err fault → p ts ≡ Err fault
  fault_is ts fault e =
      elim (bind_err (p ts) (λ y. Ok ((next_place ts, y.0), y.1)) fault e) [
        | inl g ↦ g
        | inr y ↦ absurd (no_fault ((next_place ts, y.0.0), y.0.1) fault y.2)
      ]

  placed_refused : (ts : Tokens) (at : ℕ) → Guard ts → placed p ts ≡ Err (Parse at) → Refused (IsPlaced Is false) (placed p) ts at
  placed_refused ts at guard e =
      let r = each.refused ts at guard (fault_is ts (Parse at) e) in
      let first = some false r.tree (r.front ++ (r.ending ++ [])) [] (r.is []) in
      record {
        front = r.front;
        rest = r.rest;
        parts = r.parts;
        place = r.place;
        tree = (next_place (r.front ++ r.ending), r.tree);
        ending = r.ending;
        made_up = r.made_up;
        is = λ more. (place_kept r.front r.ending more first.0 first.1 first.2, r.is more);
        still = λ t others after k. rw (r.still t others after k) refl;
      }

  placed_deepened : (ts : Tokens) (at : ℕ) → Guard ts → placed p ts ≡ Err (TooDeep at) → Deepened (IsPlaced Is false) (placed p) ts at
  placed_deepened ts at guard e =
      let r = each.deepened ts at guard (fault_is ts (TooDeep at) e) in
      record {
        front = r.front;
        next = r.next;
        others = r.others;
        parts = r.parts;
        place = r.place;
        tree = (next_place (r.front ++ r.next ∷ []), r.tree);
        ending = r.ending;
        made_up = r.made_up;
        is = λ more. (place_before r.front r.next [] (r.ending ++ more), r.is more);
        still = λ after. rw (r.still after) refl;
      }

  placed_some : Phrase (IsPlaced Is false)
  placed_some =
      let one = each.some in
      let first = some false one.tree (one.tokens ++ []) [] (one.is []) in
      record {
        tree = (next_place one.tokens, one.tree);
        tokens = one.tokens;
        made_up = one.made_up;
        is = λ more. (place_kept [] one.tokens more first.0 first.1 first.2, one.is more);
      }

  placed_is_exact : Exact Guard (IsPlaced Is) (λ x. goes_on x.1) (placed p)
  placed_is_exact = record {
    sound = placed_sound;
    of_any = λ x from to is. (is.0, each.of_any x.1 from to is.1);
    again = placed_again;
    never = placed_never;
    refused = placed_refused;
    deepened = placed_deepened;
    enough = λ ts guard e. each.enough ts guard (fault_is ts Memory e);
    some = placed_some;
  }

pub placed_exact : {A : Type 0} (Guard : Tokens → Type 0) (Is : Bool → A → Tokens → Tokens → Type 0) (goes_on : A → TokenKind → Bool)
    (p : Tokens → Outcome A)
    → Exact Guard Is goes_on p → ((b : Bool) (a : A) (from to : Tokens) → Is b a from to → (t : Token) × (rest : Tokens) × (from ≡ t ∷ rest))
    → Exact Guard (IsPlaced Is) (λ x. goes_on x.1) (placed p)
placed_exact Guard Is goes_on p each some = placed_is_exact Guard Is goes_on p each some

-- ---- phrases that have a property

module _ {A : Type 0} (Guard : Tokens → Type 0) (test : TokenKind → Bool) (Is : Bool → A → Tokens → Tokens → Type 0) (goes_on : A → TokenKind → Bool)
    (p : Tokens → Outcome A) (each : Exact (λ ts. Guard ts × (next_is test ts ≡ false)) Is goes_on p) (Has : A → Type 0)
    (has : (b : Bool) (a : A) (t : Token) (rest to : Tokens) → Is b a (t ∷ rest) to → test t.kind ≡ false → Has a)
    (t : Token) (fails : test t.kind ≡ false) (some : Phrase (λ a from to. Is false a from to × Has a)) where
  abbrev IsSuch : Bool → A → Tokens → Tokens → Type 0
  IsSuch b a from to = Is b a from to × Has a

  -- a phrase whatever follows, before which no token passes
  has_taken : (a : A) (ts taken rest : Tokens) → next_is test ts ≡ false → ts ≡ taken ++ rest → ((more : Tokens) → Is true a (taken ++ more) more)
      → Has a
  has_taken a ts [] rest h parts is = has true a t [] (t ∷ []) (is (t ∷ [])) fails
  has_taken a ts (x ∷ taken) rest h parts is =
      let first : test x.kind ≡ false = ap (next_is test) (sym parts) ∙ h in
      has true a x (taken ++ []) [] (is []) first

  restrict_sound : (ts : Tokens) (a : A) (rest : Tokens) → Guard ts × (next_is test ts ≡ false) → p ts ≡ Ok (a, rest)
      → Found (IsSuch true) p ts a rest
  restrict_sound ts a rest guard e =
      let f = each.sound ts a rest guard e in
      record { taken = f.taken; parts = f.parts; is = λ more. (f.is more, has_taken a ts f.taken rest guard.1 f.parts f.is); kept = f.kept }

  -- where nothing stands before, another phrase that has the property may begin
  refused_at : (ts : Tokens) (at : ℕ) → next_is test ts ≡ false → (front rest : Tokens) → ts ≡ front ++ rest → at ≡ next_place rest
      → (a : A) (ending : Tokens) → AreMadeUp ending → ((more : Tokens) → Is false a (front ++ (ending ++ more)) more)
      → ((t : Token) (others after : Tokens) → rest ≡ t ∷ others → p (front ++ t ∷ after) ≡ Err (Parse at)) → Refused (IsSuch false) p ts at
  refused_at ts at h [] rest parts place a ending made_up is still =
      record {
        front = [];
        rest = rest;
        parts = parts;
        place = place;
        tree = some.tree;
        ending = some.tokens;
        made_up = some.made_up;
        is = some.is;
        still = still;
      }
  refused_at ts at h (x ∷ front) rest parts place a ending made_up is still =
      let first : test x.kind ≡ false = ap (next_is test) (sym parts) ∙ h in
      record {
        front = x ∷ front;
        rest = rest;
        parts = parts;
        place = place;
        tree = a;
        ending = ending;
        made_up = made_up;
        is = λ more. (is more, has false a x (front ++ (ending ++ more)) more (is more) first);
        still = still;
      }

  restrict_refused : (ts : Tokens) (at : ℕ) → Guard ts × (next_is test ts ≡ false) → p ts ≡ Err (Parse at) → Refused (IsSuch false) p ts at
  restrict_refused ts at guard e =
      let r = each.refused ts at guard e in
      refused_at ts at guard.1 r.front r.rest r.parts r.place r.tree r.ending r.made_up r.is r.still

  has_deepened : (a : A) (ts front : Tokens) (next : Token) (others ending : Tokens) → next_is test ts ≡ false → ts ≡ front ++ next ∷ others
      → ((more : Tokens) → Is false a (front ++ next ∷ (ending ++ more)) more) → Has a
  has_deepened a ts [] next others ending h parts is = has false a next (ending ++ []) [] (is []) (ap (next_is test) (sym parts) ∙ h)
  has_deepened a ts (x ∷ front) next others ending h parts is =
      let first : test x.kind ≡ false = ap (next_is test) (sym parts) ∙ h in
      has false a x (front ++ next ∷ (ending ++ [])) [] (is []) first

  restrict_deepened : (ts : Tokens) (at : ℕ) → Guard ts × (next_is test ts ≡ false) → p ts ≡ Err (TooDeep at) → Deepened (IsSuch false) p ts at
  restrict_deepened ts at guard e =
      let r = each.deepened ts at guard e in
      record {
        front = r.front;
        next = r.next;
        others = r.others;
        parts = r.parts;
        place = r.place;
        tree = r.tree;
        ending = r.ending;
        made_up = r.made_up;
        is = λ more. (r.is more, has_deepened r.tree ts r.front r.next r.others r.ending guard.1 r.parts r.is);
        still = r.still;
      }

  restrict_is_exact : Exact (λ ts. Guard ts × (next_is test ts ≡ false)) IsSuch goes_on p
  restrict_is_exact = record {
    sound = restrict_sound;
    of_any = λ a from to is. (each.of_any a from to is.0, is.1);
    again = λ a from to is stops. each.again a from to is.0 stops;
    never = λ a from to is stops. each.never a from to is.0 stops;
    refused = restrict_refused;
    deepened = restrict_deepened;
    enough = each.enough;
    some = some;
  }

-- Where the next token fails a test, each phrase has a property. Some phrase has it, and there is a token that fails the test.
pub restrict_exact : {A : Type 0} (Guard : Tokens → Type 0) (test : TokenKind → Bool) (Is : Bool → A → Tokens → Tokens → Type 0)
    (goes_on : A → TokenKind → Bool)
    (p : Tokens → Outcome A) → Exact (λ ts. Guard ts × (next_is test ts ≡ false)) Is goes_on p → (Has : A → Type 0)
    → ((b : Bool) (a : A) (t : Token) (rest to : Tokens) → Is b a (t ∷ rest) to → test t.kind ≡ false → Has a)
    → (t : Token) → test t.kind ≡ false → Phrase (λ a from to. Is false a from to × Has a)
    → Exact (λ ts. Guard ts × (next_is test ts ≡ false)) (λ b a from to. Is b a from to × Has a) goes_on p
restrict_exact Guard test Is goes_on p each Has has t fails some = restrict_is_exact Guard test Is goes_on p each Has has t fails some
