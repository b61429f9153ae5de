-- Readers of single steps are exact, and so is an exact reader's in other words.
use Rattle.std.proofs.Common.{◌≡◌, ℕ, Bool, true, false, cond, [], ◌∷◌, ◌++◌, Ok, Err, refl, sym, ap, subst, ◌∙◌, inl, inr}
use Rattle.cyc_lexer.specs.Lexing.{Token}
use Rattle.cyc_lexer.specs.declared.token.TokenKind.{TokenKind}
use Rattle.cyc_parser.specs.declared.fault.ParseFault.{ParseFault}
use Rattle.cyc_parser.specs.declared.fault.ParseFault.TheVariants.{Parse, TooDeep, Memory}
use Rattle.source_grammar.specs.Phrases.{Tokens}
use Rattle.cyc_parser.specs.Reading.{next_place}
use Rattle.cyc_parser.specs.Reader.{Outcome, done, read, token, refuse, next_is}
use Rattle.cyc_parser.specs.Exact.{nowhere, Found, Refused, Deepened, Phrase, PhraseFrom, Stops, Exact, Anything, ends, IsToken, IsDone, Then}
use Rattle.cyc_parser.proofs.exactness.Parts.{ok_is, no_fault, stops_wider}
use Rattle.cyc_parser.proofs.exactness.Reads.{read_exact}

-- ---- a token

token_sound_at : (test : TokenKind → Bool) (t : Token) (ts : Tokens) (a : Token) (rest : Tokens) (b : Bool) → test t.kind ≡ b
    → cond {A = Outcome Token} b (Ok (t, ts)) (Err (Parse t.at)) ≡ Ok (a, rest) → Found (IsToken test true) (token test) (t ∷ ts) a rest
token_sound_at test t ts a rest true h e =
    subst (λ (y : Token × Tokens). Found (IsToken test true) (token test) (t ∷ ts) y.0 y.1) (ok_is (t, ts) (a, rest) e)
    (record { taken = t ∷ []; parts = refl; is = λ more. (refl, h); kept = λ u others after g. rw h refl })
token_sound_at test t ts a rest false h e = absurd cc

token_sound : (test : TokenKind → Bool) (ts : Tokens) (a : Token) (rest : Tokens) → token test ts ≡ Ok (a, rest)
    → Found (IsToken test true) (token test) ts a rest
token_sound test [] a rest e = absurd cc
token_sound test (t ∷ ts) a rest e = token_sound_at test t ts a rest (test t.kind) refl e

pub token_again : (test : TokenKind → Bool) (a : Token) (from to : Tokens) → IsToken test true a from to → token test from ≡ Ok (a, to)
token_again test a from to is = rw is.0 (rw is.1 refl)

token_refused_at : (test : TokenKind → Bool) (v : Token) → test v.kind ≡ true → v.at ≡ nowhere → (t : Token) (ts : Tokens) (at : ℕ) (b : Bool)
    → test t.kind ≡ b
    → cond {A = Outcome Token} b (Ok (t, ts)) (Err (Parse t.at)) ≡ Err (Parse at) → Refused (IsToken test false) (token test) (t ∷ ts) at
token_refused_at test v pass past t ts at true h e = absurd cc
token_refused_at test v pass past t ts at false h e = record {
  front = [];
  rest = t ∷ ts;
  parts = refl;
  place = cc;
  tree = v;
  ending = v ∷ [];
  made_up = (past, tt);
  is = λ more. (refl, pass);
  still = λ u others after g.
      let same : t ≡ u = cc in
      let fails : test u.kind ≡ false = subst (λ (x : Token). test x.kind ≡ false) same h in
      let place : t.at ≡ at = cc in
      let there : u.at ≡ at = subst (λ (x : Token). x.at ≡ at) same place in
      rw fails (rw there refl);
}

token_refused : (test : TokenKind → Bool) (v : Token) → test v.kind ≡ true → v.at ≡ nowhere → (ts : Tokens) (at : ℕ)
    → token test ts ≡ Err (Parse at) → Refused (IsToken test false) (token test) ts at
token_refused test v pass past [] at e = record {
  front = [];
  rest = [];
  parts = refl;
  place = cc;
  tree = v;
  ending = v ∷ [];
  made_up = (past, tt);
  is = λ more. (refl, pass);
  still = λ u others after g. absurd cc;
}
token_refused test v pass past (t ∷ ts) at e = token_refused_at test v pass past t ts at (test t.kind) refl e

token_shallow_at : (t : Token) (ts : Tokens) (at : ℕ) (b : Bool) → cond {A = Outcome Token} b (Ok (t, ts)) (Err (Parse t.at)) ≡ Err (TooDeep at) → ⊥
token_shallow_at t ts at true e = cc
token_shallow_at t ts at false e = cc

-- no token nests too deep
token_shallow : (test : TokenKind → Bool) (ts : Tokens) (at : ℕ) → token test ts ≡ Err (TooDeep at) → ⊥
token_shallow test [] at e = cc
token_shallow test (t ∷ ts) at e = token_shallow_at t ts at (test t.kind) e

token_enough_at : (t : Token) (ts : Tokens) (b : Bool) → cond {A = Outcome Token} b (Ok (t, ts)) (Err (Parse t.at)) ≡ Err Memory → ⊥
token_enough_at t ts true e = cc
token_enough_at t ts false e = cc

-- a token's reader never answers that memory ran out
token_enough : (test : TokenKind → Bool) (ts : Tokens) → token test ts ≡ Err Memory → ⊥
token_enough test [] e = cc
token_enough test (t ∷ ts) e = token_enough_at t ts (test t.kind) e

pub token_exact : (test : TokenKind → Bool) (t : Token) → test t.kind ≡ true → t.at ≡ nowhere → Exact Anything (IsToken test) ends (token test)
token_exact test t passes past = record {
  sound = λ ts a rest guard e. token_sound test ts a rest e;
  of_any = λ a from to is. is;
  again = λ a from to is stops. token_again test a from to is;
  never = λ a from to is stops. inl (token_again test a from to is);
  refused = λ ts at guard e. token_refused test t passes past ts at e;
  deepened = λ ts at guard e. absurd (token_shallow test ts at e);
  enough = λ ts guard e. token_enough test ts e;
  some = record { tree = t; tokens = t ∷ []; made_up = (past, tt); is = λ more. (refl, passes) };
}

-- ---- nothing

done_sound : {A : Type 0} (x : A) (ts : Tokens) (a : A) (rest : Tokens) → done x ts ≡ Ok (a, rest) → Found (IsDone x true) (done x) ts a rest
done_sound {A} x ts a rest e =
    subst (λ (y : A × Tokens). Found (IsDone x true) (done x) ts y.0 y.1) (ok_is (x, ts) (a, rest) e)
    (record { taken = []; parts = refl; is = λ more. (refl, refl); kept = λ u others after g. refl })

done_again : {A : Type 0} (x a : A) (from to : Tokens) → IsDone x true a from to → done x from ≡ Ok (a, to)
done_again x a from to is = rw (is.0, is.1) refl

pub done_exact : {A : Type 0} (x : A) → Exact Anything (IsDone x) ends (done x)
done_exact x = record {
  sound = λ ts a rest guard e. done_sound x ts a rest e;
  of_any = λ a from to is. is;
  again = λ a from to is stops. done_again x a from to is;
  never = λ a from to is stops. inl (done_again x a from to is);
  refused = λ ts at guard e. absurd (no_fault (x, ts) (Parse at) e);
  deepened = λ ts at guard e. absurd (no_fault (x, ts) (TooDeep at) e);
  enough = λ ts guard e. no_fault (x, ts) Memory e;
  some = record { tree = x; tokens = []; made_up = tt; is = λ more. (refl, refl) };
}

-- ---- too deep

refuse_sound : {A : Type 0} (Is : A → Tokens → Tokens → Type 0) (test : TokenKind → Bool) (ts : Tokens) (a : A) (rest : Tokens)
    → refuse test ts ≡ Ok (a, rest) → Found Is (refuse test) ts a rest
refuse_sound Is test ts a rest e = absurd cc

refuse_deep : {A : Type 0} (test : TokenKind → Bool) (ts : Tokens) → next_is test ts ≡ true → refuse {A = A} test ts ≡ Err (TooDeep (next_place ts))
refuse_deep test ts h = rw h refl

abbrev failed : {A : Type 0} → ParseFault → Outcome A
failed d = Err d

refuse_refused_at : {A : Type 0} (Is : A → Tokens → Tokens → Type 0) (test : TokenKind → Bool) (some : Phrase Is) (ts : Tokens) (at : ℕ) (b : Bool)
    → next_is test ts ≡ b
    → failed {A = A} (cond b (TooDeep (next_place ts)) (Parse (next_place ts))) ≡ Err (Parse at) → Refused Is (refuse test) ts at
refuse_refused_at Is test some ts at true h e = absurd cc
refuse_refused_at Is test some ts at false h e = record {
  front = [];
  rest = ts;
  parts = refl;
  place = cc;
  tree = some.tree;
  ending = some.tokens;
  made_up = some.made_up;
  is = some.is;
  still = λ u others after g.
      let fails : test u.kind ≡ false = ap (next_is test) (sym g) ∙ h in
      let place : next_place ts ≡ at = cc in
      let there : u.at ≡ at = ap next_place (sym g) ∙ place in
      rw fails (rw there refl);
}

refuse_deepened_at : {A : Type 0} (Is : A → Tokens → Tokens → Type 0) (test : TokenKind → Bool) → ((t : Token) → test t.kind ≡ true → PhraseFrom Is t)
    → (t : Token) (ts : Tokens) (at : ℕ) (b : Bool) → test t.kind ≡ b
    → failed {A = A} (cond b (TooDeep t.at) (Parse t.at)) ≡ Err (TooDeep at) → Deepened Is (refuse test) (t ∷ ts) at
refuse_deepened_at Is test begins t ts at true h e =
    let it = begins t h in
    let place : t.at ≡ at = cc in
    record {
      front = [];
      next = t;
      others = ts;
      parts = refl;
      place = sym place;
      tree = it.tree;
      ending = it.tokens;
      made_up = it.made_up;
      is = it.is;
      still = λ after. rw h (rw place refl);
    }
refuse_deepened_at Is test begins t ts at false h e = absurd cc

refuse_deepened : {A : Type 0} (Is : A → Tokens → Tokens → Type 0) (test : TokenKind → Bool) → ((t : Token) → test t.kind ≡ true → PhraseFrom Is t)
    → (ts : Tokens) (at : ℕ) → refuse {A = A} test ts ≡ Err (TooDeep at) → Deepened Is (refuse test) ts at
refuse_deepened Is test begins [] at e = absurd cc
refuse_deepened Is test begins (t ∷ ts) at e = refuse_deepened_at Is test begins t ts at (test t.kind) refl e

-- nor is that the fault where a phrase would nest too deep
refuse_enough_at : {A : Type 0} (at : ℕ) (b : Bool) → failed {A = A} (cond b (TooDeep at) (Parse at)) ≡ Err Memory → ⊥
refuse_enough_at at true e = cc
refuse_enough_at at false e = cc

-- too deep: no phrase nests so little, and each token that begins one begins some phrase
pub refuse_exact : {A : Type 0} (test : TokenKind → Bool) (Is : Bool → A → Tokens → Tokens → Type 0) (goes_on : A → TokenKind → Bool)
    → ((a : A) (from to : Tokens) → Is true a from to → ⊥)
    → ((a : A) (from to : Tokens) → Is false a from to → next_is test from ≡ true)
    → ((t : Token) → test t.kind ≡ true → PhraseFrom (Is false) t)
    → Phrase (Is false)
    → Exact Anything Is goes_on (refuse test)
refuse_exact test Is goes_on none first begins some = record {
  sound = λ ts a rest guard e. refuse_sound (Is true) test ts a rest e;
  of_any = λ a from to is. absurd (none a from to is);
  again = λ a from to is stops. absurd (none a from to is);
  never = λ a from to is stops. inr (_, refuse_deep test from (first a from to is));
  refused = λ ts at guard e. refuse_refused_at (Is false) test some ts at (next_is test ts) refl e;
  deepened = λ ts at guard e. refuse_deepened (Is false) test begins ts at e;
  enough = λ ts guard e. refuse_enough_at (next_place ts) (next_is test ts) e;
  some = some;
}

-- ---- the same in other words

-- the same relation
pub exact_as : {A : Type 0} (Guard : Tokens → Type 0) (Is : Bool → A → Tokens → Tokens → Type 0) (goes_on : A → TokenKind → Bool)
    (p : Tokens → Outcome A)
    → Exact Guard Is goes_on p → (As : Bool → A → Tokens → Tokens → Type 0)
    → ((b : Bool) (a : A) (from to : Tokens) → Is b a from to → As b a from to)
    → ((b : Bool) (a : A) (from to : Tokens) → As b a from to → Is b a from to)
    → Exact Guard As goes_on p
exact_as Guard Is goes_on p each As into back = record {
  sound = λ ts a rest guard e.
      let f = each.sound ts a rest guard e in
      record { taken = f.taken; parts = f.parts; is = λ more. into true a (f.taken ++ more) more (f.is more); kept = f.kept };
  of_any = λ a from to is. into false a from to (each.of_any a from to (back true a from to is));
  again = λ a from to is stops. each.again a from to (back true a from to is) stops;
  never = λ a from to is stops. each.never a from to (back false a from to is) stops;
  refused = λ ts at guard e.
      let r = each.refused ts at guard e in
      record {
        front = r.front;
        rest = r.rest;
        parts = r.parts;
        place = r.place;
        tree = r.tree;
        ending = r.ending;
        made_up = r.made_up;
        is = λ more. into false r.tree (r.front ++ (r.ending ++ more)) more (r.is more);
        still = r.still;
      };
  deepened = λ ts at guard e.
      let r = each.deepened ts at guard e in
      record {
        front = r.front;
        next = r.next;
        others = r.others;
        parts = r.parts;
        place = r.place;
        tree = r.tree;
        ending = r.ending;
        made_up = r.made_up;
        is = λ more. into false r.tree (r.front ++ r.next ∷ (r.ending ++ more)) more (r.is more);
        still = r.still;
      };
  enough = each.enough;
  some = record {
    tree = each.some.tree;
    tokens = each.some.tokens;
    made_up = each.some.made_up;
    is = λ more. into false each.some.tree (each.some.tokens ++ more) more (each.some.is more);
  };
}

-- more tokens go on
pub exact_wider : {A : Type 0} (Guard : Tokens → Type 0) (Is : Bool → A → Tokens → Tokens → Type 0) (goes_on wider : A → TokenKind → Bool)
    (p : Tokens → Outcome A)
    → Exact Guard Is goes_on p → ((a : A) (k : TokenKind) → goes_on a k ≡ true → wider a k ≡ true) → Exact Guard Is wider p
exact_wider Guard Is goes_on wider p each within = record {
  sound = each.sound;
  of_any = each.of_any;
  refused = each.refused;
  deepened = each.deepened;
  enough = each.enough;
  some = each.some;
  again = λ a from to is stops. each.again a from to is (stops_wider (goes_on a) (wider a) (within a) to stops);
  never = λ a from to is stops. each.never a from to is (stops_wider (goes_on a) (wider a) (within a) to stops);
}

-- fewer tokens meet the guard
pub exact_on : {A : Type 0} (Guard Fewer : Tokens → Type 0) (Is : Bool → A → Tokens → Tokens → Type 0) (goes_on : A → TokenKind → Bool)
    (p : Tokens → Outcome A)
    → Exact Guard Is goes_on p → ((ts : Tokens) → Fewer ts → Guard ts) → Exact Fewer Is goes_on p
exact_on Guard Fewer Is goes_on p each within = record {
  sound = λ ts a rest fewer e. each.sound ts a rest (within ts fewer) e;
  of_any = each.of_any;
  again = each.again;
  never = each.never;
  refused = λ ts at fewer e. each.refused ts at (within ts fewer) e;
  deepened = λ ts at fewer e. each.deepened ts at (within ts fewer) e;
  enough = λ ts fewer e. each.enough ts (within ts fewer) e;
  some = each.some;
}

-- a value made from a phrase, of which each phrase of the other relation is made
pub made_exact : {A B : Type 0} (Guard : Tokens → Type 0) (Is : Bool → A → Tokens → Tokens → Type 0) (goes_on : A → TokenKind → Bool)
    (p : Tokens → Outcome A)
    → Exact Guard Is goes_on p → (f : A → B) (then_on : B → TokenKind → Bool)
    → ((a : A) (k : TokenKind) → goes_on a k ≡ true → then_on (f a) k ≡ true)
    → (As : Bool → B → Tokens → Tokens → Type 0)
    → ((b : Bool) (a : A) (from to : Tokens) → Is b a from to → As b (f a) from to)
    → ((b : Bool) (c : B) (from to : Tokens) → As b c from to → (a : A) × (c ≡ f a) × Is b a from to)
    → Exact Guard As then_on (read p (λ a. done (f a)))
made_exact {A} {B} Guard Is goes_on p each f then_on within As into back =
    exact_as Guard (Then Is (λ a. IsDone (f a))) then_on (read p (λ a. done (f a)))
    (read_exact Guard Is goes_on p each (λ a. Anything) (λ a. IsDone (f a)) then_on (λ a. done (f a))
    (λ a. exact_wider Anything (IsDone (f a)) ends then_on (done (f a)) (done_exact (f a)) (λ c k h. absurd cc))
    (λ ts a mid guard e. tt)
    (λ b a c mid to is stops.
    stops_wider (goes_on a) (then_on c) (λ k h. subst (λ (x : B). then_on x k ≡ true) (sym is.0) (within a k h)) mid
    (subst (Stops (then_on c)) (sym is.1) stops)))
    As
    (λ b c from to is. subst (λ (x : B). As b x from to) (sym is.3.0) (subst (As b (f is.0) from) is.3.1 (into b is.0 from is.1 is.2)))
    (λ b c from to is. let it = back b c from to is in (it.0, to, it.2, (it.1, refl)))
