-- Phrases as long as the next token passes: their reader is exact where the reader of each is.
use Rattle.std.proofs.Common.{◌≡◌, ◌⊎◌, ℕ, zero, suc, ◌<◌, Bool, true, false, ◌||◌, List, [], ◌∷◌, ◌++◌, length, Ok, Err, refl, sym, ap, subst, ◌∙◌}
use Rattle.std.proofs.Common.{append_assoc, length-append, arith, inl, inr}
use Rattle.std.proofs.lemmas.Bool.{cases_Bool, or_left, or_right}
use Rattle.cyc_lexer.specs.declared.token.TokenKind.{TokenKind}
use Rattle.cyc_parser.specs.declared.fault.ParseFault.{ParseFault}
use Rattle.cyc_parser.specs.declared.fault.ParseFault.TheVariants.{Parse, TooDeep, Memory}
use Rattle.source_grammar.specs.Phrases.{Tokens}
use Rattle.cyc_parser.specs.Reader.{Outcome, ◌>>=◌, many, one_more, next_is}
use Rattle.cyc_parser.specs.Exact.{Found, Refused, Deepened, Stops, Passes, Exact, Anything, always, Rows}
use Rattle.cyc_parser.proofs.exactness.Parts.{bind_ok, bind_err, reads, ok_is, no_fault, next_same, stops_wider, begins_stops}
use Rattle.cyc_parser.proofs.exactness.Parts.{kept_on}
use Rattle.cyc_parser.proofs.Many.{many_more, many_end, many_next}

taken_of : (test : TokenKind → Bool) (taken : Tokens) → next_is test (taken ++ []) ≡ true → 0 < length taken
taken_of test [] h = absurd cc
taken_of test (t ∷ taken) h = omega arith

module _ {A : Type 0} (test : TokenKind → Bool) (Is : Bool → A → Tokens → Tokens → Type 0) (goes_on : A → TokenKind → Bool) (p : Tokens → Outcome A)
    (each : Exact Anything Is goes_on p)
    (begins : (b : Bool) (a : A) (from to : Tokens) → Is b a from to → next_is test from ≡ true)
    (apart : (a : A) (k : TokenKind) → test k ≡ true → goes_on a k ≡ false)
    (any : TokenKind → Bool) (within : (a : A) (k : TokenKind) → goes_on a k ≡ true → any k ≡ true) where
  abbrev r : Tokens → Outcome (List A)
  r = many test p

  -- a phrase takes a token
  takes : (a : A) (taken rest : Tokens) → ((more : Tokens) → Is true a (taken ++ more) more) → length rest < length (taken ++ rest)
  takes a taken rest is = omega (arith, length-append taken rest, taken_of test taken (begins true a (taken ++ []) [] (is [])))

  eats : (ts : Tokens) (a : A) (mid : Tokens) → p ts ≡ Ok (a, mid) → length mid < length ts
  eats ts a mid g =
      let f = each.sound ts a mid tt g in
      subst (λ (z : Tokens). length mid < length z) (sym f.parts) (takes a f.taken mid f.is)

  -- where a phrase was read, the others are read behind it
  pub next : (ts : Tokens) (a : A) (mid : Tokens) → p ts ≡ Ok (a, mid) → r ts ≡ (r mid >>= λ y. Ok (a ∷ y.0, y.1))
  next ts a mid g =
      let f = each.sound ts a mid tt g in
      let passes : next_is test ts ≡ true = subst (λ (z : Tokens). next_is test z ≡ true) (sym f.parts)
      (begins true a (f.taken ++ mid) mid (f.is mid)) in
      many_next test p ts a mid passes g (eats ts a mid g)

  -- ---- what is read

  sound_end : (ts : Tokens) (all : List A) (rest : Tokens) → next_is test ts ≡ false → r ts ≡ Ok (all, rest) → Found (Rows Is true) r ts all rest
  sound_end ts all rest stops h =
      let it : List A × Tokens = ([], ts) in
      subst (λ (y : List A × Tokens). Found (Rows Is true) r ts y.0 y.1) (ok_is it (all, rest) (sym (many_end test p ts stops) ∙ h)) (record {
        taken = [];
        parts = refl;
        is = λ more. refl;
        kept = λ t others after k. many_end test p (t ∷ after) (next_same test false ts [] t others after k stops);
      })

  sound_next : (ts : Tokens) (a : A) (mid : Tokens) → p ts ≡ Ok (a, mid) → (some : List A) (rest : Tokens) → Found (Rows Is true) r mid some rest
      → Found (Rows Is true) r ts (a ∷ some) rest
  sound_next ts a mid g some rest s =
      let f = each.sound ts a mid tt g in
      record {
        taken = f.taken ++ s.taken;
        parts = f.parts ∙ ap (λ (z : Tokens). f.taken ++ z) s.parts ∙ sym (append_assoc f.taken s.taken rest);
        is = λ more. (
          s.taken ++ more,
          subst (λ (z : Tokens). Is true a z (s.taken ++ more)) (sym (append_assoc f.taken s.taken more))
              (f.is (s.taken ++ more)),
          s.is more,
        );
        kept = λ t others after k.
            let g1 : p (f.taken ++ (s.taken ++ t ∷ after)) ≡ Ok (a, s.taken ++ t ∷ after) =
            kept_on p a f.taken mid s.taken t others after (s.parts ∙ ap (λ (z : Tokens). s.taken ++ z) k) f.kept in
            ap r (append_assoc f.taken s.taken (t ∷ after)) ∙ next (f.taken ++ (s.taken ++ t ∷ after)) a (s.taken ++ t ∷ after) g1
            ∙ rw (s.kept t others after k) refl;
      }

  sound_more : (ts : Tokens) (a : A) (mid : Tokens) → p ts ≡ Ok (a, mid) → (some : List A) (to : Tokens) → Found (Rows Is true) r mid some to
      → (all : List A) (rest : Tokens) → reads (a ∷ some, to) ≡ Ok (all, rest) → Found (Rows Is true) r ts all rest
  sound_more ts a mid g some to s all rest e =
      let it : List A × Tokens = (a ∷ some, to) in
      let other : List A × Tokens = (all, rest) in
      subst (λ (z : List A × Tokens). Found (Rows Is true) r ts z.0 z.1) {x = it} {y = other} (ok_is it other e) (sound_next ts a mid g some to s)

  many_sound : (n : ℕ) (ts : Tokens) (all : List A) (rest : Tokens) → length ts < n → r ts ≡ Ok (all, rest) → Found (Rows Is true) r ts all rest
  many_sound zero ts all rest lt h = absurd (omega arith)
  many_sound (suc n) ts all rest lt h =
      elim (cases_Bool (next_is test ts)) [
        | inl b ↦
            let x = bind_ok (p ts) (λ x. one_more ts x (r x.1)) (all, rest) (sym (many_more test p ts b) ∙ h) in
            let y = bind_ok (r x.0.1) (λ y. Ok (x.0.0 ∷ y.0, y.1)) (all, rest) (sym (next ts x.0.0 x.0.1 x.1) ∙ h) in
            sound_more ts x.0.0 x.0.1 x.1 y.0.0 y.0.1 (many_sound n x.0.1 y.0.0 y.0.1 (omega (arith, eats ts x.0.0 x.0.1 x.1)) y.1) all rest y.2
        | inr b ↦ sound_end ts all rest b h
      ]

  -- ---- phrases are read

  rows_any : (all : List A) (from to : Tokens) → Rows Is true all from to → Rows Is false all from to
  rows_any [] from to is = is
  rows_any (a ∷ all) from to is = (is.0, each.of_any a from is.0 is.1, rows_any all is.0 to is.2)

  -- what stands behind a phrase is another one, or what stands behind all
  pub rows_stop : (b : Bool) (a : A) (all : List A) (mid to : Tokens) → Rows Is b all mid to → Stops (λ k. test k || any k) to → Stops (goes_on a) mid
  rows_stop b a [] mid to is stops =
      stops_wider (goes_on a) (λ k. test k || any k) (λ k h. or_right (test k) (any k) (within a k h)) mid
      (subst (Stops (λ k. test k || any k)) (sym is) stops)
  rows_stop b a (next ∷ all) mid to is stops = begins_stops test (goes_on a) (apart a) mid (begins b next mid is.0 is.1)

  pub rows_end : (from to : Tokens) → from ≡ to → Stops (λ k. test k || any k) to → r from ≡ Ok ([], to)
  rows_end from to same stops =
      rw same (many_end test p to (stops_wider test (λ k. test k || any k) (λ k h. or_left (test k) (any k) h) to stops))

  many_again : (all : List A) (from to : Tokens) → Rows Is true all from to → Stops (λ k. test k || any k) to → r from ≡ Ok (all, to)
  many_again [] from to is stops = rows_end from to is stops
  many_again (a ∷ all) from to is stops =
      let g = each.again a from is.0 is.1 (rows_stop true a all is.0 to is.2 stops) in
      next from a is.0 g ∙ rw (many_again all is.0 to is.2 stops) refl

  never_next : (a : A) (all : List A) (from mid to : Tokens) → next_is test from ≡ true → Passes (p from) a mid → Passes (r mid) all to
      → Passes (r from) (a ∷ all) to
  never_next a all from mid to passes (inl g) (inl h) = inl (next from a mid g ∙ rw h refl)
  never_next a all from mid to passes (inl g) (inr h) = inr (h.0, next from a mid g ∙ rw h.1 refl)
  never_next a all from mid to passes (inr g) h = inr (g.0, many_more test p from passes ∙ rw g.1 refl)

  many_never : (all : List A) (from to : Tokens) → Rows Is false all from to → Stops (λ k. test k || any k) to → Passes (r from) all to
  many_never [] from to is stops = inl (rows_end from to is stops)
  many_never (a ∷ all) from to is stops =
      never_next a all from is.0 to (begins false a from is.0 is.1) (each.never a from is.0 is.1 (rows_stop false a all is.0 to is.2 stops))
      (many_never all is.0 to is.2 stops)

  -- ---- what isn't read

  refused_first : (ts : Tokens) (at : ℕ) → next_is test ts ≡ true → p ts ≡ Err (Parse at) → Refused (Rows Is false) r ts at
  refused_first ts at b h =
      let f = each.refused ts at tt h in
      record {
        front = f.front;
        rest = f.rest;
        parts = f.parts;
        place = f.place;
        tree = f.tree ∷ [];
        ending = f.ending;
        made_up = f.made_up;
        is = λ more. (more, f.is more, refl);
        still = λ t others after k.
            many_more test p (f.front ++ t ∷ after) (next_same test true ts f.front t others after (f.parts ∙ ap (λ (z : Tokens). f.front ++ z) k) b)
            ∙ rw (f.still t others after k) refl;
      }

  refused_next : (ts : Tokens) (at : ℕ) (a : A) (mid : Tokens) → p ts ≡ Ok (a, mid) → Refused (Rows Is false) r mid at
      → Refused (Rows Is false) r ts at
  refused_next ts at a mid g s =
      let f = each.sound ts a mid tt g in
      record {
        front = f.taken ++ s.front;
        rest = s.rest;
        parts = f.parts ∙ ap (λ (z : Tokens). f.taken ++ z) s.parts ∙ sym (append_assoc f.taken s.front s.rest);
        place = s.place;
        tree = a ∷ s.tree;
        ending = s.ending;
        made_up = s.made_up;
        is = λ more.
            let xs : Tokens = s.front ++ (s.ending ++ more) in (
              xs,
              subst (λ (z : Tokens). Is false a z xs) (sym (append_assoc f.taken s.front (s.ending ++ more)))
                  (each.of_any a (f.taken ++ xs) xs (f.is xs)),
              s.is more,
            );
        still = λ t others after k.
            let g1 : p (f.taken ++ (s.front ++ t ∷ after)) ≡ Ok (a, s.front ++ t ∷ after) =
            kept_on p a f.taken mid s.front t others after (s.parts ∙ ap (λ (z : Tokens). s.front ++ z) k) f.kept in
            ap r (append_assoc f.taken s.front (t ∷ after)) ∙ next (f.taken ++ (s.front ++ t ∷ after)) a (s.front ++ t ∷ after) g1
            ∙ rw (s.still t others after k) refl;
      }

  deepened_first : (ts : Tokens) (at : ℕ) → next_is test ts ≡ true → p ts ≡ Err (TooDeep at) → Deepened (Rows Is false) r ts at
  deepened_first ts at b h =
      let f = each.deepened ts at tt h in
      record {
        front = f.front;
        next = f.next;
        others = f.others;
        parts = f.parts;
        place = f.place;
        tree = f.tree ∷ [];
        ending = f.ending;
        made_up = f.made_up;
        is = λ more. (more, f.is more, refl);
        still = λ after. many_more test p (f.front ++ f.next ∷ after) (next_same test true ts f.front f.next f.others after f.parts b)
            ∙ rw (f.still after) refl;
      }

  deepened_next : (ts : Tokens) (at : ℕ) (a : A) (mid : Tokens) → p ts ≡ Ok (a, mid) → Deepened (Rows Is false) r mid at
      → Deepened (Rows Is false) r ts at
  deepened_next ts at a mid g s =
      let f = each.sound ts a mid tt g in
      record {
        front = f.taken ++ s.front;
        next = s.next;
        others = s.others;
        parts = f.parts ∙ ap (λ (z : Tokens). f.taken ++ z) s.parts ∙ sym (append_assoc f.taken s.front (s.next ∷ s.others));
        place = s.place;
        tree = a ∷ s.tree;
        ending = s.ending;
        made_up = s.made_up;
        is = λ more.
            let xs : Tokens = s.front ++ s.next ∷ (s.ending ++ more) in (
              xs,
              subst (λ (z : Tokens). Is false a z xs) (sym (append_assoc f.taken s.front (s.next ∷ (s.ending ++ more))))
                  (each.of_any a (f.taken ++ xs) xs (f.is xs)),
              s.is more,
            );
        still = λ after.
            let g1 : p (f.taken ++ (s.front ++ s.next ∷ after)) ≡ Ok (a, s.front ++ s.next ∷ after) =
            kept_on p a f.taken mid s.front s.next s.others after s.parts f.kept in
            ap r (append_assoc f.taken s.front (s.next ∷ after)) ∙ next (f.taken ++ (s.front ++ s.next ∷ after)) a (s.front ++ s.next ∷ after) g1
            ∙ rw (s.still after) refl;
      }

  -- where the first phrase, or a later one, isn't read
  fault_is : (ts : Tokens) (fault : ParseFault) (whole : r ts ≡ Err fault)
      → ((next_is test ts ≡ true) × (p ts ≡ Err fault)) ⊎ ((a : A) × (mid : Tokens) × (p ts ≡ Ok (a, mid)) × (r mid ≡ Err fault))
  fault_is ts fault whole =
      elim (cases_Bool (next_is test ts)) [
        | inl b ↦ elim (bind_err (p ts) (λ x. one_more ts x (r x.1)) fault (sym (many_more test p ts b) ∙ whole)) [
          | inl g ↦ inl (b, g)
          | inr x ↦ elim (bind_err (r x.0.1) (λ y. Ok (x.0.0 ∷ y.0, y.1)) fault (sym (next ts x.0.0 x.0.1 x.1) ∙ whole)) [
            | inl g ↦ inr (x.0.0, x.0.1, x.1, g)
            | inr y ↦ absurd (no_fault (x.0.0 ∷ y.0.0, y.0.1) fault y.2)
          ]
        ]
        | inr b ↦ absurd (no_fault ([], ts) fault (sym (many_end test p ts b) ∙ whole))
      ]

  many_refused : (n : ℕ) (ts : Tokens) (at : ℕ) → length ts < n → r ts ≡ Err (Parse at) → Refused (Rows Is false) r ts at
  many_refused zero ts at lt h = absurd (omega arith)
  many_refused (suc n) ts at lt h =
      elim (fault_is ts (Parse at) h) [
        | inl g ↦ refused_first ts at g.0 g.1
        | inr x ↦ refused_next ts at x.0 x.1 x.2 (many_refused n x.1 at (omega (arith, eats ts x.0 x.1 x.2)) x.3)
      ]

  many_deepened : (n : ℕ) (ts : Tokens) (at : ℕ) → length ts < n → r ts ≡ Err (TooDeep at) → Deepened (Rows Is false) r ts at
  many_deepened zero ts at lt h = absurd (omega arith)
  many_deepened (suc n) ts at lt h =
      elim (fault_is ts (TooDeep at) h) [
        | inl g ↦ deepened_first ts at g.0 g.1
        | inr x ↦ deepened_next ts at x.0 x.1 x.2 (many_deepened n x.1 at (omega (arith, eats ts x.0 x.1 x.2)) x.3)
      ]

  -- memory never runs out, since each phrase takes a token
  many_enough : (n : ℕ) (ts : Tokens) → length ts < n → r ts ≡ Err Memory → ⊥
  many_enough zero ts lt h = omega (arith, lt)
  many_enough (suc n) ts lt h =
      elim (fault_is ts Memory h) [
        | inl g ↦ each.enough ts tt g.1
        | inr x ↦ many_enough n x.1 (omega (arith, eats ts x.0 x.1 x.2)) x.3
      ]

  pub many_exact : Exact Anything (Rows Is) (always (λ k. test k || any k)) (many test p)
  many_exact = record {
    sound = λ ts all rest guard h. many_sound (suc (length ts)) ts all rest (omega arith) h;
    of_any = rows_any;
    again = many_again;
    never = many_never;
    refused = λ ts at guard h. many_refused (suc (length ts)) ts at (omega arith) h;
    deepened = λ ts at guard h. many_deepened (suc (length ts)) ts at (omega arith) h;
    enough = λ ts guard h. many_enough (suc (length ts)) ts (omega arith) h;
    some = record { tree = []; tokens = []; made_up = tt; is = λ more. refl };
  }
