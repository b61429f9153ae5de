-- What the proofs of exact readers share: steps that may fail, what is next, and what is kept when other tokens follow.
use Rattle.std.proofs.Common.{◌≡◌, ◌⊎◌, Bool, true, false, [], ◌∷◌, ◌++◌, Ok, Err, refl, ap, inl, inr}
use Rattle.cyc_lexer.specs.Lexing.{Token}
use Rattle.cyc_lexer.specs.declared.token.TokenKind.{TokenKind}
use Rattle.cyc_parser.specs.declared.fault.ParseFault.{ParseFault}
use Rattle.source_grammar.specs.Phrases.{Tokens}
use Rattle.cyc_parser.specs.Reader.{Outcome, ◌>>=◌, next_is}
use Rattle.cyc_parser.specs.Exact.{AreMadeUp, Stops, Passes}

-- ---- steps that may fail

pub bind_ok : {A B : Type 0} (r : Outcome A) (f : A × Tokens → Outcome B) (y : B × Tokens) → (r >>= f) ≡ Ok y
    → (x : A × Tokens) × (r ≡ Ok x) × (f x ≡ Ok y)
bind_ok (Ok x) f y e = (x, refl, e)
bind_ok (Err d) f y e = absurd cc

pub bind_err : {A B : Type 0} (r : Outcome A) (f : A × Tokens → Outcome B) (d : ParseFault)
    → (r >>= f) ≡ Err d → (r ≡ Err d) ⊎ ((x : A × Tokens) × (r ≡ Ok x) × (f x ≡ Err d))
bind_err (Ok x) f d e = inr (x, refl, e)
bind_err (Err d') f d e = inl cc

pub bind_same : {A B : Type 0} (r : Outcome A) (f g : A × Tokens → Outcome B) → ((x : A × Tokens) → f x ≡ g x) → (r >>= f) ≡ (r >>= g)
bind_same (Ok x) f g h = h x
bind_same (Err d) f g h = refl

abbrev pub reads : {A : Type 0} → A × Tokens → Outcome A
reads x = Ok x

-- what is read is read once
pub ok_is : {A : Type 0} (x y : A × Tokens) → reads x ≡ reads y → x ≡ y
ok_is x y e = cc

pub no_fault : {A : Type 0} (x : A × Tokens) (e : ParseFault) → reads x ≡ Err e → ⊥
no_fault x e h = cc

-- ---- what is next

-- the next token is the same, whatever follows it
pub next_same : (test : TokenKind → Bool) (b : Bool) (ts front : Tokens) (t : Token) (others after : Tokens)
    → ts ≡ front ++ t ∷ others → next_is test ts ≡ b → next_is test (front ++ t ∷ after) ≡ b
next_same test b ts [] t others after e h = let g : next_is test ts ≡ test t.kind = ap (next_is test) e in rw (← g) h
next_same test b ts (x ∷ front) t others after e h = let g : next_is test ts ≡ test x.kind = ap (next_is test) e in rw (← g) h

pub false_of : (b c : Bool) → (b ≡ true → c ≡ true) → c ≡ false → b ≡ false
false_of true c h g = absurd (let bad = h refl in cc)
false_of false c h g = refl

-- nothing is a token that goes on
pub stops_never : (ts : Tokens) → next_is (λ k. false) ts ≡ false
stops_never [] = refl
stops_never (t ∷ ts) = refl

-- where more tokens would go on, fewer do
pub stops_wider : (goes_on wider : TokenKind → Bool) → ((k : TokenKind) → goes_on k ≡ true → wider k ≡ true) → (ts : Tokens) → Stops wider ts
    → Stops goes_on ts
stops_wider goes_on wider within [] h = refl
stops_wider goes_on wider within (t ∷ ts) h = false_of (goes_on t.kind) (wider t.kind) (within t.kind) h

-- a token that passes one test stops the other
pub begins_stops : (test goes_on : TokenKind → Bool) → ((k : TokenKind) → test k ≡ true → goes_on k ≡ false) → (ts : Tokens) → next_is test ts ≡ true
    → Stops goes_on ts
begins_stops test goes_on apart [] h = refl
begins_stops test goes_on apart (t ∷ ts) h = apart t.kind h

-- ---- what is kept

-- read so whatever follows the next token: also where that one is another phrase's
pub kept_on : {A : Type 0} (p : Tokens → Outcome A) (a : A) (taken mid xs : Tokens) (t : Token) (others after : Tokens) → mid ≡ xs ++ t ∷ others
    → ((u : Token) (vs ws : Tokens) → mid ≡ u ∷ vs → p (taken ++ u ∷ ws) ≡ Ok (a, u ∷ ws)) → p (taken ++ (xs ++ t ∷ after)) ≡ Ok (a, xs ++ t ∷ after)
kept_on p a taken mid [] t others after e kept = kept t others after e
kept_on p a taken mid (x ∷ xs) t others after e kept = kept x (xs ++ t ∷ others) (xs ++ t ∷ after) e

-- read so, then so: read so in all, or too deep
pub passes_then : {A B : Type 0} (r : Outcome A) (f : A × Tokens → Outcome B) (a : A) (mid : Tokens) (c : B) (to : Tokens)
    → Passes r a mid → Passes (f (a, mid)) c to → Passes (r >>= f) c to
passes_then r f a mid c to (inl g) h = rw g h
passes_then r f a mid c to (inr g) h = inr (g.0, rw g.1 refl)

-- tokens that are made up, and others behind them that are
pub made_up_both : (xs ys : Tokens) → AreMadeUp xs → AreMadeUp ys → AreMadeUp (xs ++ ys)
made_up_both [] ys h k = k
made_up_both (x ∷ xs) ys h k = (h.0, made_up_both xs ys h.1 k)
