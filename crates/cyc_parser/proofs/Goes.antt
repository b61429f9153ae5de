-- What a reader answers of a phrase: its tree, or the place of its first token that is too deep. Steps of readers keep to it.
use Rattle.std.proofs.Common.{◌≡◌, ℕ, suc, ◌+◌, arith, ◌≤◌, ◌<◌, ◌||◌, Bool, true, false, cond, List, [], ◌∷◌, ◌++◌, Option, Some, None, Ok, Err, refl, sym}
use Rattle.std.proofs.Common.{subst, ◌∙◌}
use Rattle.std.proofs.lemmas.Bool.{le-leb, lt-leb}
use Rattle.std.specs.Prelude.{nat_le}
use Rattle.cyc_lexer.specs.declared.token.TokenKind.{TokenKind}
use Rattle.cyc_tree.specs.Depths.{Start, start, first_deeper}
use Rattle.cyc_parser.specs.declared.fault.ParseFault.TheVariants.{TooDeep}
use Rattle.source_grammar.specs.Phrases.{Tokens}
use Rattle.cyc_parser.specs.Reader.{Outcome, read, many, choose, next_is}
use Rattle.cyc_parser.specs.Exact.{Stops, Exact, Anything, Rows}
use Rattle.cyc_parser.proofs.exactness.Choice.{choose_first, choose_second}
use Rattle.cyc_parser.proofs.exactness.Lists.{next, rows_stop, rows_end}
use Rattle.cyc_parser.proofs.Many.{many_more}

-- read so; or refused, since a token at the place is too deep
abbrev pub Goes : {A : Type 0} → Outcome A → A → Tokens → Option ℕ → Type 0
Goes outcome a to None = outcome ≡ Ok (a, to)
Goes outcome a to (Some at) = outcome ≡ Err (TooDeep at)

-- the first place, or else the other one
abbrev pub or_else : Option ℕ → Option ℕ → Option ℕ
or_else None d = d
or_else (Some at) d = Some at

-- ---- places

pub none_else : (d : Option ℕ) → or_else d None ≡ d
none_else None = refl
none_else (Some at) = refl

pub else_else : (a b c : Option ℕ) → or_else (or_else a b) c ≡ or_else a (or_else b c)
else_else None b c = refl
else_else (Some at) b c = refl

deeper_if : (limit : ℕ) (s : Start) (b : Bool) (xs ys : List Start)
    → first_deeper limit (xs ++ ys) ≡ or_else (first_deeper limit xs) (first_deeper limit ys)
    → cond b (first_deeper limit (xs ++ ys)) (Some s.at) ≡ or_else (cond b (first_deeper limit xs) (Some s.at)) (first_deeper limit ys)
deeper_if limit s true xs ys h = h
deeper_if limit s false xs ys h = refl

pub deeper_both : (limit : ℕ) (xs ys : List Start) → first_deeper limit (xs ++ ys) ≡ or_else (first_deeper limit xs) (first_deeper limit ys)
deeper_both limit [] ys = refl
deeper_both limit (s ∷ xs) ys = deeper_if limit s (nat_le s.depth limit) xs ys (deeper_both limit xs ys)

-- a phrase that isn't too deep itself
pub deeper_behind : (limit at depth : ℕ) (others : List Start) → depth ≤ limit → first_deeper limit (start at depth ∷ others) ≡ first_deeper limit others
deeper_behind limit at depth others h = rw (le-leb depth limit h) refl

-- the same of a phrase that stands in n others, where another one may nest
pub own_start : (limit n m : ℕ) → n + suc m ≡ limit → (at : ℕ) (others : List Start)
    → first_deeper limit (start at (n + 1) ∷ others) ≡ first_deeper limit others
own_start limit n m same at others = deeper_behind limit at (n + 1) others (omega (arith, same))

-- and one that is
pub deeper_here : (limit at depth : ℕ) (others : List Start) → limit < depth → first_deeper limit (start at depth ∷ others) ≡ Some at
deeper_here limit at depth others h = rw (lt-leb depth limit h) refl

-- ---- steps

pub goes_as : {A : Type 0} (r : Outcome A) (a : A) (to : Tokens) (d e : Option ℕ) → d ≡ e → Goes r a to d → Goes r a to e
goes_as r a to d e same g = subst (Goes r a to) same g

-- the same answer
pub goes_same : {A : Type 0} (r s : Outcome A) (a : A) (to : Tokens) (d : Option ℕ) → r ≡ s → Goes s a to d → Goes r a to d
goes_same {A} r s a to d same g = subst (λ (x : Outcome A). Goes x a to d) (sym same) g

-- one phrase, and then another
pub goes_then : {A B : Type 0} (p : Tokens → Outcome A) (q : A → Tokens → Outcome B) (from : Tokens) (a : A) (mid : Tokens) (c : B) (to : Tokens)
    (d e : Option ℕ)
    → Goes (p from) a mid d → Goes (q a mid) c to e → Goes (read p q from) c to (or_else d e)
goes_then p q from a mid c to None e g h = goes_same (read p q from) (q a mid) c to e (rw g refl) h
goes_then p q from a mid c to (Some at) e g h = rw g refl

-- a phrase in which nothing is too deep, and then another
pub goes_behind : {A B : Type 0} (p : Tokens → Outcome A) (q : A → Tokens → Outcome B) (from : Tokens) (a : A) (mid : Tokens) (c : B) (to : Tokens)
    (d : Option ℕ)
    → p from ≡ Ok (a, mid) → Goes (q a mid) c to d → Goes (read p q from) c to d
goes_behind p q from a mid c to d g h = goes_then p q from a mid c to None d g h

-- a phrase, behind which nothing is too deep
pub goes_before : {A B : Type 0} (p : Tokens → Outcome A) (q : A → Tokens → Outcome B) (from : Tokens) (a : A) (mid : Tokens) (c : B) (to : Tokens)
    (d : Option ℕ)
    → Goes (p from) a mid d → q a mid ≡ Ok (c, to) → Goes (read p q from) c to d
goes_before p q from a mid c to d g h = subst (Goes (read p q from) c to) (none_else d) (goes_then p q from a mid c to d None g h)

-- the one or the other, by the next token
pub goes_first : {A : Type 0} (test : TokenKind → Bool) (p q : Tokens → Outcome A) (from : Tokens) (a : A) (to : Tokens) (d : Option ℕ)
    → next_is test from ≡ true → Goes (p from) a to d → Goes (choose test p q from) a to d
goes_first test p q from a to d h g = goes_same (choose test p q from) (p from) a to d (choose_first test p q from h) g

pub goes_second : {A : Type 0} (test : TokenKind → Bool) (p q : Tokens → Outcome A) (from : Tokens) (a : A) (to : Tokens) (d : Option ℕ)
    → next_is test from ≡ false → Goes (q from) a to d → Goes (choose test p q from) a to d
goes_second test p q from a to d h g = goes_same (choose test p q from) (q from) a to d (choose_second test p q from h) g

-- ---- lists

-- the first place of some phrases
abbrev pub first_of : {A : Type 0} → (A → Option ℕ) → List A → Option ℕ
first_of deep [] = None
first_of deep (x ∷ xs) = or_else (deep x) (first_of deep xs)

module _ {A : Type 0} (test : TokenKind → Bool) (Is : Bool → A → Tokens → Tokens → Type 0) (goes_on : A → TokenKind → Bool) (p : Tokens → Outcome A)
    (each : Exact Anything Is goes_on p)
    (begins : (b : Bool) (a : A) (from to : Tokens) → Is b a from to → next_is test from ≡ true)
    (apart : (a : A) (k : TokenKind) → test k ≡ true → goes_on a k ≡ false)
    (any : TokenKind → Bool) (within : (a : A) (k : TokenKind) → goes_on a k ≡ true → any k ≡ true)
    (deep : A → Option ℕ) (goes : (a : A) (from to : Tokens) → Is false a from to → Stops (goes_on a) to → Goes (p from) a to (deep a)) where
  goes_next : (a : A) (all : List A) (from mid to : Tokens) (d e : Option ℕ) → next_is test from ≡ true → Goes (p from) a mid d
      → Goes (many test p mid) all to e
      → Goes (many test p from) (a ∷ all) to (or_else d e)
  goes_next a all from mid to None None passes g h = next test Is goes_on p each begins apart any within from a mid g ∙ rw h refl
  goes_next a all from mid to None (Some at) passes g h = next test Is goes_on p each begins apart any within from a mid g ∙ rw h refl
  goes_next a all from mid to (Some at) e passes g h = many_more test p from passes ∙ rw g refl

  -- phrases as long as the next token passes
  pub many_goes : (all : List A) (from to : Tokens) → Rows Is false all from to → Stops (λ k. test k || any k) to
      → Goes (many test p from) all to (first_of deep all)
  many_goes [] from to is stops = rows_end test Is goes_on p each begins apart any within from to is stops
  many_goes (a ∷ all) from to is stops =
      goes_next a all from is.0 to (deep a) (first_of deep all) (begins false a from is.0 is.1)
      (goes a from is.0 is.1 (rows_stop test Is goes_on p each begins apart any within false a all is.0 to is.2 stops))
      (many_goes all is.0 to is.2 stops)
