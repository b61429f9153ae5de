-- Readers of primary expressions that are no names, and of arguments, are exact.
use Rattle.std.proofs.Common.{◌≡◌, ℕ, Bool, true, false, List, [], ◌∷◌, refl, sym, ap, subst, ◌∙◌, inl, inr}
use Rattle.cyc_lexer.specs.Lexing.{Token}
use Rattle.cyc_lexer.specs.declared.token.Keyword.{Keyword}
use Rattle.cyc_lexer.specs.declared.token.Keyword.TheVariants as word
use Rattle.cyc_lexer.specs.declared.token.Sign.{Sign}
use Rattle.cyc_lexer.specs.declared.token.Sign.TheVariants as sign_of
use Rattle.cyc_lexer.specs.declared.token.TokenKind.{TokenKind}
use Rattle.cyc_lexer.specs.declared.token.TokenKind.TheVariants as kind
use Rattle.cyc_tree.specs.Tree.{Expression, Number, Character, Text, Null, HeapRegion, UniqueRegion, NumElts, Grouped}
use Rattle.source_grammar.specs.Phrases.{Tokens, IsOne, IsString, KeywordAt, SignAt}
use Rattle.cyc_parser.specs.Tests.{continues, is_sign, is_keyword, is_literal}
use Rattle.cyc_parser.specs.Reader.{Outcome, done, read, token, sign, keyword, next_is}
use Rattle.cyc_parser.specs.ReadExpressions.{literal, literal_of, parenthesized_by, grouped_by, primary_by}
use Rattle.cyc_parser.specs.Exact.{nowhere, Exact, Anything, Whole, Then, Either, IsToken, ends, always}
use Rattle.cyc_parser.proofs.Exact.{token_exact, made_exact, exact_as}
use Rattle.cyc_parser.proofs.exactness.Types.{sign_exact, keyword_exact}
use Rattle.cyc_parser.proofs.exactness.Composed.{then_exact, meets_exact, either_exact, begins_with, begins_stops}
use Rattle.cyc_parser.proofs.exactness.Operands.{IsExpressionAt, IsParenthesizedAt, Made, made_of, closed_exact}

-- ---- literals

abbrev pub IsLiteral : Bool → Expression → Tokens → Tokens → Type 0
IsLiteral b (Number at value suffix) from to = IsOne (kind.Number value suffix) at from to
IsLiteral b (Character at byte) from to = IsOne (kind.Character byte) at from to
IsLiteral b (Text at bytes) from to = IsString at bytes from to
IsLiteral b (Null at) from to = KeywordAt word.Null at from to
IsLiteral b (HeapRegion at) from to = KeywordAt word.HeapRegion at from to
IsLiteral b (UniqueRegion at) from to = KeywordAt word.UniqueRegion at from to
IsLiteral b _ from to = ⊥

literal_word : (b : Bool) (w : Keyword) (at : ℕ) (text : List ℕ) (from to : Tokens)
    → from ≡ record { kind = kind.Keyword w; at = at; text = text } ∷ to
    → is_literal (kind.Keyword w) ≡ true → IsLiteral b (literal_of (record { kind = kind.Keyword w; at = at; text = text }) (kind.Keyword w)) from to
literal_word b word.Null at text from to h l = (text, h)
literal_word b word.HeapRegion at text from to h l = (text, h)
literal_word b word.UniqueRegion at text from to h l = (text, h)
literal_word b _ at text from to h l = absurd cc

literal_kind : (b : Bool) (k : TokenKind) (at : ℕ) (text : List ℕ) (from to : Tokens) → from ≡ record { kind = k; at = at; text = text } ∷ to
    → is_literal k ≡ true → IsLiteral b (literal_of (record { kind = k; at = at; text = text }) k) from to
literal_kind b (kind.Number value suffix) at text from to h l = (text, h)
literal_kind b (kind.Character byte) at text from to h l = (text, h)
literal_kind b kind.Text at text from to h l = (text, h, refl)
literal_kind b (kind.Keyword w) at text from to h l = literal_word b w at text from to h l
literal_kind b _ at text from to h l = absurd cc

literal_back : (b : Bool) (e : Expression) (from to : Tokens) → IsLiteral b e from to
    → (t : Token) × (e ≡ literal_of t t.kind) × IsToken is_literal b t from to
literal_back b (Number at value suffix) from to h = (record { kind = kind.Number value suffix; at = at; text = h.0 }, refl, (h.1, refl))
literal_back b (Character at byte) from to h = (record { kind = kind.Character byte; at = at; text = h.0 }, refl, (h.1, refl))
literal_back b (Text at bytes) from to h = (record { kind = kind.Text; at = at; text = h.0 }, ap (Text at) h.2, (h.1, refl))
literal_back b (Null at) from to h = (record { kind = kind.Keyword word.Null; at = at; text = h.0 }, refl, (h.1, refl))
literal_back b (HeapRegion at) from to h = (record { kind = kind.Keyword word.HeapRegion; at = at; text = h.0 }, refl, (h.1, refl))
literal_back b (UniqueRegion at) from to h = (record { kind = kind.Keyword word.UniqueRegion; at = at; text = h.0 }, refl, (h.1, refl))
literal_back b _ from to h = absurd h

pub literal_begins : (b : Bool) (e : Expression) (from to : Tokens) → IsLiteral b e from to → next_is is_literal from ≡ true
literal_begins b e from to h = let r = literal_back b e from to h in begins_with is_literal from r.0 to r.2.0 r.2.1

pub literal_exact : Exact Anything IsLiteral ends literal
unfolding literal
literal_exact =
    made_exact Anything (IsToken is_literal) ends (token is_literal)
    (token_exact is_literal (record { kind = kind.Text; at = nowhere; text = [] }) refl refl) (λ t. literal_of t t.kind) ends (λ t k h. h) IsLiteral
    (λ b t from to h. literal_kind b t.kind t.at t.text from to h.0 h.1) literal_back

-- ---- an expression between two signs

module _ (d : ℕ) (expr : Tokens → Outcome Expression) (inner : Exact Anything (IsExpressionAt d) (always (continues 0)) expr) where
  abbrev pub Enclosed : {B : Type 0} → Sign → (Expression → B) → Bool → B → Tokens → Tokens → Type 0
  Enclosed s f = Then (IsExpressionAt d) (λ (e : Expression). Made (λ (at : ℕ). f e) (Whole (SignAt s)))

  -- an expression, and a sign behind it
  pub enclosed_exact : {B : Type 0} (s : Sign) (f : Expression → B) → continues 0 (kind.Sign s) ≡ false
      → Exact Anything (Enclosed s f) ends (read expr (λ e. read (sign s) (λ _. done (f e))))
  enclosed_exact s f apart =
      meets_exact (IsExpressionAt d) (always (continues 0)) expr inner (λ (e : Expression). Made (λ (at : ℕ). f e) (Whole (SignAt s))) ends
      (λ e. read (sign s) (λ _. done (f e))) (λ e. closed_exact s (f e))
      (λ b e c mid to h g. ap (next_is (continues 0)) h.2.1 ∙ apart)

  abbrev pub Between : {B : Type 0} → (first last : Sign) → (ℕ → Expression → B) → Bool → B → Tokens → Tokens → Type 0
  Between first last f = Then (Whole (SignAt first)) (λ (at : ℕ). Enclosed last (f at))

  pub between_exact : {B : Type 0} (first last : Sign) (f : ℕ → Expression → B) → continues 0 (kind.Sign last) ≡ false
      → Exact Anything (Between first last f) ends (read (sign first) (λ at. read expr (λ e. read (sign last) (λ _. done (f at e)))))
  between_exact first last f apart =
      then_exact (Whole (SignAt first)) (sign first) (sign_exact first) (λ (at : ℕ). Enclosed last (f at)) ends
      (λ at. read expr (λ e. read (sign last) (λ _. done (f at e)))) (λ at. enclosed_exact last (f at) apart)

  pub inside_exact : Exact Anything (IsParenthesizedAt d) ends (parenthesized_by expr)
  unfolding parenthesized_by
  inside_exact =
      exact_as Anything (Between sign_of.LeftParenthesis sign_of.RightParenthesis (λ at e. e)) ends _
      (between_exact sign_of.LeftParenthesis sign_of.RightParenthesis (λ at e. e) refl) (IsParenthesizedAt d)
      (λ b e from to h. subst (λ y. IsParenthesizedAt d b y from to) (sym h.3.3.1)
      ((h.1, h.3.1, (h.0, h.2), h.3.2.0, (h.3.3.0, h.3.3.2)), h.3.2.1))
      (λ b e from to h. let p = h.0 in (p.2.0, p.0, p.2.1, (e, p.1, (p.3, h.1), (p.4.0, refl, p.4.1))))

  pub inside_begins : (b : Bool) (e : Expression) (from to : Tokens) → IsParenthesizedAt d b e from to
      → next_is (is_sign sign_of.LeftParenthesis) from ≡ true
  inside_begins b e from to h = begins_with (is_sign sign_of.LeftParenthesis) from _ _ h.0.2.1.1 refl

  -- ---- primary expressions that are no names

  abbrev pub GroupedRead : Bool → Expression → Tokens → Tokens → Type 0
  GroupedRead = Between sign_of.LeftParenthesis sign_of.RightParenthesis Grouped

  abbrev pub NumEltsRead : Bool → Expression → Tokens → Tokens → Type 0
  NumEltsRead = Then (Whole (KeywordAt word.Numelts)) (λ (at : ℕ). Made (NumElts at) (IsParenthesizedAt d))

  abbrev pub PrimaryRead : Bool → Expression → Tokens → Tokens → Type 0
  PrimaryRead = Either GroupedRead (Either NumEltsRead IsLiteral)

  grouped_exact : Exact Anything GroupedRead ends (grouped_by expr)
  unfolding grouped_by
  grouped_exact = between_exact sign_of.LeftParenthesis sign_of.RightParenthesis Grouped refl

  numelts_exact : Exact Anything NumEltsRead ends (read (keyword word.Numelts) (λ at. read (parenthesized_by expr) (λ e. done (NumElts at e))))
  numelts_exact =
      then_exact (Whole (KeywordAt word.Numelts)) (keyword word.Numelts) (keyword_exact word.Numelts)
      (λ (at : ℕ). Made (NumElts at) (IsParenthesizedAt d)) ends
      (λ at. read (parenthesized_by expr) (λ e. done (NumElts at e)))
      (λ at. made_of (IsParenthesizedAt d) ends (parenthesized_by expr) inside_exact (NumElts at) ends (λ e k h. h))

  numelts_begins : (b : Bool) (e : Expression) (from to : Tokens) → NumEltsRead b e from to → next_is (is_keyword word.Numelts) from ≡ true
  numelts_begins b e from to h = begins_with (is_keyword word.Numelts) from _ _ h.2.1 refl

  -- where such a primary begins, this test fails
  pub primary_stops : (test : TokenKind → Bool) → test (kind.Sign sign_of.LeftParenthesis) ≡ false → test (kind.Keyword word.Numelts) ≡ false
      → ((k : TokenKind) → is_literal k ≡ true → test k ≡ false)
      → (b : Bool) (e : Expression) (from to : Tokens) → PrimaryRead b e from to → next_is test from ≡ false
  primary_stops test left words literals b e from to (inl h) = ap (next_is test) h.2.1 ∙ left
  primary_stops test left words literals b e from to (inr (inl h)) = ap (next_is test) h.2.1 ∙ words
  primary_stops test left words literals b e from to (inr (inr h)) = begins_stops is_literal test literals from (literal_begins b e from to h)

  literal_no_word : (k : TokenKind) → is_literal k ≡ true → is_keyword word.Numelts k ≡ false
  literal_no_word (kind.Keyword word.Numelts) h = absurd cc
  literal_no_word _ h = refl

  literal_no_left : (k : TokenKind) → is_literal k ≡ true → is_sign sign_of.LeftParenthesis k ≡ false
  literal_no_left (kind.Sign sign_of.LeftParenthesis) h = absurd cc
  literal_no_left _ h = refl

  pub primary_exact : Exact Anything PrimaryRead ends (primary_by expr)
  unfolding primary_by
  primary_exact =
      either_exact (is_sign sign_of.LeftParenthesis) ends GroupedRead (grouped_by expr) grouped_exact
      (Either NumEltsRead IsLiteral) _
      (either_exact (is_keyword word.Numelts) ends NumEltsRead _ numelts_exact IsLiteral literal literal_exact numelts_begins
      (λ b e from to h g. begins_stops is_literal (is_keyword word.Numelts) literal_no_word from (literal_begins b e from to h)))
      (λ b e from to h. begins_with (is_sign sign_of.LeftParenthesis) from _ _ h.2.1 refl)
      (λ b e from to h g. elim h [
        | inl w ↦ ap (next_is (is_sign sign_of.LeftParenthesis)) w.2.1
        | inr w ↦ begins_stops is_literal (is_sign sign_of.LeftParenthesis) literal_no_left from (literal_begins b e from to w)
      ])
