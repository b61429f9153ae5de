-- Expressions within a nesting, operands of a level, and lists of them.
use Rattle.std.proofs.Common.{◌≡◌, ℕ, ◌+◌, max, ◌≤◌, ◌||◌, Bool, true, false, List, [], ◌∷◌, refl, sym, ap, subst, arith}
use Rattle.std.proofs.lemmas.Bool.{leb-true, le-leb, true≢false, lt-leb, eq-eqb}
use Rattle.cyc_lexer.specs.declared.token.Sign.{Sign}
use Rattle.cyc_lexer.specs.declared.token.TokenKind.{TokenKind}
use Rattle.cyc_tree.specs.Tree.{Expression, Expressions, NoExpressions, MoreExpressions}
use Rattle.cyc_tree.specs.View.{expressions_of}
use Rattle.cyc_tree.proofs.PartNesting.{inner_nesting, expression_nesting}
use Rattle.source_grammar.specs.Phrases.{Tokens, InParentheses, SignAt}
use Rattle.source_grammar.specs.ExpressionGrammar.{IsExpression, AreOperands, binds}
use Rattle.cyc_parser.specs.Tests.{continues, strength, is_sign, sign_number}
use Rattle.cyc_parser.specs.Reader.{Outcome, done, read, many, behind, sign, next_is}
use Rattle.cyc_parser.specs.Exact.{Exact, Anything, Stops, Within, Whole, Then, Rows, ends, always}
use Rattle.cyc_parser.proofs.Exact.{made_exact, many_exact}
use Rattle.cyc_parser.proofs.exactness.Types.{sign_exact}
pub use Rattle.cyc_parser.proofs.exactness.Composed.{Made}
use Rattle.cyc_parser.proofs.exactness.Composed.{stops_wider, begins_with, then_exact}
use Rattle.cyc_parser.proofs.exactness.Begins.{IsUnary}

-- an expression in which at most so many phrases nest (or any)
abbrev pub IsExpressionAt : ℕ → Bool → Expression → Tokens → Tokens → Type 0
IsExpressionAt d b e from to = IsExpression e from to × Within b d (expression_nesting e)

abbrev pub IsUnaryAt : ℕ → Bool → Expression → Tokens → Tokens → Type 0
IsUnaryAt d b e from to = IsUnary e from to × Within b d (inner_nesting e)

abbrev pub IsParenthesizedAt : ℕ → Bool → Expression → Tokens → Tokens → Type 0
IsParenthesizedAt d b e from to = InParentheses (IsExpression e) from to × Within b d (expression_nesting e)

-- an expression of this level or one that binds more
abbrev pub IsOperandAt : (least d : ℕ) → Bool → Expression → Tokens → Tokens → Type 0
IsOperandAt least d b e from to = (IsExpression e from to × (least ≤ binds e)) × Within b d (inner_nesting e)

-- ---- within a nesting

pub within : (b : Bool) (m n k l : ℕ) → (n ≤ m → l ≤ k) → Within b m n → Within b k l
within true m n k l h w = h w
within false m n k l h w = tt

pub within_both : (b : Bool) (m n m' n' k l : ℕ) → (n ≤ m → n' ≤ m' → l ≤ k) → Within b m n → Within b m' n' → Within b k l
within_both true m n m' n' k l h w v = h w v
within_both false m n m' n' k l h w v = tt

pub within_always : (b : Bool) (k l : ℕ) → l ≤ k → Within b k l
within_always true k l h = h
within_always false k l h = tt

-- ---- a value made from a phrase

-- where nothing goes on
pub made_of : {A B : Type 0} (Is : Bool → A → Tokens → Tokens → Type 0) (goes_on : A → TokenKind → Bool) (p : Tokens → Outcome A)
    → Exact Anything Is goes_on p → (f : A → B)
    → (then_on : B → TokenKind → Bool) → ((a : A) (k : TokenKind) → goes_on a k ≡ true → then_on (f a) k ≡ true)
    → Exact Anything (Made f Is) then_on (read p (λ a. done (f a)))
made_of Is goes_on p each f then_on wider =
    made_exact Anything Is goes_on p each f then_on wider (Made f Is) (λ b a from to h. (a, refl, h)) (λ b c from to h. h)

pub never_on : {X : Type 0} → false ≡ true → X
never_on h = absurd (true≢false (sym h))

-- a sign that ends a phrase
pub closed_exact : {B : Type 0} (s : Sign) (x : B) → Exact Anything (Made (λ (at : ℕ). x) (Whole (SignAt s))) ends (read (sign s) (λ at. done x))
closed_exact s x = made_of (Whole (SignAt s)) ends (sign s) (sign_exact s) (λ (at : ℕ). x) ends (λ a k h. h)

-- ---- strengths

pub continues_from : (level : ℕ) (k : TokenKind) → continues level k ≡ true → level + 1 ≤ strength k
continues_from level k h = leb-true (level + 1) (strength k) h

pub continues_at : (level : ℕ) (k : TokenKind) → level + 1 ≤ strength k → continues level k ≡ true
continues_at level k h = le-leb (level + 1) (strength k) h

pub continues_not : (level : ℕ) (k : TokenKind) → strength k ≤ level → continues level k ≡ false
continues_not level k h = lt-leb (level + 1) (strength k) (omega (arith, h))

-- where a level goes on, so does a lower one
pub continues_wider : (higher level : ℕ) → level ≤ higher → (k : TokenKind) → continues higher k ≡ true → continues level k ≡ true
continues_wider higher level h k g = continues_at level k (omega (arith, h, continues_from higher k g))

-- ---- rows of phrases

-- behind such rows stands nothing that goes on with the phrase before them
pub rows_stop : {A : Type 0} (Is : Bool → A → Tokens → Tokens → Type 0) (test before after : TokenKind → Bool)
    → ((b : Bool) (a : A) (from to : Tokens) → Is b a from to → next_is test from ≡ true)
    → ((ts : Tokens) → next_is test ts ≡ true → Stops before ts) → ((k : TokenKind) → before k ≡ true → after k ≡ true)
    → (b : Bool) (xs : List A) (mid to : Tokens) → Rows Is b xs mid to → Stops after to → Stops before mid
rows_stop Is test before after begins apart wider b [] mid to h s = stops_wider before after wider mid (subst (Stops after) (sym h) s)
rows_stop Is test before after begins apart wider b (x ∷ xs) mid to h s = apart mid (begins b x mid h.0 h.1)

-- ---- operands behind a sign, where `nest` counts how deep one nests, and `nests` how deep all

module _ (s : Sign) (least : ℕ) (nest : Expression → ℕ) (nests : Expressions → ℕ) (none : nests NoExpressions ≡ 0)
    (more : (e : Expression) (es : Expressions) → nests (MoreExpressions e es) ≡ max (nest e) (nests es)) (d : ℕ) where
  abbrev pub IsNested : Bool → Expression → Tokens → Tokens → Type 0
  IsNested b e from to = (IsExpression e from to × (least ≤ binds e)) × Within b d (nest e)

  abbrev pub IsBehind : Bool → Expression → Tokens → Tokens → Type 0
  IsBehind = Then (Whole (SignAt s)) (λ (at : ℕ). IsNested)

  pub rows_into : (b : Bool) (es : List Expression) (from to : Tokens) → Rows IsBehind b es from to
      → AreOperands s least (expressions_of es) from to × Within b d (nests (expressions_of es))
  rows_into b [] from to h = (h, within_always b d (nests NoExpressions) (omega (arith, none)))
  rows_into b (e ∷ es) from to h =
      let others = rows_into b es h.0 to h.2 in
      let e_is = h.1.3 in (
        (h.1.1, h.0, e_is.0.1, (h.1.0, h.1.2), e_is.0.0, others.0),
        within_both b d (nest e) d (nests (expressions_of es)) d (nests (MoreExpressions e (expressions_of es)))
            (λ g f. omega (arith, g, f, more e (expressions_of es)))
            e_is.1 others.1,
      )

  pub rows_back : (b : Bool) (es : Expressions) (from to : Tokens) → AreOperands s least es from to → Within b d (nests es)
      → (xs : List Expression) × (es ≡ expressions_of xs) × Rows IsBehind b xs from to
  rows_back b NoExpressions from to h w = ([], refl, h)
  rows_back b (MoreExpressions e es) from to h w =
      let others = rows_back b es h.1 to h.5 (within b d (nests (MoreExpressions e es)) d (nests es) (λ g. omega (arith, g, more e es)) w) in (
        e ∷ others.0,
        ap (MoreExpressions e) others.1,
        (h.1, (h.3.0, h.0, h.3.1, ((h.4, h.2), within b d (nests (MoreExpressions e es)) d (nest e) (λ g. omega (arith, g, more e es)) w)), others.2),
      )

  pub behind_begins : (b : Bool) (e : Expression) (from to : Tokens) → IsBehind b e from to → next_is (is_sign s) from ≡ true
  behind_begins b e from to h = begins_with (is_sign s) from _ _ h.2.1 (eq-eqb (sign_number s) (sign_number s) refl)

  pub behind_exact : (goes_on : TokenKind → Bool) (p : Tokens → Outcome Expression) → Exact Anything IsNested (always goes_on) p
      → Exact Anything IsBehind (always goes_on) (behind s p)
  behind_exact goes_on p each =
      then_exact (Whole (SignAt s)) (sign s) (sign_exact s) (λ (at : ℕ). IsNested) (always goes_on) (λ (at : ℕ). p) (λ at. each)

  pub rows_exact : (goes_on : TokenKind → Bool) (p : Tokens → Outcome Expression) → Exact Anything IsNested (always goes_on) p
      → ((k : TokenKind) → is_sign s k ≡ true → goes_on k ≡ false)
      → Exact Anything (Rows IsBehind) (always (λ k. is_sign s k || goes_on k)) (many (is_sign s) (behind s p))
  rows_exact goes_on p each apart =
      many_exact (is_sign s) IsBehind (always goes_on) (behind s p) (behind_exact goes_on p each) behind_begins (λ e. apart) goes_on (λ e k h. h)
