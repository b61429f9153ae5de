-- The readers of expressions with commas between them, and of arguments, are exact.
use Rattle.std.proofs.Common.{◌≡◌, ℕ, max, ◌||◌, Bool, true, false, List, [], ◌∷◌, refl, sym, ap, subst, ◌∙◌, arith, inl, inr}
use Rattle.std.proofs.lemmas.Bool.{or_right}
use Rattle.cyc_lexer.specs.declared.token.Sign.TheVariants as sign_of
use Rattle.cyc_lexer.specs.declared.token.TokenKind.{TokenKind}
use Rattle.cyc_lexer.specs.declared.token.TokenKind.TheVariants as kind
use Rattle.cyc_tree.specs.Tree.{Expression, Expressions, NoExpressions, MoreExpressions}
use Rattle.cyc_tree.specs.View.{expressions_of}
use Rattle.cyc_tree.proofs.PartNesting.{argument_nesting, expression_nesting}
use Rattle.source_grammar.specs.Phrases.{Tokens, SignAt, IsSign}
use Rattle.source_grammar.specs.ExpressionGrammar.{AreArguments}
use Rattle.cyc_parser.specs.Tests.{continues, is_sign, begins_unary}
use Rattle.cyc_parser.specs.Reader.{Outcome, done, read, many, behind, listed, sign, next_is}
use Rattle.cyc_parser.specs.ReadExpressions.{arguments_by}
use Rattle.cyc_parser.specs.Exact.{Exact, Anything, Within, Whole, Then, Either, Rows, ends, always}
use Rattle.cyc_parser.proofs.Exact.{exact_as}
use Rattle.cyc_parser.proofs.exactness.Types.{sign_exact}
use Rattle.cyc_parser.proofs.exactness.Composed.{then_exact, meets_exact, either_exact, begins_with, begins_stops}
use Rattle.cyc_parser.proofs.exactness.Begins.{expression_begins}
use Rattle.cyc_parser.proofs.exactness.Operands.{IsExpressionAt, Made, made_of, closed_exact, within_always, within_both, within, rows_stop, IsNested}
use Rattle.cyc_parser.proofs.exactness.Operands.{IsBehind, rows_into, rows_back, rows_exact, behind_begins}

pub comma_apart : (k : TokenKind) → is_sign sign_of.Comma k ≡ true → continues 0 k ≡ false
comma_apart (kind.Sign sign_of.Comma) h = refl
comma_apart _ h = absurd cc

unary_no_right : (k : TokenKind) → begins_unary k ≡ true → is_sign sign_of.RightParenthesis k ≡ false
unary_no_right (kind.Sign sign_of.RightParenthesis) h = absurd cc
unary_no_right _ h = refl

-- what goes on with a list of expressions
abbrev pub comma_or : TokenKind → Bool
comma_or k = is_sign sign_of.Comma k || continues 0 k

module _ (d : ℕ) (expr : Tokens → Outcome Expression) (inner : Exact Anything (IsExpressionAt d) (always (continues 0)) expr) where
  abbrev IsArgument : Bool → Expression → Tokens → Tokens → Type 0
  IsArgument = IsNested sign_of.Comma 0 expression_nesting argument_nesting refl (λ e es. refl) d

  abbrev IsOther : Bool → Expression → Tokens → Tokens → Type 0
  IsOther = IsBehind sign_of.Comma 0 expression_nesting argument_nesting refl (λ e es. refl) d

  pub argument_exact : Exact Anything IsArgument (always (continues 0)) expr
  argument_exact =
      exact_as Anything (IsExpressionAt d) (always (continues 0)) expr inner IsArgument (λ b e from to h. ((h.0, omega arith), h.1))
      (λ b e from to h. (h.0.0, h.1))

  others_exact : Exact Anything (Rows IsOther) (always comma_or) (many (is_sign sign_of.Comma) (behind sign_of.Comma expr))
  others_exact = rows_exact sign_of.Comma 0 expression_nesting argument_nesting refl (λ e es. refl) d (continues 0) expr argument_exact comma_apart

  abbrev ListedRead : Bool → List Expression → Tokens → Tokens → Type 0
  ListedRead = Then IsArgument (λ (e : Expression). Made (λ es. e ∷ es) (Rows IsOther))

  listed_exact : Exact Anything ListedRead (always comma_or) (listed expr)
  listed_exact =
      meets_exact IsArgument (always (continues 0)) expr argument_exact (λ (e : Expression). Made (λ es. e ∷ es) (Rows IsOther)) (always comma_or)
      (λ e. read (many (is_sign sign_of.Comma) (behind sign_of.Comma expr)) (λ es. done (e ∷ es)))
      (λ e. made_of (Rows IsOther) (always comma_or) (many (is_sign sign_of.Comma) (behind sign_of.Comma expr)) others_exact (λ es. e ∷ es)
      (always comma_or) (λ es k h. h))
      (λ b e es mid to h g. rows_stop IsOther (is_sign sign_of.Comma) (continues 0) comma_or
      (behind_begins sign_of.Comma 0 expression_nesting argument_nesting refl (λ e es. refl) d)
      (begins_stops (is_sign sign_of.Comma) (continues 0) comma_apart) (λ k w. or_right (is_sign sign_of.Comma k) (continues 0 k) w) b h.0 mid to h.2
      g)

  abbrev pub ClosedRead : Bool → List Expression → Tokens → Tokens → Type 0
  ClosedRead = Then ListedRead (λ (es : List Expression). Made (λ (at : ℕ). es) (Whole (SignAt sign_of.RightParenthesis)))

  closed_list_exact : Exact Anything ClosedRead ends (read (listed expr) (λ es. read (sign sign_of.RightParenthesis) (λ _. done es)))
  closed_list_exact =
      meets_exact ListedRead (always comma_or) (listed expr) listed_exact
      (λ (es : List Expression). Made (λ (at : ℕ). es) (Whole (SignAt sign_of.RightParenthesis))) ends
      (λ es. read (sign sign_of.RightParenthesis) (λ _. done es)) (λ es. closed_exact sign_of.RightParenthesis es)
      (λ b es c mid to h g. ap (next_is comma_or) h.2.1)

  abbrev pub NoneRead : Bool → List Expression → Tokens → Tokens → Type 0
  NoneRead = Made (λ (at : ℕ). []) (Whole (SignAt sign_of.RightParenthesis))

  abbrev pub ArgumentsRead : Bool → List Expression → Tokens → Tokens → Type 0
  ArgumentsRead = Then (Whole (SignAt sign_of.LeftParenthesis)) (λ (at : ℕ). Either NoneRead ClosedRead)

  pub closed_stops : (b : Bool) (es : List Expression) (from to : Tokens) → ClosedRead b es from to
      → next_is (is_sign sign_of.RightParenthesis) from ≡ false
  closed_stops b es from to h =
      let first = h.2 in
      begins_stops begins_unary (is_sign sign_of.RightParenthesis) unary_no_right from (expression_begins first.0 from first.1 first.2.0.0)

  pub arguments_exact : Exact Anything ArgumentsRead ends (arguments_by expr)
  unfolding arguments_by
  arguments_exact =
      then_exact (Whole (SignAt sign_of.LeftParenthesis)) (sign sign_of.LeftParenthesis) (sign_exact sign_of.LeftParenthesis)
      (λ (at : ℕ). Either NoneRead ClosedRead) ends _
      (λ at. either_exact (is_sign sign_of.RightParenthesis) ends NoneRead _ (closed_exact sign_of.RightParenthesis [])
      ClosedRead _ closed_list_exact
      (λ b es from to h. begins_with (is_sign sign_of.RightParenthesis) from _ _ h.2.1 refl) (λ b es from to h g. closed_stops b es from to h))

  pub arguments_begin : (b : Bool) (es : List Expression) (from to : Tokens) → ArgumentsRead b es from to
      → next_is (is_sign sign_of.LeftParenthesis) from ≡ true
  arguments_begin b es from to h = begins_with (is_sign sign_of.LeftParenthesis) from _ _ h.2.1 refl

  -- ---- in the grammar's words

  abbrev pub AreArgumentsAt : Bool → Expressions → Tokens → Tokens → Type 0
  AreArgumentsAt b es from to = (a : Tokens) × IsSign sign_of.LeftParenthesis from a × AreArguments es a to × Within b d (argument_nesting es)

  listed_into : (b : Bool) (e : Expression) (es all : List Expression) (from mid last to : Tokens) → IsArgument b e from mid
      → Rows IsOther b es mid last
      → IsSign sign_of.RightParenthesis last to → all ≡ e ∷ es
      → AreArguments (expressions_of all) from to × Within b d (argument_nesting (expressions_of all))
  listed_into b e es all from mid last to first others closing same =
      let r = rows_into sign_of.Comma 0 expression_nesting argument_nesting refl (λ e es. refl) d b es mid last others in
      subst (λ y. AreArguments (expressions_of y) from to × Within b d (argument_nesting (expressions_of y))) (sym same) (
        (mid, last, first.0.0, r.0, closing),
        within_both b d (expression_nesting e) d (argument_nesting (expressions_of es)) d
            (max (expression_nesting e) (argument_nesting (expressions_of es)))
            (λ k l. omega (arith, k, l)) first.1 r.1,
      )

  inside_into : (b : Bool) (es : List Expression) (from to : Tokens) → Either NoneRead ClosedRead b es from to
      → AreArguments (expressions_of es) from to × Within b d (argument_nesting (expressions_of es))
  inside_into b es from to (inl h) =
      subst (λ y. AreArguments (expressions_of y) from to × Within b d (argument_nesting (expressions_of y))) (sym h.1)
      ((h.0, h.2), within_always b d 0 (omega arith))
  inside_into b es from to (inr h) =
      let l = h.2 in
      listed_into b l.0 l.3.0 es from l.1 h.1 to l.2 l.3.2 (h.3.0, h.3.2) (h.3.1 ∙ l.3.1)

  pub arguments_into : (b : Bool) (es : List Expression) (from to : Tokens) → ArgumentsRead b es from to
      → AreArgumentsAt b (expressions_of es) from to
  arguments_into b es from to h = let r = inside_into b es h.1 to h.3 in (h.1, (h.0, h.2), r.0, r.1)

  pub arguments_back : (b : Bool) (es : Expressions) (from to : Tokens) → AreArgumentsAt b es from to
      → (xs : List Expression) × (es ≡ expressions_of xs) × ArgumentsRead b xs from to
  arguments_back b NoExpressions from to h = ([], refl, (h.1.0, h.0, h.1.1, inl (h.2.0, refl, h.2.1)))
  arguments_back b (MoreExpressions e es) from to h =
      let all = max (expression_nesting e) (argument_nesting es) in
      let p = h.2 in
      let r = rows_back sign_of.Comma 0 expression_nesting argument_nesting refl (λ e es. refl) d b es p.0 p.1 p.3
      (within b d all d (argument_nesting es) (λ g. omega (arith, g)) h.3) in (
        e ∷ r.0,
        ap (MoreExpressions e) r.1,
        (
          h.1.0,
          h.0,
          h.1.1,
          inr (
            e ∷ r.0,
            p.1,
            (e, p.0, ((p.2, omega arith), within b d all d (expression_nesting e) (λ g. omega (arith, g)) h.3), (r.0, refl, r.2)),
            (p.4.0, refl, p.4.1),
          ),
        ),
      )
