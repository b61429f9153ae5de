-- What the readers of expressions between two signs and of arguments answer: the tree, or the place of the first token that is too deep.
use Rattle.std.proofs.Common.{◌≡◌, ℕ, suc, ◌+◌, Bool, true, false, List, [], ◌∷◌, Option, refl, sym, ap, subst, ◌∙◌, inl, inr}
use Rattle.std.proofs.lemmas.Bool.{or_right}
use Rattle.cyc_lexer.specs.declared.token.Sign.{Sign}
use Rattle.cyc_lexer.specs.declared.token.Sign.TheVariants as sign_of
use Rattle.cyc_lexer.specs.declared.token.TokenKind.TheVariants as kind
use Rattle.cyc_tree.specs.Tree.{Expression}
use Rattle.cyc_tree.specs.View.{expressions_of}
use Rattle.cyc_tree.proofs.PartNesting.{argument_nesting, expression_nesting}
use Rattle.cyc_tree.specs.Depths.{first_deeper, expression_starts, argument_starts}
use Rattle.source_grammar.specs.Phrases.{Tokens, IsSign, InParentheses}
use Rattle.source_grammar.specs.ExpressionGrammar.{IsExpression}
use Rattle.cyc_parser.specs.Tests.{continues, is_sign}
use Rattle.cyc_parser.specs.Reader.{Outcome, done, read, choose, many, behind, listed, sign, next_is}
use Rattle.cyc_parser.specs.ReadExpressions.{parenthesized_by, arguments_by, expression_at}
use Rattle.cyc_parser.specs.Exact.{Stops, Either, Rows, always}
use Rattle.cyc_parser.proofs.exactness.Composed.{stops_ends, begins_with, begins_stops}
use Rattle.cyc_parser.proofs.exactness.Operands.{IsBehind, behind_exact, behind_begins, closed_exact, rows_stop}
use Rattle.cyc_parser.proofs.exactness.Arguments.{comma_apart, comma_or, argument_exact, NoneRead, ClosedRead, closed_stops, ArgumentsRead}
use Rattle.cyc_parser.proofs.exactness.Expressions.{expression_exact}
use Rattle.cyc_parser.proofs.Goes.{Goes, first_of, or_else, deeper_both, goes_as, goes_before, goes_then, goes_first, goes_second, many_goes}
use Rattle.cyc_parser.proofs.going.Tokens.{sign_goes}

module _ (limit n m : ℕ) (same : n + suc m ≡ limit)
    (inner_goes : (e : Expression) (from to : Tokens) → IsExpression e from to → Stops (continues 0) to
    → Goes (expression_at m from) e to (first_deeper limit (expression_starts (n + 1) e))) where
  -- the first token of an expression in a unary one that is too deep
  abbrev deep : Expression → Option ℕ
  deep e = first_deeper limit (expression_starts (n + 1) e)

  -- ---- between two signs

  -- an expression, and a sign behind it
  pub enclosed_goes : {B : Type 0} (s : Sign) (f : Expression → B) → continues 0 (kind.Sign s) ≡ false → (e : Expression) (from mid to : Tokens)
      → IsExpression e from mid → IsSign s mid to
      → Goes (read (expression_at m) (λ e. read (sign s) (λ _. done (f e))) from) (f e) to (deep e)
  enclosed_goes s f apart e from mid to is closing =
      goes_before (expression_at m) (λ e. read (sign s) (λ _. done (f e))) from e mid (f e) to (deep e)
      (inner_goes e from mid is (ap (next_is (continues 0)) closing.1.1 ∙ apart))
      ((closed_exact s (f e)).again (f e) mid to (closing.0, refl, closing.1) (stops_ends (f e) to))

  -- an expression in parentheses
  pub parenthesized_goes : (e : Expression) (from to : Tokens) → InParentheses (IsExpression e) from to
      → Goes (parenthesized_by (expression_at m) from) e to (deep e)
  unfolding parenthesized_by
  parenthesized_goes e from to is =
      sign_goes sign_of.LeftParenthesis (λ _. read (expression_at m) (λ e. read (sign sign_of.RightParenthesis) (λ _. done e)))
      is.2.0 from is.0 to e (deep e) is.2.1 (enclosed_goes sign_of.RightParenthesis (λ e. e) refl e is.0 is.1 to is.3 is.4)

  -- ---- arguments

  -- the first too deep token of the first argument that has one
  arguments_deeper : (es : List Expression) → first_of deep es ≡ first_deeper limit (argument_starts (n + 1) (expressions_of es))
  arguments_deeper [] = refl
  arguments_deeper (e ∷ es) =
      ap (or_else (deep e)) (arguments_deeper es)
      ∙ sym (deeper_both limit (expression_starts (n + 1) e) (argument_starts (n + 1) (expressions_of es)))

  -- an argument behind a comma
  abbrev IsOther : Bool → Expression → Tokens → Tokens → Type 0
  IsOther = IsBehind sign_of.Comma 0 expression_nesting argument_nesting refl (λ e es. refl) m

  other_begins : (b : Bool) (e : Expression) (from to : Tokens) → IsOther b e from to → next_is (is_sign sign_of.Comma) from ≡ true
  other_begins = behind_begins sign_of.Comma 0 expression_nesting argument_nesting refl (λ e es. refl) m

  other_goes : (e : Expression) (from to : Tokens) → IsOther false e from to → Stops (continues 0) to
      → Goes (behind sign_of.Comma (expression_at m) from) e to (deep e)
  other_goes e from to is stops =
      sign_goes sign_of.Comma (λ at. expression_at m) is.0 from is.1 to e (deep e) is.2 (inner_goes e is.1 to is.3.0.0 stops)

  others_go : (es : List Expression) (from to : Tokens) → Rows IsOther false es from to → Stops comma_or to
      → Goes (many (is_sign sign_of.Comma) (behind sign_of.Comma (expression_at m)) from) es to (first_of deep es)
  others_go =
      many_goes (is_sign sign_of.Comma) IsOther (always (continues 0)) (behind sign_of.Comma (expression_at m))
      (behind_exact sign_of.Comma 0 expression_nesting argument_nesting refl (λ e es. refl) m (continues 0) (expression_at m)
      (argument_exact m (expression_at m) (expression_exact m)))
      other_begins (λ e. comma_apart) (continues 0) (λ e k h. h) deep other_goes

  -- an argument, and others behind it
  listed_go : (e : Expression) (es : List Expression) (from mid to : Tokens) → IsExpression e from mid → Rows IsOther false es mid to
      → Stops comma_or to → Goes (listed (expression_at m) from) (e ∷ es) to (first_of deep (e ∷ es))
  listed_go e es from mid to is others stops =
      goes_then (expression_at m) (λ x. read (many (is_sign sign_of.Comma) (behind sign_of.Comma (expression_at m))) (λ xs. done (x ∷ xs)))
      from e mid (e ∷ es) to (deep e) (first_of deep es)
      (inner_goes e from mid is
      (rows_stop IsOther (is_sign sign_of.Comma) (continues 0) comma_or other_begins (begins_stops (is_sign sign_of.Comma) (continues 0) comma_apart)
      (λ k w. or_right (is_sign sign_of.Comma k) (continues 0 k) w) false es mid to others stops))
      (goes_before (many (is_sign sign_of.Comma) (behind sign_of.Comma (expression_at m))) (λ xs. done (e ∷ xs)) mid es to (e ∷ es) to
      (first_of deep es) (others_go es mid to others stops) refl)

  -- what is read behind the left parenthesis, where there is an argument
  abbrev closed_by : Tokens → Outcome (List Expression)
  closed_by = read (listed (expression_at m)) (λ es. read (sign sign_of.RightParenthesis) (λ _. done es))

  -- with the right parenthesis behind them
  more_go : (e : Expression) (es : List Expression) (from mid last to : Tokens) → IsExpression e from mid → Rows IsOther false es mid last
      → IsSign sign_of.RightParenthesis last to → Goes (closed_by from) (e ∷ es) to (first_of deep (e ∷ es))
  more_go e es from mid last to is others closing =
      goes_before (listed (expression_at m)) (λ es. read (sign sign_of.RightParenthesis) (λ _. done es)) from (e ∷ es) last (e ∷ es) to
      (first_of deep (e ∷ es)) (listed_go e es from mid last is others (ap (next_is comma_or) closing.1.1))
      ((closed_exact sign_of.RightParenthesis (e ∷ es)).again (e ∷ es) last to (closing.0, refl, closing.1) (stops_ends (e ∷ es) to))

  closed_go : (es : List Expression) (from to : Tokens) → ClosedRead m (expression_at m) (expression_exact m) false es from to
      → Goes (closed_by from) es to (first_of deep es)
  closed_go es from to is =
      let all = is.2 in
      subst (λ (y : List Expression). Goes (closed_by from) y to (first_of deep y)) (sym (is.3.1 ∙ all.3.1))
      (more_go all.0 all.3.0 from all.1 is.1 to all.2.0.0 all.3.2 (is.3.0, is.3.2))

  -- where there is none
  none_goes : (es : List Expression) (from to : Tokens) → NoneRead m (expression_at m) (expression_exact m) false es from to
      → Goes (read (sign sign_of.RightParenthesis) (λ _. done []) from) es to (first_of deep es)
  none_goes es from to is =
      subst (λ (y : List Expression). Goes (read (sign sign_of.RightParenthesis) (λ _. done []) from) y to (first_of deep y)) (sym is.1)
      ((closed_exact sign_of.RightParenthesis []).again [] from to (is.0, refl, is.2) (stops_ends {A = List Expression} [] to))

  inside_go : (es : List Expression) (from to : Tokens)
      → Either (NoneRead m (expression_at m) (expression_exact m)) (ClosedRead m (expression_at m) (expression_exact m)) false es from to
      → Goes (choose (is_sign sign_of.RightParenthesis) (read (sign sign_of.RightParenthesis) (λ _. done [])) closed_by from) es to (first_of deep es)
  inside_go es from to (inl is) =
      goes_first (is_sign sign_of.RightParenthesis) (read (sign sign_of.RightParenthesis) (λ _. done [])) closed_by from es to (first_of deep es)
      (begins_with (is_sign sign_of.RightParenthesis) from _ _ is.2.1 refl) (none_goes es from to is)
  inside_go es from to (inr is) =
      goes_second (is_sign sign_of.RightParenthesis) (read (sign sign_of.RightParenthesis) (λ _. done [])) closed_by from es to (first_of deep es)
      (closed_stops m (expression_at m) (expression_exact m) false es from to is) (closed_go es from to is)

  -- with the left parenthesis before them
  pub arguments_go : (es : List Expression) (from to : Tokens) → ArgumentsRead m (expression_at m) (expression_exact m) false es from to
      → Goes (arguments_by (expression_at m) from) es to (first_deeper limit (argument_starts (n + 1) (expressions_of es)))
  unfolding arguments_by
  arguments_go es from to is =
      goes_as (arguments_by (expression_at m) from) es to (first_of deep es) (first_deeper limit (argument_starts (n + 1) (expressions_of es)))
      (arguments_deeper es)
      (sign_goes sign_of.LeftParenthesis
      (λ _. choose (is_sign sign_of.RightParenthesis) (read (sign sign_of.RightParenthesis) (λ _. done [])) closed_by)
      is.0 from is.1 to es (first_of deep es) is.2 (inside_go es is.1 to is.3))
