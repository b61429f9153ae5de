-- What the reader of primary expressions answers: the tree, or the place of the first token that is too deep.
use Rattle.std.proofs.Common.{◌≡◌, ℕ, suc, ◌+◌, ◌≤◌, true, false, [], ◌∷◌, Option, Some, None, refl, sym, ap, subst, ◌∙◌, arith, inr}
use Rattle.std.proofs.lemmas.Bool.{or_left, or_right}
use Rattle.cyc_lexer.specs.declared.token.Keyword.TheVariants as word
use Rattle.cyc_lexer.specs.declared.token.Sign.TheVariants as sign_of
use Rattle.cyc_tree.specs.Tree.{Name, Expression, Number, Character, Text, Null, HeapRegion, UniqueRegion, Variable, Call, MakeUnion, NumElts}
use Rattle.cyc_tree.specs.Tree.{Grouped, Expressions, Chain, NoLinks, MoreLinks}
use Rattle.cyc_tree.specs.View.{expressions_of}
use Rattle.cyc_tree.specs.Places.{expression_place}
use Rattle.cyc_tree.specs.Depths.{start, first_deeper, expression_starts, inner_starts, argument_starts}
use Rattle.source_grammar.specs.Phrases.{Tokens, SignAt, KeywordAt, IsSign, IsName, InParentheses}
use Rattle.source_grammar.specs.ExpressionGrammar.{IsExpression, AreArguments, binds, primary_level}
use Rattle.cyc_parser.specs.Tests.{continues, is_sign, is_keyword, is_identifier, is_literal}
use Rattle.cyc_parser.specs.Reader.{Outcome, done, read, choose, sign, keyword, next_is}
use Rattle.cyc_parser.specs.ReadTypes.{name}
use Rattle.cyc_parser.specs.ReadExpressions.{literal, parenthesized_by, grouped_by, primary_by, arguments_by, member_by, named_by}
use Rattle.cyc_parser.specs.ReadExpressions.{first_by, expression_at}
use Rattle.cyc_parser.specs.Exact.{Stops}
use Rattle.cyc_parser.proofs.exactness.Composed.{stops_ends, stops_wider, begins_with, begins_stops}
use Rattle.cyc_parser.proofs.exactness.Primaries.{IsLiteral, literal_begins, primary_exact}
use Rattle.cyc_parser.proofs.exactness.Arguments.{arguments_back, arguments_begin}
use Rattle.cyc_parser.proofs.exactness.Firsts.{first_on, IsFirst, literal_no_name}
use Rattle.cyc_parser.proofs.exactness.Chains.{level_high}
use Rattle.cyc_parser.proofs.exactness.Expressions.{expression_exact}
use Rattle.cyc_parser.proofs.Goes.{Goes, own_start, goes_as, goes_before, goes_first, goes_second}
use Rattle.cyc_parser.proofs.going.Tokens.{sign_goes, keyword_goes, name_goes}
use Rattle.cyc_parser.proofs.going.Arguments.{enclosed_goes, parenthesized_goes, arguments_go}

module _ (limit n m : ℕ) (same : n + suc m ≡ limit) where
  -- behind its first token, an expression in it
  own_then : (at : ℕ) (e : Expression)
      → first_deeper limit (start at (n + 1) ∷ start (expression_place e) (n + 2) ∷ inner_starts (n + 2) e)
      ≡ first_deeper limit (expression_starts (n + 1) e)
  own_then at e =
      let two : n + 2 ≡ n + 1 + 1 = omega arith in
      own_start limit n m same at (start (expression_place e) (n + 2) ∷ inner_starts (n + 2) e)
      ∙ ap (λ (k : ℕ). first_deeper limit (start (expression_place e) k ∷ inner_starts k e)) two

module _ (limit n m : ℕ) (same : n + suc m ≡ limit)
    (inner_goes : (e : Expression) (from to : Tokens) → IsExpression e from to → Stops (continues 0) to
    → Goes (expression_at m from) e to (first_deeper limit (expression_starts (n + 1) e))) where
  -- the first token of an expression in a unary one that is too deep
  abbrev deep : Expression → Option ℕ
  deep e = first_deeper limit (expression_starts (n + 1) e)

  abbrev parenthesized : Tokens → Outcome Expression
  parenthesized = parenthesized_by (expression_at m)

  abbrev primary : Tokens → Outcome Expression
  primary = primary_by (expression_at m)

  abbrev first : Tokens → Outcome (Expression × Option Name)
  first = first_by (expression_at m)

  -- ---- primary expressions that are no names

  -- what is read by another first token than a name
  primary_goes : (e : Expression) (from to : Tokens) (d : Option ℕ) → next_is is_identifier from ≡ false → Goes (primary from) e to d
      → Goes (first from) (e, None) to d
  unfolding first_by
  primary_goes e from to d stops goes =
      goes_second is_identifier (named_by (expression_at m)) (read primary (λ e. done (e, None))) from (e, None) to d stops
      (goes_before primary (λ e. done (e, None)) from e to (e, None) to d goes refl)

  literal_goes : (e : Expression) (at : ℕ) (from to : Tokens) → IsLiteral true e from to
      → Goes (first from) (e, None) to (first_deeper limit (start at (n + 1) ∷ []))
  literal_goes e at from to is =
      goes_as (first from) (e, None) to None (first_deeper limit (start at (n + 1) ∷ [])) (sym (own_start limit n m same at []))
      (primary_goes e from to None (begins_stops is_literal is_identifier literal_no_name from (literal_begins true e from to is))
      ((primary_exact m (expression_at m) (expression_exact m)).again e from to (inr (inr is)) (stops_ends e to)))

  abbrev numelts_by : Tokens → Outcome Expression
  numelts_by = read (keyword word.Numelts) (λ at. read parenthesized (λ e. done (NumElts at e)))

  -- what begins with no parenthesis
  abbrev word_by : Tokens → Outcome Expression
  word_by = choose (is_keyword word.Numelts) numelts_by literal

  grouped_goes : (at : ℕ) (e : Expression) (from a b to : Tokens) → SignAt sign_of.LeftParenthesis at from a → IsExpression e a b
      → IsSign sign_of.RightParenthesis b to → Goes (primary from) (Grouped at e) to (deep e)
  unfolding primary_by grouped_by
  grouped_goes at e from a b to opening is closing =
      goes_first (is_sign sign_of.LeftParenthesis) (grouped_by (expression_at m)) word_by from (Grouped at e) to (deep e)
      (begins_with (is_sign sign_of.LeftParenthesis) from _ _ opening.1 refl)
      (sign_goes sign_of.LeftParenthesis
      (λ at. read (expression_at m) (λ e. read (sign sign_of.RightParenthesis) (λ _. done (Grouped at e)))) at from a to (Grouped at e) (deep e)
      opening (enclosed_goes limit n m same inner_goes sign_of.RightParenthesis (Grouped at) refl e a b to is closing))

  numelts_goes : (at : ℕ) (e : Expression) (from a to : Tokens) → KeywordAt word.Numelts at from a → InParentheses (IsExpression e) a to
      → Goes (primary from) (NumElts at e) to (deep e)
  unfolding primary_by
  numelts_goes at e from a to opening is =
      goes_second (is_sign sign_of.LeftParenthesis) (grouped_by (expression_at m)) word_by from (NumElts at e) to (deep e)
      (ap (next_is (is_sign sign_of.LeftParenthesis)) opening.1)
      (goes_first (is_keyword word.Numelts) numelts_by literal from (NumElts at e) to (deep e)
      (begins_with (is_keyword word.Numelts) from _ _ opening.1 refl)
      (keyword_goes word.Numelts (λ at. read parenthesized (λ e. done (NumElts at e))) at from a to (NumElts at e) (deep e) opening
      (goes_before parenthesized (λ e. done (NumElts at e)) a e to (NumElts at e) to (deep e)
      (parenthesized_goes limit n m same inner_goes e a to is) refl)))

  -- ---- what begins with a name

  abbrev call_by : Name → Tokens → Outcome (Expression × Option Name)
  call_by v = read (arguments_by (expression_at m)) (λ es. done (Call v (expressions_of es), None))

  -- what is no call
  abbrev other_by : Name → Tokens → Outcome (Expression × Option Name)
  other_by v = choose (is_sign sign_of.Dot) (member_by (expression_at m) v) (done (Variable v, None))

  abbrev tail_by : Name → Tokens → Outcome (Expression × Option Name)
  tail_by v = choose (is_sign sign_of.LeftParenthesis) (call_by v) (other_by v)

  -- a name, and what is read behind it
  named_goes : (v : Name) (x : Expression × Option Name) (from mid to : Tokens) (d : Option ℕ) → IsName v from mid → Goes (tail_by v mid) x to d
      → Goes (first from) x to d
  unfolding first_by named_by
  named_goes v x from mid to d is goes =
      goes_first is_identifier (named_by (expression_at m)) (read primary (λ e. done (e, None))) from x to d
      (begins_with is_identifier from _ _ is refl) (name_goes tail_by v from mid to x d is goes)

  -- nothing behind the name
  variable_goes : (v : Name) (ts : Tokens) → Stops (first_on (Variable v, None)) ts → Goes (tail_by v ts) (Variable v, None) ts None
  variable_goes v ts stops =
      goes_second (is_sign sign_of.LeftParenthesis) (call_by v) (other_by v) ts (Variable v, None) ts None
      (stops_wider (is_sign sign_of.LeftParenthesis) (first_on (Variable v, None))
      (λ k g. or_left (is_sign sign_of.LeftParenthesis k) (is_sign sign_of.Dot k) g) ts stops)
      (goes_second (is_sign sign_of.Dot) (member_by (expression_at m) v) (done (Variable v, None)) ts (Variable v, None) ts None
      (stops_wider (is_sign sign_of.Dot) (first_on (Variable v, None))
      (λ k g. or_right (is_sign sign_of.LeftParenthesis k) (is_sign sign_of.Dot k) g) ts stops) refl)

  call_goes : (v : Name) (es : Expressions) (from mid to : Tokens) → IsSign sign_of.LeftParenthesis from mid → AreArguments es mid to
      → Goes (tail_by v from) (Call v es, None) to (first_deeper limit (argument_starts (n + 1) es))
  call_goes v es from mid to opening is =
      let xs = arguments_back m (expression_at m) (expression_exact m) false es from to (mid, opening, is, tt) in
      subst (λ ys. Goes (tail_by v from) (Call v ys, None) to (first_deeper limit (argument_starts (n + 1) ys))) (sym xs.1)
      (goes_first (is_sign sign_of.LeftParenthesis) (call_by v) (other_by v) from (Call v (expressions_of xs.0), None) to
      (first_deeper limit (argument_starts (n + 1) (expressions_of xs.0)))
      (arguments_begin m (expression_at m) (expression_exact m) false xs.0 from to xs.2)
      (goes_before (arguments_by (expression_at m)) (λ es. done (Call v (expressions_of es), None)) from xs.0 to
      (Call v (expressions_of xs.0), None) to (first_deeper limit (argument_starts (n + 1) (expressions_of xs.0)))
      (arguments_go limit n m same inner_goes xs.0 from to xs.2) refl))

  -- behind a name, `.` and another name
  abbrev made_by : (v w : Name) → Tokens → Outcome (Expression × Option Name)
  made_by v w = read parenthesized (λ e. done (MakeUnion v w e, None))

  abbrev behind_by : (v w : Name) → Tokens → Outcome (Expression × Option Name)
  behind_by v w = choose (is_sign sign_of.LeftParenthesis) (made_by v w) (done (Variable v, Some w))

  -- `.` and another name, and what is read behind them
  member_goes : (v w : Name) (x : Expression × Option Name) (from a mid to : Tokens) (d : Option ℕ) → IsSign sign_of.Dot from a → IsName w a mid
      → Goes (behind_by v w mid) x to d → Goes (tail_by v from) x to d
  unfolding member_by
  member_goes v w x from a mid to d dot is goes =
      goes_second (is_sign sign_of.LeftParenthesis) (call_by v) (other_by v) from x to d (ap (next_is (is_sign sign_of.LeftParenthesis)) dot.1.1)
      (goes_first (is_sign sign_of.Dot) (member_by (expression_at m) v) (done (Variable v, None)) from x to d
      (begins_with (is_sign sign_of.Dot) from _ _ dot.1.1 refl)
      (sign_goes sign_of.Dot (λ _. read name (behind_by v)) dot.0 from a to x d dot.1 (name_goes (behind_by v) w a mid to x d is goes)))

  union_goes : (v w : Name) (e : Expression) (from to : Tokens) → InParentheses (IsExpression e) from to
      → Goes (behind_by v w from) (MakeUnion v w e, None) to (deep e)
  union_goes v w e from to is =
      goes_first (is_sign sign_of.LeftParenthesis) (made_by v w) (done (Variable v, Some w)) from (MakeUnion v w e, None) to (deep e)
      (begins_with (is_sign sign_of.LeftParenthesis) from _ _ is.2.1.1 refl)
      (goes_before parenthesized (λ e. done (MakeUnion v w e, None)) from e to (MakeUnion v w e, None) to (deep e)
      (parenthesized_goes limit n m same inner_goes e from to is) refl)

  -- ---- all of them

  -- with no member that was read behind it
  alone_goes : (e : Expression) (from to : Tokens) → IsExpression e from to → primary_level ≤ binds e → Stops (first_on (e, None)) to
      → Goes (first from) (e, None) to (first_deeper limit (inner_starts n e))
  alone_goes (Number at value suffix) from to is l stops = literal_goes (Number at value suffix) at from to is
  alone_goes (Character at byte) from to is l stops = literal_goes (Character at byte) at from to is
  alone_goes (Text at bytes) from to is l stops = literal_goes (Text at bytes) at from to is
  alone_goes (Null at) from to is l stops = literal_goes (Null at) at from to is
  alone_goes (HeapRegion at) from to is l stops = literal_goes (HeapRegion at) at from to is
  alone_goes (UniqueRegion at) from to is l stops = literal_goes (UniqueRegion at) at from to is
  alone_goes (Variable v) from to is l stops =
      goes_as (first from) (Variable v, None) to None (first_deeper limit (inner_starts n (Variable v))) (sym (own_start limit n m same v.at []))
      (named_goes v (Variable v, None) from to to None is (variable_goes v to stops))
  alone_goes (Call v es) from to is l stops =
      goes_as (first from) (Call v es, None) to (first_deeper limit (argument_starts (n + 1) es)) (first_deeper limit (inner_starts n (Call v es)))
      (sym (own_start limit n m same v.at (argument_starts (n + 1) es)))
      (named_goes v (Call v es, None) from is.0 to (first_deeper limit (argument_starts (n + 1) es)) is.2 (call_goes v es is.0 is.1 to is.3 is.4))
  alone_goes (MakeUnion v w e) from to is l stops =
      goes_as (first from) (MakeUnion v w e, None) to (deep e) (first_deeper limit (inner_starts n (MakeUnion v w e)))
      (sym (own_then limit n m same v.at e))
      (named_goes v (MakeUnion v w e, None) from is.0 to (deep e) is.3
      (member_goes v w (MakeUnion v w e, None) is.0 is.1 is.2 to (deep e) is.4 is.5 (union_goes v w e is.2 to is.6)))
  alone_goes (NumElts at e) from to is l stops =
      goes_as (first from) (NumElts at e, None) to (deep e) (first_deeper limit (inner_starts n (NumElts at e)))
      (sym (own_then limit n m same at e))
      (primary_goes (NumElts at e) from to (deep e) (ap (next_is is_identifier) is.1.1) (numelts_goes at e from is.0 to is.1 is.2))
  alone_goes (Grouped at e) from to is l stops =
      goes_as (first from) (Grouped at e, None) to (deep e) (first_deeper limit (inner_starts n (Grouped at e)))
      (sym (own_then limit n m same at e))
      (primary_goes (Grouped at e) from to (deep e) (ap (next_is is_identifier) is.2.1) (grouped_goes at e from is.0 is.1 to is.2 is.3 is.4))
  alone_goes (Chain e NoLinks) from to is l stops = absurd is
  alone_goes (Chain e (MoreLinks o operand others)) from to is l stops = absurd (omega (arith, l, level_high o))
  alone_goes _ from to is l stops = absurd (omega (arith, l))

  -- a primary expression, and the member that was read behind it
  pub first_goes : (x : Expression × Option Name) (from to : Tokens) → IsFirst m (expression_at m) (expression_exact m) false x from to
      → Stops (first_on x) to → Goes (first from) x to (first_deeper limit (inner_starts n x.0))
  first_goes (e, None) from to is stops = alone_goes e from to is.0.0 is.0.1 stops
  first_goes (Variable v, Some w) from to is stops =
      goes_as (first from) (Variable v, Some w) to None (first_deeper limit (inner_starts n (Variable v))) (sym (own_start limit n m same v.at []))
      (named_goes v (Variable v, Some w) from is.0 to None is.2
      (member_goes v w (Variable v, Some w) is.0 is.1 to to None is.3 is.4
      (goes_second (is_sign sign_of.LeftParenthesis) (made_by v w) (done (Variable v, Some w)) to (Variable v, Some w) to None stops refl)))
  first_goes (e, Some w) from to is stops = absurd is.2
