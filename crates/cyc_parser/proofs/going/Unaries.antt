-- What the reader of unary expressions answers: the tree, or the place of the first token that is too deep.
use Rattle.std.proofs.Common.{◌≡◌, ℕ, suc, ◌+◌, ◌≤◌, Bool, true, false, ◌∷◌, ◌++◌, Option, refl, sym, ap, subst, ◌∙◌, arith}
use Rattle.cyc_lexer.specs.Lexing.{Token}
use Rattle.cyc_lexer.specs.declared.token.Keyword.TheVariants as word
use Rattle.cyc_lexer.specs.declared.token.Sign.TheVariants as sign_of
use Rattle.cyc_lexer.specs.declared.token.TokenKind.{TokenKind}
use Rattle.cyc_lexer.specs.declared.token.TokenKind.TheVariants as kind
use Rattle.cyc_tree.specs.declared.expression.Prefix.{Prefix}
use Rattle.cyc_tree.specs.Tree.{Name, Expression, Prefixed, New, NewIn, Chain, AllOf, AnyOf, Assign, NoLinks, MoreLinks, One, Array}
use Rattle.cyc_tree.specs.Tree as tree
use Rattle.cyc_tree.specs.Places.{expression_place}
use Rattle.cyc_tree.specs.Depths.{start, first_deeper, expression_starts, inner_starts, made_starts}
use Rattle.source_grammar.specs.Phrases.{Tokens, KeywordAt, SignAt, InParentheses}
use Rattle.source_grammar.specs.ExpressionGrammar.{IsExpression, IsMade, binds, unary_level, prefix_sign}
use Rattle.cyc_parser.specs.Tests.{continues, is_sign, is_keyword, is_prefix, begins_unary, begins_primary}
use Rattle.cyc_parser.specs.Reader.{Outcome, done, read, choose, token, sign, keyword, next_is}
use Rattle.cyc_parser.specs.ReadTypes.{name}
use Rattle.cyc_parser.specs.ReadExpressions.{prefix_of, parenthesized_by, array_by, made_by, made_in_by, prefixed_by, postfix_by, operation_by}
use Rattle.cyc_parser.specs.ReadExpressions.{expression_at, unary_at}
use Rattle.cyc_parser.specs.Exact.{Stops}
use Rattle.cyc_parser.proofs.exactness.Steps.{token_again}
use Rattle.cyc_parser.proofs.exactness.Composed.{begins_with, begins_stops}
use Rattle.cyc_parser.proofs.exactness.Begins.{IsUnary, expression_begins}
use Rattle.cyc_parser.proofs.exactness.Chains.{level_high}
use Rattle.cyc_parser.proofs.exactness.Unaries.{primary_begins, primary_no_new, primary_no_rnew, primary_no_prefix, unary_no_brace, prefix_back}
use Rattle.cyc_parser.proofs.Goes.{Goes, or_else, deeper_both, own_start, goes_as, goes_behind, goes_then, goes_before, goes_first, goes_second}
use Rattle.cyc_parser.proofs.going.Tokens.{sign_goes, keyword_goes, name_goes}
use Rattle.cyc_parser.proofs.going.Arguments.{enclosed_goes, parenthesized_goes}
use Rattle.cyc_parser.proofs.going.Postfix.{postfix_goes}

module _ (limit n m : ℕ) (same : n + suc m ≡ limit)
    (inner_goes : (e : Expression) (from to : Tokens) → IsExpression e from to → Stops (continues 0) to
    → Goes (expression_at m from) e to (first_deeper limit (expression_starts (n + 1) e)))
    (unary_goes : (e : Expression) (from to : Tokens) → IsUnary e from to → Stops (continues unary_level) to
    → Goes (unary_at m from) e to (first_deeper limit (inner_starts (n + 1) e))) where
  -- the first token of an expression in a unary one that is too deep
  abbrev deep : Expression → Option ℕ
  deep e = first_deeper limit (expression_starts (n + 1) e)

  -- of a unary expression
  abbrev inner_deep : Expression → Option ℕ
  inner_deep e = first_deeper limit (inner_starts n e)

  -- of what is made in one
  abbrev made_deep : tree.Made → Option ℕ
  made_deep made = first_deeper limit (made_starts (n + 1) made)

  -- ---- what is made

  abbrev element_by : Name → Expression → Tokens → Outcome tree.Made
  element_by i count = read (sign sign_of.Colon) (λ _. read (expression_at m) (λ e. read (sign sign_of.RightBrace) (λ _. done (Array i count e))))

  abbrev count_by : Name → Tokens → Outcome tree.Made
  count_by i = read (sign sign_of.Less) (λ _. read (expression_at m) (element_by i))

  abbrev one_by : Tokens → Outcome tree.Made
  one_by = read (unary_at m) (λ e. done (One e))

  -- the elements of an array: the count stands before the element
  array_goes : (i : Name) (count e : Expression) (from to : Tokens) → IsMade (Array i count e) from to
      → Goes (array_by (expression_at m) from) (Array i count e) to (or_else (deep count) (deep e))
  unfolding array_by
  array_goes i count e from to is =
      let made = Array i count e in
      let d = or_else (deep count) (deep e) in
      sign_goes sign_of.LeftBrace (λ _. read (keyword word.For) (λ _. read name count_by)) is.7.0 from is.0 to made d is.7.1
      (keyword_goes word.For (λ _. read name count_by) is.8.0 is.0 is.1 to made d is.8.1
      (name_goes count_by i is.1 is.2 to made d is.9
      (sign_goes sign_of.Less (λ _. read (expression_at m) (element_by i)) is.10.0 is.2 is.3 to made d is.10.1
      (goes_then (expression_at m) (element_by i) is.3 count is.4 made to (deep count) (deep e)
      (inner_goes count is.3 is.4 is.11 (ap (next_is (continues 0)) is.12.1.1))
      (sign_goes sign_of.Colon (λ _. read (expression_at m) (λ e. read (sign sign_of.RightBrace) (λ _. done (Array i count e))))
      is.12.0 is.4 is.5 to made (deep e) is.12.1
      (enclosed_goes limit n m same inner_goes sign_of.RightBrace (Array i count) refl e is.5 is.6 to is.13 is.14))))))

  made_goes : (made : tree.Made) (from to : Tokens) → IsMade made from to → Stops (continues unary_level) to
      → Goes (made_by (unary_at m) (expression_at m) from) made to (made_deep made)
  unfolding made_by
  made_goes (One e) from to is stops =
      goes_second (is_sign sign_of.LeftBrace) (array_by (expression_at m)) one_by from (One e) to (made_deep (One e))
      (begins_stops begins_unary (is_sign sign_of.LeftBrace) unary_no_brace from (expression_begins e from to is.1))
      (goes_before (unary_at m) (λ e. done (One e)) from e to (One e) to (made_deep (One e)) (unary_goes e from to (is.1, is.0) stops) refl)
  made_goes (Array i count e) from to is stops =
      goes_first (is_sign sign_of.LeftBrace) (array_by (expression_at m)) one_by from (Array i count e) to (made_deep (Array i count e))
      (begins_with (is_sign sign_of.LeftBrace) from _ _ is.7.1.1 refl)
      (goes_as (array_by (expression_at m) from) (Array i count e) to (or_else (deep count) (deep e)) (made_deep (Array i count e))
      (sym (deeper_both limit (expression_starts (n + 1) count) (expression_starts (n + 1) e))) (array_goes i count e from to is))

  -- ---- operations

  abbrev new_by : Tokens → Outcome Expression
  new_by = read (keyword word.New) (λ at. read (made_by (unary_at m) (expression_at m)) (λ made. done (New at made)))

  abbrev old_by : Tokens → Outcome Expression
  old_by = choose is_prefix (prefixed_by (unary_at m)) (postfix_by (expression_at m))

  -- what isn't made in the heap
  abbrev other_by : Tokens → Outcome Expression
  other_by = choose (is_keyword word.Rnew) (made_in_by (unary_at m) (expression_at m)) old_by

  new_goes : (at : ℕ) (made : tree.Made) (from a to : Tokens) → KeywordAt word.New at from a → IsMade made a to → Stops (continues unary_level) to
      → Goes (operation_by (unary_at m) (expression_at m) from) (New at made) to (made_deep made)
  unfolding operation_by
  new_goes at made from a to opening is stops =
      goes_first (is_keyword word.New) new_by other_by from (New at made) to (made_deep made)
      (begins_with (is_keyword word.New) from _ _ opening.1 refl)
      (keyword_goes word.New (λ at. read (made_by (unary_at m) (expression_at m)) (λ made. done (New at made))) at from a to (New at made)
      (made_deep made) opening
      (goes_before (made_by (unary_at m) (expression_at m)) (λ made. done (New at made)) a made to (New at made) to (made_deep made)
      (made_goes made a to is stops) refl))

  abbrev placed_by : ℕ → Expression → Tokens → Outcome Expression
  placed_by at handle = read (made_by (unary_at m) (expression_at m)) (λ made. done (NewIn at handle made))

  -- the handle stands before what is made
  new_in_goes : (at : ℕ) (handle : Expression) (made : tree.Made) (from a b to : Tokens) → KeywordAt word.Rnew at from a
      → InParentheses (IsExpression handle) a b → IsMade made b to → Stops (continues unary_level) to
      → Goes (operation_by (unary_at m) (expression_at m) from) (NewIn at handle made) to (or_else (deep handle) (made_deep made))
  unfolding operation_by made_in_by
  new_in_goes at handle made from a b to opening inside is stops =
      let whole = NewIn at handle made in
      let d = or_else (deep handle) (made_deep made) in
      goes_second (is_keyword word.New) new_by other_by from whole to d (ap (next_is (is_keyword word.New)) opening.1)
      (goes_first (is_keyword word.Rnew) (made_in_by (unary_at m) (expression_at m)) old_by from whole to d
      (begins_with (is_keyword word.Rnew) from _ _ opening.1 refl)
      (keyword_goes word.Rnew (λ at. read (parenthesized_by (expression_at m)) (placed_by at)) at from a to whole d opening
      (goes_then (parenthesized_by (expression_at m)) (placed_by at) a handle b whole to (deep handle) (made_deep made)
      (parenthesized_goes limit n m same inner_goes handle a b inside)
      (goes_before (made_by (unary_at m) (expression_at m)) (λ made. done (NewIn at handle made)) b made to whole to (made_deep made)
      (made_goes made b to is stops) refl))))

  -- behind its first token, the handle and what is made
  new_in_deeper : (at : ℕ) (handle : Expression) (made : tree.Made) → or_else (deep handle) (made_deep made) ≡ inner_deep (NewIn at handle made)
  new_in_deeper at handle made =
      let two : n + 1 + 1 ≡ n + 2 = omega arith in
      sym (deeper_both limit (expression_starts (n + 1) handle) (made_starts (n + 1) made))
      ∙ ap (λ (k : ℕ). first_deeper limit ((start (expression_place handle) k ∷ inner_starts k handle) ++ made_starts (n + 1) made)) two
      ∙ sym (own_start limit n m same at ((start (expression_place handle) (n + 2) ∷ inner_starts (n + 2) handle) ++ made_starts (n + 1) made))

  -- what begins with no keyword of those
  old_goes : (e : Expression) (from to : Tokens) (d : Option ℕ) → next_is (is_keyword word.New) from ≡ false
      → next_is (is_keyword word.Rnew) from ≡ false
      → Goes (old_by from) e to d → Goes (operation_by (unary_at m) (expression_at m) from) e to d
  unfolding operation_by
  old_goes e from to d no_new no_rnew goes =
      goes_second (is_keyword word.New) new_by other_by from e to d no_new
      (goes_second (is_keyword word.Rnew) (made_in_by (unary_at m) (expression_at m)) old_by from e to d no_rnew goes)

  abbrev operand_by : Token → Tokens → Outcome Expression
  operand_by t = read (unary_at m) (λ e. done (Prefixed t.at (prefix_of t.kind) e))

  -- a prefix operator, and its operand
  prefixed_goes : (at : ℕ) (o : Prefix) (e : Expression) (from a to : Tokens) → SignAt (prefix_sign o) at from a → IsUnary e a to
      → Stops (continues unary_level) to
      → Goes (operation_by (unary_at m) (expression_at m) from) (Prefixed at o e) to (first_deeper limit (inner_starts (n + 1) e))
  unfolding prefixed_by
  prefixed_goes at o e from a to opening is stops =
      let d = first_deeper limit (inner_starts (n + 1) e) in
      let p = prefix_back o in
      let t : Token = record { kind = kind.Sign (prefix_sign o); at = at; text = opening.0 } in
      let whole = Prefixed at (prefix_of (kind.Sign (prefix_sign o))) e in
      subst (λ (q : Prefix). Goes (operation_by (unary_at m) (expression_at m) from) (Prefixed at q e) to d) (sym p.1)
      (old_goes whole from to d (ap (next_is (is_keyword word.New)) opening.1) (ap (next_is (is_keyword word.Rnew)) opening.1)
      (goes_first is_prefix (prefixed_by (unary_at m)) (postfix_by (expression_at m)) from whole to d
      (begins_with is_prefix from t a opening.1 p.0)
      (goes_behind (token is_prefix) operand_by from t a whole to d
      (token_again is_prefix t from a (opening.1, p.0))
      (goes_before (unary_at m) (λ e. done (Prefixed t.at (prefix_of t.kind) e)) a e to whole to d (unary_goes e a to is stops) refl))))

  -- where a primary expression begins, this test fails
  primary_fails : (test : TokenKind → Bool) → ((k : TokenKind) → begins_primary k ≡ true → test k ≡ false) → (e : Expression) (from to : Tokens)
      → IsExpression e from to → 12 ≤ binds e → next_is test from ≡ false
  primary_fails test apart e from to is l = begins_stops begins_primary test apart from (primary_begins e from to is l)

  -- what has no operator before it
  unprefixed_goes : (e : Expression) (from to : Tokens) → IsExpression e from to → 12 ≤ binds e → Stops (continues unary_level) to
      → Goes (operation_by (unary_at m) (expression_at m) from) e to (inner_deep e)
  unprefixed_goes e from to is l stops =
      old_goes e from to (inner_deep e) (primary_fails (is_keyword word.New) primary_no_new e from to is l)
      (primary_fails (is_keyword word.Rnew) primary_no_rnew e from to is l)
      (goes_second is_prefix (prefixed_by (unary_at m)) (postfix_by (expression_at m)) from e to (inner_deep e)
      (primary_fails is_prefix primary_no_prefix e from to is l)
      (postfix_goes limit n m same inner_goes e from to is l stops))

  -- ---- all of them

  pub operation_goes : (e : Expression) (from to : Tokens) → IsUnary e from to → Stops (continues unary_level) to
      → Goes (operation_by (unary_at m) (expression_at m) from) e to (first_deeper limit (inner_starts n e))
  operation_goes (New at made) from to is stops =
      goes_as (operation_by (unary_at m) (expression_at m) from) (New at made) to (made_deep made) (inner_deep (New at made))
      (sym (own_start limit n m same at (made_starts (n + 1) made))) (new_goes at made from is.0.0 to is.0.1 is.0.2 stops)
  operation_goes (NewIn at handle made) from to is stops =
      goes_as (operation_by (unary_at m) (expression_at m) from) (NewIn at handle made) to (or_else (deep handle) (made_deep made))
      (inner_deep (NewIn at handle made)) (new_in_deeper at handle made)
      (new_in_goes at handle made from is.0.0 is.0.1 to is.0.2 is.0.3 is.0.4 stops)
  operation_goes (Prefixed at o e) from to is stops =
      goes_as (operation_by (unary_at m) (expression_at m) from) (Prefixed at o e) to (first_deeper limit (inner_starts (n + 1) e))
      (inner_deep (Prefixed at o e)) (sym (own_start limit n m same at (inner_starts (n + 1) e)))
      (prefixed_goes at o e from is.0.0 to is.0.2 (is.0.3, is.0.1) stops)
  operation_goes (Chain first NoLinks) from to is stops = absurd is.0
  operation_goes (Chain first (MoreLinks o e others)) from to is stops = absurd (omega (arith, is.1, level_high o))
  operation_goes (AllOf first others) from to is stops = absurd (omega (arith, is.1))
  operation_goes (AnyOf first others) from to is stops = absurd (omega (arith, is.1))
  operation_goes (Assign place value) from to is stops = absurd (omega (arith, is.1))
  operation_goes e from to is stops = unprefixed_goes e from to is.0 (omega arith) stops
