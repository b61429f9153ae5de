-- What the reader of primary expressions with suffixes answers: the tree, or the place of the first token that is too deep.
use Rattle.std.proofs.Common.{◌≡◌, ℕ, suc, ◌+◌, ◌≤◌, ◌||◌, Bool, true, false, List, [], ◌∷◌, Option, Some, None, refl, sym, ap, subst, ◌∙◌}
use Rattle.cyc_lexer.specs.declared.token.Sign.TheVariants as sign_of
use Rattle.cyc_tree.specs.Tree.{Name, Expression, Suffixes, NoSuffixes, Index, Dot, Arrow}
use Rattle.cyc_tree.specs.View.{OneSuffix, suffixes_of}
use Rattle.cyc_tree.specs.Depths.{first_deeper, expression_starts, inner_starts, suffix_starts}
use Rattle.source_grammar.specs.Phrases.{Tokens}
use Rattle.source_grammar.specs.ExpressionGrammar.{IsExpression, binds, unary_level}
use Rattle.cyc_parser.specs.Tests.{continues, is_sign, begins_suffix}
use Rattle.cyc_parser.specs.Reader.{Outcome, done, read, choose, many, sign}
use Rattle.cyc_parser.specs.ReadTypes.{name}
use Rattle.cyc_parser.specs.ReadExpressions.{first_by, suffix_by, suffixes_by, suffixed, with_member, postfix_by, expression_at}
use Rattle.cyc_parser.specs.Exact.{Stops, Rows, ends}
use Rattle.cyc_parser.proofs.exactness.Composed.{stops_wider, begins_with}
use Rattle.cyc_parser.proofs.exactness.Firsts.{IsFirst, first_on}
use Rattle.cyc_parser.proofs.exactness.Suffixes.{IsSuffix, suffix_exact, suffix_next, suffix_wider}
use Rattle.cyc_parser.proofs.exactness.Postfix.{open_first, tail_rows, second_meets, postfix_back}
use Rattle.cyc_parser.proofs.exactness.Expressions.{expression_exact}
use Rattle.cyc_parser.proofs.Goes.{Goes, or_else, none_else, first_of, deeper_both, goes_as, goes_then, goes_before, goes_first, many_goes}
use Rattle.cyc_parser.proofs.going.Tokens.{sign_goes}
use Rattle.cyc_parser.proofs.going.Arguments.{enclosed_goes}
use Rattle.cyc_parser.proofs.going.Primaries.{first_goes}

module _ (limit n m : ℕ) (same : n + suc m ≡ limit)
    (inner_goes : (e : Expression) (from to : Tokens) → IsExpression e from to → Stops (continues 0) to
    → Goes (expression_at m from) e to (first_deeper limit (expression_starts (n + 1) e))) where
  -- ---- suffixes

  -- the first token of a suffix that is too deep
  abbrev deep : OneSuffix → Option ℕ
  deep (OneSuffix.Index e) = first_deeper limit (expression_starts (n + 1) e)
  deep (OneSuffix.Dot w) = None
  deep (OneSuffix.Arrow w) = None

  abbrev Suffix : Bool → OneSuffix → Tokens → Tokens → Type 0
  Suffix = IsSuffix m (expression_at m) (expression_exact m)

  -- what reads an index
  abbrev index_by : Tokens → Outcome OneSuffix
  index_by = read (sign sign_of.LeftBracket) (λ _. read (expression_at m) (λ e. read (sign sign_of.RightBracket) (λ _. done (OneSuffix.Index e))))

  -- what reads another suffix
  abbrev member_by : Tokens → Outcome OneSuffix
  member_by =
      choose (is_sign sign_of.Dot) (read (sign sign_of.Dot) (λ _. read name (λ w. done (OneSuffix.Dot w))))
      (read (sign sign_of.Arrow) (λ _. read name (λ w. done (OneSuffix.Arrow w))))

  suffix_goes : (x : OneSuffix) (from to : Tokens) → Suffix false x from to → Stops (ends x) to
      → Goes (suffix_by (expression_at m) from) x to (deep x)
  unfolding suffix_by
  suffix_goes (OneSuffix.Index e) from to is stops =
      goes_first (is_sign sign_of.LeftBracket) index_by member_by from (OneSuffix.Index e) to (deep (OneSuffix.Index e))
      (begins_with (is_sign sign_of.LeftBracket) from _ _ is.2.1.1 refl)
      (sign_goes sign_of.LeftBracket (λ _. read (expression_at m) (λ e. read (sign sign_of.RightBracket) (λ _. done (OneSuffix.Index e))))
      is.2.0 from is.0 to (OneSuffix.Index e) (deep (OneSuffix.Index e)) is.2.1
      (enclosed_goes limit n m same inner_goes sign_of.RightBracket OneSuffix.Index refl e is.0 is.1 to is.3.0 is.4))
  suffix_goes (OneSuffix.Dot w) from to is stops =
      (suffix_exact m (expression_at m) (expression_exact m)).again (OneSuffix.Dot w) from to is stops
  suffix_goes (OneSuffix.Arrow w) from to is stops =
      (suffix_exact m (expression_at m) (expression_exact m)).again (OneSuffix.Arrow w) from to is stops

  -- the first too deep token of the first suffix that has one
  suffixes_deeper : (xs : List OneSuffix) → first_of deep xs ≡ first_deeper limit (suffix_starts (n + 1) (suffixes_of xs))
  suffixes_deeper [] = refl
  suffixes_deeper (OneSuffix.Index e ∷ xs) =
      ap (or_else (deep (OneSuffix.Index e))) (suffixes_deeper xs)
      ∙ sym (deeper_both limit (expression_starts (n + 1) e) (suffix_starts (n + 1) (suffixes_of xs)))
  suffixes_deeper (OneSuffix.Dot w ∷ xs) = suffixes_deeper xs
  suffixes_deeper (OneSuffix.Arrow w ∷ xs) = suffixes_deeper xs

  rows_go : (xs : List OneSuffix) (from to : Tokens) → Rows Suffix false xs from to → Stops (λ k. begins_suffix k || false) to
      → Goes (many begins_suffix (suffix_by (expression_at m)) from) xs to (first_of deep xs)
  rows_go =
      many_goes begins_suffix Suffix ends (suffix_by (expression_at m)) (suffix_exact m (expression_at m) (expression_exact m))
      (suffix_next m (expression_at m) (expression_exact m) begins_suffix true refl refl refl) (λ x k h. refl) (λ k. false) (λ x k h. h) deep
      suffix_goes

  -- suffixes, behind the member that may have been read
  suffixes_go : (member : Option Name) (xs : List OneSuffix) (from to : Tokens) → Rows Suffix false xs from to → Stops (continues unary_level) to
      → Goes (suffixes_by (expression_at m) member from) (with_member member xs) to (first_deeper limit (suffix_starts (n + 1) (suffixes_of xs)))
  unfolding suffixes_by
  suffixes_go member xs from to is stops =
      goes_as (suffixes_by (expression_at m) member from) (with_member member xs) to (first_of deep xs)
      (first_deeper limit (suffix_starts (n + 1) (suffixes_of xs))) (suffixes_deeper xs)
      (goes_before (many begins_suffix (suffix_by (expression_at m))) (λ others. done (with_member member others)) from xs to (with_member member xs)
      to (first_of deep xs)
      (rows_go xs from to is (stops_wider (λ k. begins_suffix k || false) (continues unary_level)
      (suffix_wider m (expression_at m) (expression_exact m)) to stops)) refl)

  -- ---- behind a primary expression

  -- a primary expression's own tokens stand before those of its suffixes
  suffixed_deeper : (e : Expression) (ss : Suffixes)
      → or_else (first_deeper limit (inner_starts n e)) (first_deeper limit (suffix_starts (n + 1) ss))
      ≡ first_deeper limit (inner_starts n (suffixed e ss))
  suffixed_deeper e NoSuffixes = none_else (first_deeper limit (inner_starts n e))
  suffixed_deeper e (Index i ss) = sym (deeper_both limit (inner_starts n e) (suffix_starts (n + 1) (Index i ss)))
  suffixed_deeper e (Dot w ss) = sym (deeper_both limit (inner_starts n e) (suffix_starts (n + 1) (Dot w ss)))
  suffixed_deeper e (Arrow w ss) = sym (deeper_both limit (inner_starts n e) (suffix_starts (n + 1) (Arrow w ss)))

  -- the member that was read behind a variable has no such token
  member_deeper : (member : Option Name) (xs : List OneSuffix)
      → suffix_starts (n + 1) (suffixes_of xs) ≡ suffix_starts (n + 1) (suffixes_of (with_member member xs))
  member_deeper None xs = refl
  member_deeper (Some w) xs = refl

  -- a primary expression, and the suffixes behind it
  made_goes : (x : Expression × Option Name) (xs : List OneSuffix) (from mid to : Tokens)
      → IsFirst m (expression_at m) (expression_exact m) false x from mid → Stops (first_on x) mid
      → Rows Suffix false xs mid to → Stops (continues unary_level) to
      → Goes (postfix_by (expression_at m) from) (suffixed x.0 (suffixes_of (with_member x.1 xs))) to
      (first_deeper limit (inner_starts n (suffixed x.0 (suffixes_of (with_member x.1 xs)))))
  unfolding postfix_by
  made_goes x xs from mid to is apart rows stops =
      let others = with_member x.1 xs in
      let whole = suffixed x.0 (suffixes_of others) in
      let own = first_deeper limit (inner_starts n x.0) in
      let behind = first_deeper limit (suffix_starts (n + 1) (suffixes_of xs)) in
      goes_as (postfix_by (expression_at m) from) whole to (or_else own behind) (first_deeper limit (inner_starts n whole))
      (ap (λ ss. or_else own (first_deeper limit ss)) (member_deeper x.1 xs) ∙ suffixed_deeper x.0 (suffixes_of others))
      (goes_then (first_by (expression_at m)) (λ x. read (suffixes_by (expression_at m) x.1) (λ ss. done (suffixed x.0 (suffixes_of ss)))) from x mid
      whole to own behind (first_goes limit n m same inner_goes x from mid is apart)
      (goes_before (suffixes_by (expression_at m) x.1) (λ ss. done (suffixed x.0 (suffixes_of ss))) mid others to whole to behind
      (suffixes_go x.1 xs mid to rows stops) refl))

  -- an expression that binds as one with suffixes, or more
  pub postfix_goes : (e : Expression) (from to : Tokens) → IsExpression e from to → 12 ≤ binds e → Stops (continues unary_level) to
      → Goes (postfix_by (expression_at m) from) e to (first_deeper limit (inner_starts n e))
  postfix_goes e from to is l stops =
      let r = postfix_back m (expression_at m) (expression_exact m) false e from to ((is, l), tt) in
      let x : Expression × Option Name = r.0 in
      let second = r.3 in
      let tail = tail_rows m (expression_at m) (expression_exact m) (open_first x) x.1 false second.0 r.1 to second.2 in
      subst (λ y. Goes (postfix_by (expression_at m) from) y to (first_deeper limit (inner_starts n y)))
      (sym (second.1 ∙ ap (λ ss. suffixed x.0 (suffixes_of ss)) tail.1))
      (made_goes x tail.0 from r.1 to r.2 (second_meets m (expression_at m) (expression_exact m) false x e r.1 to second stops) tail.2 stops)
