-- The reader of unary expressions is exact.
use Rattle.std.proofs.Common.{◌≡◌, ℕ, suc, ◌≤◌, ◌<◌, Bool, true, false, [], ◌∷◌, refl, sym, ap, subst, ◌∙◌, arith, inl, inr}
use Rattle.std.proofs.lemmas.Bool.{cases_lt}
use Rattle.cyc_lexer.specs.Lexing.{Token}
use Rattle.cyc_lexer.specs.declared.token.Keyword.{Keyword}
use Rattle.cyc_lexer.specs.declared.token.Keyword.TheVariants as word
use Rattle.cyc_lexer.specs.declared.token.Sign.{Sign}
use Rattle.cyc_lexer.specs.declared.token.Sign.TheVariants as sign_of
use Rattle.cyc_lexer.specs.declared.token.TokenKind.{TokenKind}
use Rattle.cyc_lexer.specs.declared.token.TokenKind.TheVariants as kind
use Rattle.cyc_tree.specs.declared.expression.Prefix.{Prefix}
use Rattle.cyc_tree.specs.declared.expression.Prefix.TheVariants as prefix
use Rattle.cyc_tree.specs.Tree.{Name, Expression, Number, Character, Text, Null, HeapRegion, UniqueRegion, Variable, Call, MakeUnion, NumElts}
use Rattle.cyc_tree.specs.Tree.{Grouped, Suffixed, Prefixed, New, NewIn, Chain, NoLinks, MoreLinks, NoSuffixes, Index, Dot, Arrow, One, Array}
use Rattle.cyc_tree.specs.Tree as tree
use Rattle.cyc_tree.proofs.PartNesting.{inner_nesting, made_nesting, expression_nesting}
use Rattle.source_grammar.specs.Phrases.{Tokens, KeywordAt, SignAt, IsName}
use Rattle.source_grammar.specs.ExpressionGrammar.{IsExpression, IsMade, binds, unary_level, prefix_sign}
use Rattle.cyc_parser.specs.Tests.{continues, is_sign, is_keyword, is_prefix, begins_unary, begins_primary}
use Rattle.cyc_parser.specs.Reader.{Outcome, done, read, token, sign, keyword, next_is}
use Rattle.cyc_parser.specs.ReadTypes.{name}
use Rattle.cyc_parser.specs.ReadExpressions.{prefix_of, parenthesized_by, array_by, made_by, made_in_by, prefixed_by, postfix_by, operation_by}
use Rattle.cyc_parser.specs.Exact.{nowhere, Exact, Anything, Within, Whole, Then, Either, IsToken, ends, always}
use Rattle.cyc_parser.proofs.Exact.{token_exact, exact_as, exact_wider}
use Rattle.cyc_parser.proofs.exactness.Types.{sign_exact, keyword_exact, name_exact}
use Rattle.cyc_parser.proofs.exactness.Composed.{then_exact, meets_exact, either_exact, begins_with, begins_stops}
use Rattle.cyc_parser.proofs.exactness.Begins.{expression_begins}
use Rattle.cyc_parser.proofs.exactness.Operands.{IsExpressionAt, IsUnaryAt, IsParenthesizedAt, IsOperandAt, Made, made_of, within, within_both, never_on}
use Rattle.cyc_parser.proofs.exactness.Chains.{level_high}
use Rattle.cyc_parser.proofs.exactness.Primaries.{Enclosed, enclosed_exact, inside_exact}
use Rattle.cyc_parser.proofs.exactness.Postfix.{postfix_exact}

-- ---- the first token

pub primary_begins : (e : Expression) (from to : Tokens) → IsExpression e from to → 12 ≤ binds e → next_is begins_primary from ≡ true
primary_begins (Number at value suffix) from to h l = begins_with begins_primary from _ _ h.1 refl
primary_begins (Character at byte) from to h l = begins_with begins_primary from _ _ h.1 refl
primary_begins (Text at bytes) from to h l = begins_with begins_primary from _ _ h.1 refl
primary_begins (Null at) from to h l = begins_with begins_primary from _ _ h.1 refl
primary_begins (HeapRegion at) from to h l = begins_with begins_primary from _ _ h.1 refl
primary_begins (UniqueRegion at) from to h l = begins_with begins_primary from _ _ h.1 refl
primary_begins (Variable name) from to h l = begins_with begins_primary from _ _ h refl
primary_begins (Call name arguments) from to h l = begins_with begins_primary from _ _ h.2 refl
primary_begins (MakeUnion tag member value) from to h l = begins_with begins_primary from _ _ h.3 refl
primary_begins (NumElts at operand) from to h l = begins_with begins_primary from _ _ h.1.1 refl
primary_begins (Grouped at e) from to h l = begins_with begins_primary from _ _ h.2.1 refl
primary_begins (Suffixed e NoSuffixes) from to h l = absurd h
primary_begins (Suffixed e (Index index others)) from to h l = primary_begins e from h.0 h.2 (omega (arith, h.1))
primary_begins (Suffixed e (Dot member others)) from to h l = primary_begins e from h.0 h.2 (omega (arith, h.1))
primary_begins (Suffixed e (Arrow member others)) from to h l = primary_begins e from h.0 h.2 (omega (arith, h.1))
primary_begins (Chain first NoLinks) from to h l = absurd h
primary_begins (Chain first (MoreLinks o operand others)) from to h l = absurd (omega (arith, l, level_high o))
primary_begins _ from to h l = absurd (omega (arith, l))

pub primary_no_new : (k : TokenKind) → begins_primary k ≡ true → is_keyword word.New k ≡ false
primary_no_new (kind.Keyword word.New) h = absurd cc
primary_no_new _ h = refl

pub primary_no_rnew : (k : TokenKind) → begins_primary k ≡ true → is_keyword word.Rnew k ≡ false
primary_no_rnew (kind.Keyword word.Rnew) h = absurd cc
primary_no_rnew _ h = refl

pub primary_no_prefix : (k : TokenKind) → begins_primary k ≡ true → is_prefix k ≡ false
primary_no_prefix (kind.Sign sign_of.Minus) h = absurd cc
primary_no_prefix (kind.Sign sign_of.Not) h = absurd cc
primary_no_prefix (kind.Sign sign_of.Tilde) h = absurd cc
primary_no_prefix (kind.Sign sign_of.Star) h = absurd cc
primary_no_prefix (kind.Sign sign_of.And) h = absurd cc
primary_no_prefix _ h = refl

prefix_no_word : (w : Keyword) (k : TokenKind) → is_prefix k ≡ true → is_keyword w k ≡ false
prefix_no_word w (kind.Sign s) h = refl
prefix_no_word w _ h = absurd cc

pub unary_no_brace : (k : TokenKind) → begins_unary k ≡ true → is_sign sign_of.LeftBrace k ≡ false
unary_no_brace (kind.Sign sign_of.LeftBrace) h = absurd cc
unary_no_brace _ h = refl

-- ---- prefix operators

prefix_sign_is : (s : Sign) → is_prefix (kind.Sign s) ≡ true → s ≡ prefix_sign (prefix_of (kind.Sign s))
prefix_sign_is sign_of.Minus h = refl
prefix_sign_is sign_of.Not h = refl
prefix_sign_is sign_of.Tilde h = refl
prefix_sign_is sign_of.Star h = refl
prefix_sign_is sign_of.And h = refl
prefix_sign_is _ h = absurd cc

prefix_is : (k : TokenKind) → is_prefix k ≡ true → k ≡ kind.Sign (prefix_sign (prefix_of k))
prefix_is (kind.Sign s) h = ap kind.Sign (prefix_sign_is s h)
prefix_is _ h = absurd cc

pub prefix_back : (o : Prefix) → (is_prefix (kind.Sign (prefix_sign o)) ≡ true) × (o ≡ prefix_of (kind.Sign (prefix_sign o)))
prefix_back prefix.Negate = (refl, refl)
prefix_back prefix.Not = (refl, refl)
prefix_back prefix.Complement = (refl, refl)
prefix_back prefix.Dereference = (refl, refl)
prefix_back prefix.AddressOf = (refl, refl)

module _ (d : ℕ) (expr : Tokens → Outcome Expression) (inner : Exact Anything (IsExpressionAt d) (always (continues 0)) expr)
    (unary : Tokens → Outcome Expression) (each : Exact Anything (IsUnaryAt d) (always (continues unary_level)) unary) where
  -- ---- what is made

  abbrev IsMadeAt : Bool → tree.Made → Tokens → Tokens → Type 0
  IsMadeAt b m from to = IsMade m from to × Within b d (made_nesting m)

  abbrev ElementRead : (i : Name) (count : Expression) → Bool → tree.Made → Tokens → Tokens → Type 0
  ElementRead i count = Then (Whole (SignAt sign_of.Colon)) (λ (at : ℕ). Enclosed d expr inner sign_of.RightBrace (λ e. Array i count e))

  abbrev CountRead : Name → Bool → tree.Made → Tokens → Tokens → Type 0
  CountRead i = Then (Whole (SignAt sign_of.Less)) (λ (at : ℕ). Then (IsExpressionAt d) (λ (count : Expression). ElementRead i count))

  abbrev ArrayRead : Bool → tree.Made → Tokens → Tokens → Type 0
  ArrayRead =
      Then (Whole (SignAt sign_of.LeftBrace)) (λ (at : ℕ). Then (Whole (KeywordAt word.For))
      (λ (at : ℕ). Then (Whole IsName) (λ (i : Name). CountRead i)))

  abbrev element_by : Name → Expression → Tokens → Outcome tree.Made
  element_by i count = read (sign sign_of.Colon) (λ _. read expr (λ e. read (sign sign_of.RightBrace) (λ _. done (Array i count e))))

  count_exact : (i : Name) → Exact Anything (CountRead i) ends (read (sign sign_of.Less) (λ _. read expr (λ count. element_by i count)))
  count_exact i =
      then_exact (Whole (SignAt sign_of.Less)) (sign sign_of.Less) (sign_exact sign_of.Less)
      (λ (at : ℕ). Then (IsExpressionAt d) (λ (count : Expression). ElementRead i count)) ends
      (λ _. read expr (λ count. element_by i count))
      (λ at. meets_exact (IsExpressionAt d) (always (continues 0)) expr inner (λ (count : Expression). ElementRead i count) ends (element_by i)
      (λ count. then_exact (Whole (SignAt sign_of.Colon)) (sign sign_of.Colon) (sign_exact sign_of.Colon)
      (λ (at : ℕ). Enclosed d expr inner sign_of.RightBrace (λ e. Array i count e)) ends
      (λ _. read expr (λ e. read (sign sign_of.RightBrace) (λ _. done (Array i count e))))
      (λ at. enclosed_exact d expr inner sign_of.RightBrace (λ e. Array i count e) refl))
      (λ b count m mid to h s. ap (next_is (continues 0)) h.2.1))

  array_exact : Exact Anything ArrayRead ends (array_by expr)
  unfolding array_by
  array_exact =
      then_exact (Whole (SignAt sign_of.LeftBrace)) (sign sign_of.LeftBrace) (sign_exact sign_of.LeftBrace)
      (λ (at : ℕ). Then (Whole (KeywordAt word.For)) (λ (at : ℕ). Then (Whole IsName) (λ (i : Name). CountRead i))) ends _
      (λ at. then_exact (Whole (KeywordAt word.For)) (keyword word.For) (keyword_exact word.For)
      (λ (at : ℕ). Then (Whole IsName) (λ (i : Name). CountRead i)) ends _
      (λ at. then_exact (Whole IsName) name name_exact (λ (i : Name). CountRead i) ends _ count_exact))

  abbrev OneRead : Bool → tree.Made → Tokens → Tokens → Type 0
  OneRead = Made One (IsUnaryAt d)

  array_into : (b : Bool) (m : tree.Made) (from to : Tokens) → ArrayRead b m from to → IsMadeAt b m from to
  array_into b m from to h =
      let word_is = h.3 in
      let name_is = word_is.3 in
      let less_is = name_is.3 in
      let count_is = less_is.3 in
      let colon_is = count_is.3 in
      let element_is = colon_is.3 in
      subst (λ y. IsMadeAt b y from to) (sym element_is.3.1) (
        (
          h.1,
          word_is.1,
          name_is.1,
          less_is.1,
          count_is.1,
          colon_is.1,
          element_is.1,
          (h.0, h.2),
          (word_is.0, word_is.2),
          name_is.2,
          (less_is.0, less_is.2),
          count_is.2.0,
          (colon_is.0, colon_is.2),
          element_is.2.0,
          (element_is.3.0, element_is.3.2),
        ),
        within_both b d (expression_nesting count_is.0) d (expression_nesting element_is.0) d (made_nesting (Array name_is.0 count_is.0 element_is.0))
            (λ k l. omega (arith, k, l)) count_is.2.1 element_is.2.1,
      )

  made_into : (b : Bool) (m : tree.Made) (from to : Tokens) → Either ArrayRead OneRead b m from to → IsMadeAt b m from to
  made_into b m from to (inl h) = array_into b m from to h
  made_into b m from to (inr h) = subst (λ y. IsMadeAt b y from to) (sym h.1) ((h.2.0.1, h.2.0.0), h.2.1)

  made_back : (b : Bool) (m : tree.Made) (from to : Tokens) → IsMadeAt b m from to → Either ArrayRead OneRead b m from to
  made_back b (One e) from to h = inr (e, refl, ((h.0.1, h.0.0), h.1))
  made_back b (Array i count e) from to h =
      let is = h.0 in
      let all = made_nesting (Array i count e) in
      inl (
        is.7.0,
        is.0,
        is.7.1,
        (
          is.8.0,
          is.1,
          is.8.1,
          (
            i,
            is.2,
            is.9,
            (
              is.10.0,
              is.3,
              is.10.1,
              (
                count,
                is.4,
                (is.11, within b d all d (expression_nesting count) (λ k. omega (arith, k)) h.1),
                (
                  is.12.0,
                  is.5,
                  is.12.1,
                  (e, is.6, (is.13, within b d all d (expression_nesting e) (λ k. omega (arith, k)) h.1), (is.14.0, refl, is.14.1)),
                ),
              ),
            ),
          ),
        ),
      )

  made_exact_by : Exact Anything IsMadeAt (always (continues unary_level)) (made_by unary expr)
  unfolding made_by
  made_exact_by =
      exact_as Anything (Either ArrayRead OneRead) (always (continues unary_level)) _
      (either_exact (is_sign sign_of.LeftBrace) (always (continues unary_level)) ArrayRead (array_by expr)
      (exact_wider Anything ArrayRead ends (always (continues unary_level)) (array_by expr) array_exact (λ m k h. never_on h))
      OneRead (read unary (λ e. done (One e)))
      (made_of (IsUnaryAt d) (always (continues unary_level)) unary each One (always (continues unary_level)) (λ e k h. h))
      (λ b m from to h. begins_with (is_sign sign_of.LeftBrace) from _ _ h.2.1 refl)
      (λ b m from to h s. begins_stops begins_unary (is_sign sign_of.LeftBrace) unary_no_brace from (expression_begins h.0 from to h.2.0.0)))
      IsMadeAt made_into made_back

  -- ---- operations

  abbrev NewRead : Bool → Expression → Tokens → Tokens → Type 0
  NewRead = Then (Whole (KeywordAt word.New)) (λ (at : ℕ). Made (New at) IsMadeAt)

  new_exact : Exact Anything NewRead (always (continues unary_level))
      (read (keyword word.New) (λ at. read (made_by unary expr) (λ m. done (New at m))))
  new_exact =
      then_exact (Whole (KeywordAt word.New)) (keyword word.New) (keyword_exact word.New) (λ (at : ℕ). Made (New at) IsMadeAt)
      (always (continues unary_level))
      (λ at. read (made_by unary expr) (λ m. done (New at m)))
      (λ at. made_of IsMadeAt (always (continues unary_level)) (made_by unary expr) made_exact_by (New at) (always (continues unary_level))
      (λ m k h. h))

  abbrev HandleRead : ℕ → Bool → Expression → Tokens → Tokens → Type 0
  HandleRead at = Then (IsParenthesizedAt d) (λ (handle : Expression). Made (NewIn at handle) IsMadeAt)

  abbrev NewInRead : Bool → Expression → Tokens → Tokens → Type 0
  NewInRead = Then (Whole (KeywordAt word.Rnew)) HandleRead

  new_in_exact : Exact Anything NewInRead (always (continues unary_level)) (made_in_by unary expr)
  unfolding made_in_by
  new_in_exact =
      then_exact (Whole (KeywordAt word.Rnew)) (keyword word.Rnew) (keyword_exact word.Rnew) HandleRead (always (continues unary_level)) _
      (λ at. then_exact (IsParenthesizedAt d) (parenthesized_by expr) (inside_exact d expr inner)
      (λ (handle : Expression). Made (NewIn at handle) IsMadeAt)
      (always (continues unary_level)) (λ handle. read (made_by unary expr) (λ m. done (NewIn at handle m)))
      (λ handle. made_of IsMadeAt (always (continues unary_level)) (made_by unary expr) made_exact_by (NewIn at handle)
      (always (continues unary_level)) (λ m k h. h)))

  abbrev PrefixedRead : Bool → Expression → Tokens → Tokens → Type 0
  PrefixedRead = Then (IsToken is_prefix) (λ (t : Token). Made (λ e. Prefixed t.at (prefix_of t.kind) e) (IsUnaryAt d))

  prefixed_exact : Exact Anything PrefixedRead (always (continues unary_level)) (prefixed_by unary)
  unfolding prefixed_by
  prefixed_exact =
      then_exact (IsToken is_prefix) (token is_prefix)
      (token_exact is_prefix (record { kind = kind.Sign sign_of.Minus; at = nowhere; text = [] }) refl refl)
      (λ (t : Token). Made (λ e. Prefixed t.at (prefix_of t.kind) e) (IsUnaryAt d)) (always (continues unary_level)) _
      (λ t. made_of (IsUnaryAt d) (always (continues unary_level)) unary each (λ e. Prefixed t.at (prefix_of t.kind) e)
      (always (continues unary_level)) (λ e k h. h))

  abbrev PostfixIs : Bool → Expression → Tokens → Tokens → Type 0
  PostfixIs = IsOperandAt 12 (suc d)

  postfix_stops : (test : TokenKind → Bool) → ((k : TokenKind) → begins_primary k ≡ true → test k ≡ false)
      → (b : Bool) (e : Expression) (from to : Tokens) → PostfixIs b e from to → next_is test from ≡ false
  postfix_stops test apart b e from to h = begins_stops begins_primary test apart from (primary_begins e from to h.0.0 h.0.1)

  prefixed_stops : (w : Keyword) → ((k : TokenKind) → begins_primary k ≡ true → is_keyword w k ≡ false)
      → (b : Bool) (e : Expression) (from to : Tokens) → Either PrefixedRead PostfixIs b e from to → next_is (is_keyword w) from ≡ false
  prefixed_stops w apart b e from to (inl h) = ap (next_is (is_keyword w)) h.2.0 ∙ prefix_no_word w h.0.kind h.2.1
  prefixed_stops w apart b e from to (inr h) = postfix_stops (is_keyword w) apart b e from to h

  new_apart : (b : Bool) (e : Expression) (from to : Tokens) → Either NewInRead (Either PrefixedRead PostfixIs) b e from to
      → next_is (is_keyword word.New) from ≡ false
  new_apart b e from to (inl h) = ap (next_is (is_keyword word.New)) h.2.1
  new_apart b e from to (inr h) = prefixed_stops word.New primary_no_new b e from to h

  abbrev OperationRead : Bool → Expression → Tokens → Tokens → Type 0
  OperationRead = Either NewRead (Either NewInRead (Either PrefixedRead PostfixIs))

  operation_into : (b : Bool) (e : Expression) (from to : Tokens) → OperationRead b e from to → IsUnaryAt (suc d) b e from to
  operation_into b e from to (inl h) =
      let m = h.3 in
      subst (λ y. IsUnaryAt (suc d) b y from to) (sym m.1)
      (((h.1, h.2, m.2.0), omega arith), within b d (made_nesting m.0) (suc d) (inner_nesting (New h.0 m.0)) (λ k. omega (arith, k)) m.2.1)
  operation_into b e from to (inr (inl h)) =
      let handle = h.3 in
      let m = handle.3 in
      subst (λ y. IsUnaryAt (suc d) b y from to) (sym m.1) (
        ((h.1, handle.1, h.2, handle.2.0, m.2.0), omega arith),
        within_both b d (expression_nesting handle.0) d (made_nesting m.0) (suc d) (inner_nesting (NewIn h.0 handle.0 m.0))
            (λ k l. omega (arith, k, l)) handle.2.1 m.2.1,
      )
  operation_into b e from to (inr (inr (inl h))) =
      let t : Token = h.0 in
      let o = h.3 in
      subst (λ y. IsUnaryAt (suc d) b y from to) (sym o.1) (
        (
          (
            h.1,
            o.2.0.1,
            (t.text, h.2.0 ∙ ap (λ (q : TokenKind). record { kind = q; at = t.at; text = t.text } ∷ h.1) (prefix_is t.kind h.2.1)),
            o.2.0.0,
          ),
          omega arith,
        ),
        within b d (inner_nesting o.0) (suc d) (inner_nesting (Prefixed t.at (prefix_of t.kind) o.0)) (λ k. omega (arith, k)) o.2.1,
      )
  operation_into b e from to (inr (inr (inr h))) = ((h.0.0, omega (arith, h.0.1)), h.1)

  operation_split : (b : Bool) (e : Expression) (from to : Tokens) → IsUnaryAt (suc d) b e from to → binds e < 12 → OperationRead b e from to
  operation_split b (New at m) from to h u =
      let is = h.0.0 in
      inl (at, is.0, is.1, (m, refl, (is.2, within b (suc d) (inner_nesting (New at m)) d (made_nesting m) (λ k. omega (arith, k)) h.1)))
  operation_split b (NewIn at handle m) from to h u =
      let is = h.0.0 in
      let all = inner_nesting (NewIn at handle m) in
      inr (inl (
        at,
        is.0,
        is.2,
        (
          handle,
          is.1,
          (is.3, within b (suc d) all d (expression_nesting handle) (λ k. omega (arith, k)) h.1),
          (m, refl, (is.4, within b (suc d) all d (made_nesting m) (λ k. omega (arith, k)) h.1)),
        ),
      ))
  operation_split b (Prefixed at o e) from to h u =
      let is = h.0.0 in
      let p = prefix_back o in
      inr (inr (inl (
        record { kind = kind.Sign (prefix_sign o); at = at; text = is.2.0 },
        is.0,
        (is.2.1, p.0),
        (
          e,
          ap (λ q. Prefixed at q e) p.1,
          (
            (is.3, is.1),
            within b (suc d) (inner_nesting (Prefixed at o e)) d (inner_nesting e)
                (λ k. omega (arith, k)) h.1,
          ),
        ),
      )))
  operation_split b (Chain first NoLinks) from to h u = absurd h.0.0
  operation_split b (Chain first (MoreLinks o e ls)) from to h u = absurd (omega (arith, h.0.1, level_high o))
  operation_split b _ from to h u = absurd (omega (arith, h.0.1, u))

  operation_back : (b : Bool) (e : Expression) (from to : Tokens) → IsUnaryAt (suc d) b e from to → OperationRead b e from to
  operation_back b e from to h = elim (cases_lt (binds e) 12) [
    | inl g ↦ operation_split b e from to h g
    | inr g ↦ inr (inr (inr ((h.0.0, g), h.1)))
  ]

  pub operation_exact : Exact Anything (IsUnaryAt (suc d)) (always (continues unary_level)) (operation_by unary expr)
  unfolding operation_by
  operation_exact =
      exact_as Anything OperationRead (always (continues unary_level)) _
      (either_exact (is_keyword word.New) (always (continues unary_level)) NewRead _ new_exact (Either NewInRead (Either PrefixedRead PostfixIs)) _
      (either_exact (is_keyword word.Rnew) (always (continues unary_level)) NewInRead (made_in_by unary expr) new_in_exact
      (Either PrefixedRead PostfixIs) _
      (either_exact is_prefix (always (continues unary_level)) PrefixedRead (prefixed_by unary) prefixed_exact PostfixIs (postfix_by expr)
      (postfix_exact d expr inner)
      (λ b e from to h. begins_with is_prefix from h.0 h.1 h.2.0 h.2.1) (λ b e from to h s. postfix_stops is_prefix primary_no_prefix b e from to h))
      (λ b e from to h. begins_with (is_keyword word.Rnew) from _ _ h.2.1 refl)
      (λ b e from to h s. prefixed_stops word.Rnew primary_no_rnew b e from to h))
      (λ b e from to h. begins_with (is_keyword word.New) from _ _ h.2.1 refl) (λ b e from to h s. new_apart b e from to h))
      (IsUnaryAt (suc d)) operation_into operation_back
