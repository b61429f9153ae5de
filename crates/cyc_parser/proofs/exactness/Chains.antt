-- Readers of operands with binary operators between them are exact.
use Rattle.std.proofs.Common.{◌≡◌, ℕ, zero, suc, ◌+◌, ◌-◌, max, ◌≤◌, ◌<◌, ◌||◌, Bool, true, false, List, [], ◌∷◌, refl, sym, ap, subst, ◌∙◌, arith}
use Rattle.std.proofs.Common.{inl, inr}
use Rattle.std.proofs.lemmas.Bool.{eqb-true, eq-eqb, or_cases, cases_lt}
use Rattle.cyc_lexer.specs.Lexing.{Token}
use Rattle.cyc_lexer.specs.declared.token.Sign.{Sign}
use Rattle.cyc_lexer.specs.declared.token.Sign.TheVariants as sign_of
use Rattle.cyc_lexer.specs.declared.token.TokenKind.{TokenKind}
use Rattle.cyc_lexer.specs.declared.token.TokenKind.TheVariants as kind
use Rattle.cyc_tree.specs.declared.expression.Operator.{Operator}
use Rattle.cyc_tree.specs.declared.expression.Operator.TheVariants as operator
use Rattle.cyc_tree.specs.Tree.{Expression, Chain, AllOf, AnyOf, Assign, Links, NoLinks, MoreLinks}
use Rattle.cyc_tree.specs.View.{links_of}
use Rattle.cyc_tree.proofs.PartNesting.{inner_nesting, link_nesting}
use Rattle.source_grammar.specs.Phrases.{Tokens, IsSign}
use Rattle.source_grammar.specs.ExpressionGrammar.{IsExpression, AreLinks, binds, level_of, operator_sign, unary_level}
use Rattle.cyc_parser.specs.Parts.{chained}
use Rattle.cyc_parser.specs.Tests.{continues, strength, sign_strength, is_operator}
use Rattle.cyc_parser.specs.Reader.{Outcome, done, read, token, many, next_is}
use Rattle.cyc_parser.specs.ReadExpressions.{operator_of, operator_of_sign, level_over, links_by, chain_by}
use Rattle.cyc_parser.specs.Exact.{nowhere, Exact, Anything, Within, Then, Rows, IsToken, always}
use Rattle.cyc_parser.proofs.Exact.{token_exact, many_exact, exact_as, exact_wider}
use Rattle.cyc_parser.proofs.exactness.Composed.{then_exact, meets_exact, begins_with, begins_stops}
use Rattle.cyc_parser.proofs.exactness.Operands.{IsUnaryAt, IsOperandAt, Made, made_of, within, within_both, within_always, continues_at, continues_not}
use Rattle.cyc_parser.proofs.exactness.Operands.{continues_wider, rows_stop}

-- ---- operators

-- a sign as strong as an operator of a level is one of the level
sign_is : (s : Sign) (level : ℕ) → 3 ≤ level → level ≤ 10 → sign_strength s ≡ level + 1
    → (s ≡ operator_sign (operator_of_sign s)) × (level_of (operator_of_sign s) ≡ level)
sign_is sign_of.Or level l u h = (refl, omega (arith, h))
sign_is sign_of.Xor level l u h = (refl, omega (arith, h))
sign_is sign_of.And level l u h = (refl, omega (arith, h))
sign_is sign_of.EqualEqual level l u h = (refl, omega (arith, h))
sign_is sign_of.NotEqual level l u h = (refl, omega (arith, h))
sign_is sign_of.Less level l u h = (refl, omega (arith, h))
sign_is sign_of.LessEqual level l u h = (refl, omega (arith, h))
sign_is sign_of.Greater level l u h = (refl, omega (arith, h))
sign_is sign_of.GreaterEqual level l u h = (refl, omega (arith, h))
sign_is sign_of.ShiftLeft level l u h = (refl, omega (arith, h))
sign_is sign_of.ShiftRight level l u h = (refl, omega (arith, h))
sign_is sign_of.Plus level l u h = (refl, omega (arith, h))
sign_is sign_of.Minus level l u h = (refl, omega (arith, h))
sign_is sign_of.Star level l u h = (refl, omega (arith, h))
sign_is sign_of.Slash level l u h = (refl, omega (arith, h))
sign_is sign_of.Percent level l u h = (refl, omega (arith, h))
sign_is _ level l u h = absurd (omega (arith, h, l, u))

operator_is : (k : TokenKind) (level : ℕ) → 3 ≤ level → level ≤ 10 → strength k ≡ level + 1
    → (k ≡ kind.Sign (operator_sign (operator_of k))) × (level_of (operator_of k) ≡ level)
operator_is (kind.Sign s) level l u h = let e = sign_is s level l u h in (ap kind.Sign e.0, e.1)
operator_is _ level l u h = absurd (omega (arith, h))

sign_back : (o : Operator) → (operator_of_sign (operator_sign o) ≡ o) × (sign_strength (operator_sign o) ≡ level_of o + 1)
sign_back operator.BitOr = (refl, refl)
sign_back operator.BitXor = (refl, refl)
sign_back operator.BitAnd = (refl, refl)
sign_back operator.Equal = (refl, refl)
sign_back operator.NotEqual = (refl, refl)
sign_back operator.Less = (refl, refl)
sign_back operator.LessEqual = (refl, refl)
sign_back operator.Greater = (refl, refl)
sign_back operator.GreaterEqual = (refl, refl)
sign_back operator.ShiftLeft = (refl, refl)
sign_back operator.ShiftRight = (refl, refl)
sign_back operator.Add = (refl, refl)
sign_back operator.Subtract = (refl, refl)
sign_back operator.Multiply = (refl, refl)
sign_back operator.Divide = (refl, refl)
sign_back operator.Remainder = (refl, refl)

pub level_low : (o : Operator) → 3 ≤ level_of o
level_low operator.BitOr = omega arith
level_low operator.BitXor = omega arith
level_low operator.BitAnd = omega arith
level_low operator.Equal = omega arith
level_low operator.NotEqual = omega arith
level_low operator.Less = omega arith
level_low operator.LessEqual = omega arith
level_low operator.Greater = omega arith
level_low operator.GreaterEqual = omega arith
level_low operator.ShiftLeft = omega arith
level_low operator.ShiftRight = omega arith
level_low _ = omega arith

pub level_high : (o : Operator) → level_of o ≤ 10
level_high operator.BitOr = omega arith
level_high operator.BitXor = omega arith
level_high operator.BitAnd = omega arith
level_high operator.Equal = omega arith
level_high operator.NotEqual = omega arith
level_high operator.Less = omega arith
level_high operator.LessEqual = omega arith
level_high operator.Greater = omega arith
level_high operator.GreaterEqual = omega arith
level_high operator.ShiftLeft = omega arith
level_high operator.ShiftRight = omega arith
level_high _ = omega arith

-- some operator of each level
operator_at : (n level : ℕ) → level ≡ n + 3 → level ≤ 10 → (o : Operator) × (level_of o ≡ level)
operator_at zero level h u = (operator.BitOr, omega (arith, h))
operator_at (suc zero) level h u = (operator.BitXor, omega (arith, h))
operator_at (suc (suc zero)) level h u = (operator.BitAnd, omega (arith, h))
operator_at (suc (suc (suc zero))) level h u = (operator.Equal, omega (arith, h))
operator_at (suc (suc (suc (suc zero)))) level h u = (operator.Less, omega (arith, h))
operator_at (suc (suc (suc (suc (suc zero))))) level h u = (operator.ShiftLeft, omega (arith, h))
operator_at (suc (suc (suc (suc (suc (suc zero)))))) level h u = (operator.Add, omega (arith, h))
operator_at (suc (suc (suc (suc (suc (suc (suc zero))))))) level h u = (operator.Multiply, omega (arith, h))
operator_at (suc (suc (suc (suc (suc (suc (suc (suc n)))))))) level h u = absurd (omega (arith, h, u))

-- and its token
operator_token : (level : ℕ) → 3 ≤ level → level ≤ 10 → (t : Token) × (is_operator level t.kind ≡ true) × (t.at ≡ nowhere)
operator_token level l u =
    let o = operator_at (level - 3) level (omega (arith, l)) u in (
      record { kind = kind.Sign (operator_sign o.0); at = nowhere; text = [] },
      eq-eqb (sign_strength (operator_sign o.0)) (level + 1) (omega (arith, (sign_back o.0).1, o.1)),
      refl,
    )

-- ---- one level

module _ (d level : ℕ) (low : 3 ≤ level) (high : level ≤ 10) where
  -- an operator of the level, and its right operand
  abbrev pub IsLink : Bool → Operator × Expression → Tokens → Tokens → Type 0
  IsLink b x from to = (a : Tokens) × (level_of x.0 ≡ level) × IsSign (operator_sign x.0) from a × IsOperandAt (suc level) d b x.1 a to

  abbrev pub LinkRead : Bool → Operator × Expression → Tokens → Tokens → Type 0
  LinkRead = Then (IsToken (is_operator level)) (λ (t : Token). Made (λ (e : Expression). (operator_of t.kind, e)) (IsOperandAt (suc level) d))

  link_into : (b : Bool) (x : Operator × Expression) (from to : Tokens) → LinkRead b x from to → IsLink b x from to
  link_into b x from to h =
      let t : Token = h.0 in
      let k = operator_is t.kind level low high (eqb-true (strength t.kind) (level + 1) h.2.1) in
      subst (λ y. IsLink b y from to) (sym h.3.1)
      (h.1, k.1, (t.at, (t.text, h.2.0 ∙ ap (λ (q : TokenKind). record { kind = q; at = t.at; text = t.text } ∷ h.1) k.0)), h.3.2)

  pub link_back : (b : Bool) (x : Operator × Expression) (from to : Tokens) → IsLink b x from to → LinkRead b x from to
  link_back b x from to h =
      let o = sign_back x.0 in (
        record { kind = kind.Sign (operator_sign x.0); at = h.2.0; text = h.2.1.0 },
        h.0,
        (h.2.1.1, eq-eqb (sign_strength (operator_sign x.0)) (level + 1) (omega (arith, o.1, h.1))),
        (x.1, ap (λ (p : Operator). (p, x.1)) (sym o.0), h.3),
      )

  pub link_begins : (b : Bool) (x : Operator × Expression) (from to : Tokens) → IsLink b x from to → next_is (is_operator level) from ≡ true
  link_begins b x from to h = let r = link_back b x from to h in begins_with (is_operator level) from r.0 r.1 r.2.0 r.2.1

  links_into : (b : Bool) (xs : List (Operator × Expression)) (from to : Tokens) → Rows IsLink b xs from to
      → AreLinks level (links_of xs) from to × Within b d (link_nesting (links_of xs))
  links_into b [] from to h = (h, within_always b d 0 (omega arith))
  links_into b (x ∷ xs) from to h =
      let others = links_into b xs h.0 to h.2 in
      let x_is = h.1 in (
        (x_is.0, h.0, x_is.1, omega (arith, x_is.3.0.1), x_is.2, x_is.3.0.0, others.0),
        within_both b d (inner_nesting x.1) d (link_nesting (links_of xs)) d (max (inner_nesting x.1) (link_nesting (links_of xs)))
            (λ g f. omega (arith, g, f)) x_is.3.1 others.1,
      )

  links_back : (b : Bool) (ls : Links) (from to : Tokens) → AreLinks level ls from to → Within b d (link_nesting ls)
      → (xs : List (Operator × Expression)) × (ls ≡ links_of xs) × Rows IsLink b xs from to
  links_back b NoLinks from to h w = ([], refl, h)
  links_back b (MoreLinks o e ls) from to h w =
      let all = max (inner_nesting e) (link_nesting ls) in
      let others = links_back b ls h.1 to h.6 (within b d all d (link_nesting ls) (λ g. omega (arith, g)) w) in (
        (o, e) ∷ others.0,
        ap (MoreLinks o e) others.1,
        (h.1, (h.0, h.2, h.4, ((h.5, omega (arith, h.3)), within b d all d (inner_nesting e) (λ g. omega (arith, g)) w)), others.2),
      )

  module _ (operand : Tokens → Outcome Expression) (each : Exact Anything (IsOperandAt (suc level) d) (always (continues (suc level))) operand) where
    pub link_exact : Exact Anything IsLink (always (continues (suc level)))
        (read (token (is_operator level)) (λ t. read operand (λ e. done (operator_of t.kind, e))))
    link_exact =
        let some = operator_token level low high in
        exact_as Anything LinkRead (always (continues (suc level))) _
        (then_exact (IsToken (is_operator level)) (token (is_operator level)) (token_exact (is_operator level) some.0 some.1 some.2)
        (λ (t : Token). Made (λ (e : Expression). (operator_of t.kind, e)) (IsOperandAt (suc level) d)) (always (continues (suc level)))
        (λ t. read operand (λ e. done (operator_of t.kind, e)))
        (λ t. made_of (IsOperandAt (suc level) d) (always (continues (suc level))) operand each (λ e. (operator_of t.kind, e))
        (always (continues (suc level))) (λ e k h. h)))
        IsLink link_into link_back

    -- an operator of the level isn't as strong as what goes on with an operand
    pub operator_stops : (k : TokenKind) → is_operator level k ≡ true → continues (suc level) k ≡ false
    operator_stops k h = continues_not (suc level) k (omega (arith, eqb-true (strength k) (level + 1) h))

    pub goes_on_wider : (k : TokenKind) → (is_operator level k || continues (suc level) k) ≡ true → continues level k ≡ true
    goes_on_wider k h = elim (or_cases (is_operator level k) (continues (suc level) k) h) [
      | inl g ↦ continues_at level k (omega (arith, eqb-true (strength k) (level + 1) g))
      | inr g ↦ continues_wider (suc level) level (omega arith) k g
    ]

    abbrev pub links : Tokens → Outcome (List (Operator × Expression))
    links = many (is_operator level) (read (token (is_operator level)) (λ t. read operand (λ e. done (operator_of t.kind, e))))

    links_exact : Exact Anything (Rows IsLink) (always (continues level)) links
    links_exact = exact_wider Anything (Rows IsLink) (always (λ k. is_operator level k || continues (suc level) k)) (always (continues level)) links
        (many_exact (is_operator level) IsLink (always (continues (suc level))) _ link_exact link_begins (λ x. operator_stops) (continues (suc level))
        (λ x k h. h))
        (λ xs. goes_on_wider)

    abbrev pub ChainRead : Bool → Expression → Tokens → Tokens → Type 0
    ChainRead = Then (IsOperandAt (suc level) d) (λ (first : Expression). Made (λ xs. chained first (links_of xs)) (Rows IsLink))

    chain_made : (b : Bool) (first : Expression) (xs : List (Operator × Expression)) (from mid to : Tokens)
        → IsOperandAt (suc level) d b first from mid → Rows IsLink b xs mid to → IsOperandAt level d b (chained first (links_of xs)) from to
    chain_made b first [] from mid to h rows =
        ((subst (IsExpression first from) rows h.0.0, omega (arith, h.0.1)), h.1)
    chain_made b first (x ∷ xs) from mid to h rows =
        let ls = links_into b (x ∷ xs) mid to rows in
        let same : level_of x.0 ≡ level = rows.1.1 in (
          ((mid, omega (arith, same, h.0.1), h.0.0, subst (λ l. AreLinks l (links_of (x ∷ xs)) mid to) (sym same) ls.0), omega (arith, same)),
          within_both b d (inner_nesting first) d (link_nesting (links_of (x ∷ xs))) d (inner_nesting (chained first (links_of (x ∷ xs))))
              (λ g f. omega (arith, g, f)) h.1 ls.1,
        )

    chain_into : (b : Bool) (e : Expression) (from to : Tokens) → ChainRead b e from to → IsOperandAt level d b e from to
    chain_into b e from to h = subst (λ y. IsOperandAt level d b y from to) (sym h.3.1) (chain_made b h.0 h.3.0 from h.1 to h.2 h.3.2)

    chain_alone : (b : Bool) (e : Expression) (from to : Tokens) → IsExpression e from to → Within b d (inner_nesting e) → suc level ≤ binds e
        → ChainRead b e from to
    chain_alone b e from to h w l = (e, to, ((h, l), w), ([], refl, refl))

    chain_joined : (b : Bool) (first : Expression) (ls : Links) (e : Expression) (from mid to : Tokens) → e ≡ chained first ls
        → IsOperandAt (suc level) d b first from mid → (xs : List (Operator × Expression)) × (ls ≡ links_of xs) × Rows IsLink b xs mid to
        → ChainRead b e from to
    chain_joined b first ls e from mid to same h rows = (first, mid, h, (rows.0, same ∙ ap (chained first) rows.1, rows.2))

    -- what binds just as much as the level's operators is a chain of them
    chain_split : (b : Bool) (e : Expression) (from to : Tokens) → IsExpression e from to → Within b d (inner_nesting e) → level ≤ binds e
        → binds e < suc level
        → ChainRead b e from to
    chain_split b (Chain first NoLinks) from to h w l u = absurd h
    chain_split b (Chain first (MoreLinks o e ls)) from to h w l u =
        let same : level_of o ≡ level = omega (arith, l, u) in
        let all = max (inner_nesting first) (link_nesting (MoreLinks o e ls)) in
        chain_joined b first (MoreLinks o e ls) (Chain first (MoreLinks o e ls)) from h.0 to refl
        ((h.2, omega (arith, h.1, same)), within b d all d (inner_nesting first) (λ g. omega (arith, g)) w)
        (links_back b (MoreLinks o e ls) h.0 to (subst (λ l. AreLinks l (MoreLinks o e ls) h.0 to) same h.3)
        (within b d all d (link_nesting (MoreLinks o e ls)) (λ g. omega (arith, g)) w))
    chain_split b (AllOf first others) from to h w l u = absurd (omega (arith, low, l))
    chain_split b (AnyOf first others) from to h w l u = absurd (omega (arith, low, l))
    chain_split b (Assign place value) from to h w l u = absurd (omega (arith, low, l))
    chain_split b _ from to h w l u = absurd (omega (arith, high, u))

    pub chain_back : (b : Bool) (e : Expression) (from to : Tokens) → IsOperandAt level d b e from to → ChainRead b e from to
    chain_back b e from to h = elim (cases_lt (binds e) (suc level)) [
      | inl g ↦ chain_split b e from to h.0.0 h.1 h.0.1 g
      | inr g ↦ chain_alone b e from to h.0.0 h.1 g
    ]

    chained_exact : Exact Anything (IsOperandAt level d) (always (continues level))
        (read operand (λ first. read links (λ xs. done (chained first (links_of xs)))))
    chained_exact =
        exact_as Anything ChainRead (always (continues level)) _
        (meets_exact (IsOperandAt (suc level) d) (always (continues (suc level))) operand each
        (λ (first : Expression). Made (λ xs. chained first (links_of xs)) (Rows IsLink)) (always (continues level))
        (λ first. read links (λ xs. done (chained first (links_of xs))))
        (λ first. made_of (Rows IsLink) (always (continues level)) links links_exact (λ xs. chained first (links_of xs)) (always (continues level))
        (λ xs k h. h))
        (λ b first e mid to h s. rows_stop IsLink (is_operator level) (continues (suc level)) (continues level) link_begins
        (begins_stops (is_operator level) (continues (suc level)) operator_stops) (continues_wider (suc level) level (omega arith)) b h.0 mid to h.2
        s))
        (IsOperandAt level d) chain_into chain_back

-- ---- all levels

pub chain_exact : (d : ℕ) (unary : Tokens → Outcome Expression) → Exact Anything (IsUnaryAt d) (always (continues unary_level)) unary
    → (n : ℕ) → n ≤ 8 → Exact Anything (IsOperandAt (11 - n) d) (always (continues (11 - n))) (chain_by unary n)
unfolding chain_by links_by
chain_exact d unary each zero h = each
chain_exact d unary each (suc n) h =
    let last : 11 - suc n ≡ level_over n = omega arith in
    let next : 11 - n ≡ suc (level_over n) = omega (arith, h) in
    let operand : Exact Anything (IsOperandAt (suc (level_over n)) d) (always (continues (suc (level_over n)))) (chain_by unary n) =
    subst (λ l. Exact Anything (IsOperandAt l d) (always (continues l)) (chain_by unary n)) next (chain_exact d unary each n (omega (arith, h))) in
    subst (λ l. Exact Anything (IsOperandAt l d) (always (continues l)) (chain_by unary (suc n))) (sym last)
    (chained_exact d (level_over n) (omega (arith, h)) (omega arith) (chain_by unary n) operand)
