-- The reader of whole expressions is exact.
use Rattle.std.proofs.Common.{◌≡◌, ◌⊎◌, ℕ, suc, ◌≤◌, Bool, true, false, nat_le, if◌then◌else◌, refl, sym, subst, ◌∙◌, arith, inl, inr}
use Rattle.std.proofs.lemmas.Bool.{leb-true, le-leb, true≢false}
use Rattle.cyc_lexer.specs.declared.token.Sign.TheVariants as sign_of
use Rattle.cyc_lexer.specs.declared.token.TokenKind.{TokenKind}
use Rattle.cyc_lexer.specs.declared.token.TokenKind.TheVariants as kind
use Rattle.cyc_tree.specs.Tree.{Expression, Chain, Assign, NoLinks, MoreLinks}
use Rattle.cyc_tree.proofs.PartNesting.{inner_nesting, expression_nesting}
use Rattle.source_grammar.specs.Phrases.{Tokens, SignAt}
use Rattle.source_grammar.specs.ExpressionGrammar.{IsExpression, binds, unary_level}
use Rattle.cyc_parser.specs.Tests.{continues, is_sign}
use Rattle.cyc_parser.specs.Reader.{Outcome, done, read, choose, sign, next_is}
use Rattle.cyc_parser.specs.ReadExpressions.{any_of_by, assigned_by, assignment_by}
use Rattle.cyc_parser.specs.Exact.{Exact, Anything, Stops, Whole, Then, Either, IsDone, ends, always}
use Rattle.cyc_parser.proofs.Exact.{done_exact, exact_as, exact_wider}
use Rattle.cyc_parser.proofs.exactness.Types.{sign_exact}
use Rattle.cyc_parser.proofs.exactness.Composed.{then_exact, meets_exact, option_exact, begins_with, begins_stops, stops_wider}
use Rattle.cyc_parser.proofs.exactness.Operands.{IsExpressionAt, IsUnaryAt, IsOperandAt, Made, made_of, within, within_both, never_on, continues_wider}
use Rattle.cyc_parser.proofs.exactness.Chains.{level_low}
use Rattle.cyc_parser.proofs.exactness.Joins.{any_of_exact}

assign_apart : (k : TokenKind) → is_sign sign_of.Assign k ≡ true → continues 1 k ≡ false
assign_apart (kind.Sign sign_of.Assign) h = refl
assign_apart _ h = absurd cc

pub assign_joins : (k : TokenKind) → is_sign sign_of.Assign k ≡ true → continues 0 k ≡ true
assign_joins (kind.Sign sign_of.Assign) h = refl
assign_joins _ h = absurd cc

module _ (d : ℕ) (expr : Tokens → Outcome Expression) (inner : Exact Anything (IsExpressionAt d) (always (continues 0)) expr) where
  abbrev ValueRead : Expression → Bool → Expression → Tokens → Tokens → Type 0
  ValueRead first = Then (Whole (SignAt sign_of.Assign)) (λ (at : ℕ). Made (Assign first) (IsExpressionAt d))

  abbrev value : Expression → Tokens → Outcome Expression
  value first = read (sign sign_of.Assign) (λ _. read expr (λ v. done (Assign first v)))

  value_exact : (first : Expression) → Exact Anything (ValueRead first) (always (continues 0)) (value first)
  value_exact first =
      then_exact (Whole (SignAt sign_of.Assign)) (sign sign_of.Assign) (sign_exact sign_of.Assign)
      (λ (at : ℕ). Made (Assign first) (IsExpressionAt d))
      (always (continues 0)) (λ at. read expr (λ v. done (Assign first v)))
      (λ at. made_of (IsExpressionAt d) (always (continues 0)) expr inner (Assign first) (always (continues 0)) (λ v k h. h))

  pub value_begins : (first : Expression) (b : Bool) (e : Expression) (from to : Tokens) → ValueRead first b e from to
      → next_is (is_sign sign_of.Assign) from ≡ true
  value_begins first b e from to h = begins_with (is_sign sign_of.Assign) from _ _ h.2.1 refl

  -- an assignment to a unary expression, or the expression alone
  abbrev pub AssignedRead : Expression → Bool → Expression → Tokens → Tokens → Type 0
  AssignedRead first b e from to = ((unary_level ≤ binds first) × ValueRead first b e from to) ⊎ IsDone first b e from to

  assigned_if : (first : Expression) (t : Bool) → nat_le unary_level (binds first) ≡ t
      → Exact Anything (AssignedRead first) (always (continues 0))
      (if t then choose (is_sign sign_of.Assign) (value first) (done first) else done first)
  assigned_if first true h =
      exact_as Anything (Either (ValueRead first) (IsDone first)) (always (continues 0)) _
      (option_exact (is_sign sign_of.Assign) (always (continues 0)) (ValueRead first) (value first) (value_exact first) first (value_begins first)
      assign_joins)
      (AssignedRead first)
      (λ b e from to w. elim w [ inl g ↦ inl (leb-true unary_level (binds first) h, g) | inr g ↦ inr g ])
      (λ b e from to w. elim w [ inl g ↦ inl g.1 | inr g ↦ inr g ])
  assigned_if first false h =
      exact_as Anything (IsDone first) (always (continues 0)) (done first)
      (exact_wider Anything (IsDone first) ends (always (continues 0)) (done first) (done_exact first) (λ e k g. never_on g))
      (AssignedRead first) (λ b e from to w. inr w)
      (λ b e from to w. elim w [ inl g ↦ absurd (true≢false (sym (le-leb unary_level (binds first) g.0) ∙ h)) | inr g ↦ g ])

  assigned_exact : (first : Expression) → Exact Anything (AssignedRead first) (always (continues 0)) (assigned_by expr first)
  unfolding assigned_by
  assigned_exact first = assigned_if first (nat_le unary_level (binds first)) refl

  pub assigned_meets : (b : Bool) (first e : Expression) (mid to : Tokens) → AssignedRead first b e mid to → Stops (continues 0) to
      → Stops (continues 1) mid
  assigned_meets b first e mid to (inl h) s = begins_stops (is_sign sign_of.Assign) (continues 1) assign_apart mid (value_begins first b e mid to h.1)
  assigned_meets b first e mid to (inr h) s =
      stops_wider (continues 1) (continues 0) (continues_wider 1 0 (omega arith)) mid (subst (Stops (continues 0)) (sym h.1) s)

  -- ---- an operand, and what is assigned to it

  abbrev AssignmentRead : Bool → Expression → Tokens → Tokens → Type 0
  AssignmentRead = Then (IsOperandAt 1 d) AssignedRead

  assignment_made : (b : Bool) (first e : Expression) (from mid to : Tokens) → IsOperandAt 1 d b first from mid → AssignedRead first b e mid to
      → IsExpressionAt (suc d) b e from to
  assignment_made b first e from mid to h (inl g) =
      let v : Expression = g.1.3.0 in
      subst (λ y. IsExpressionAt (suc d) b y from to) (sym g.1.3.1) (
        (mid, g.1.1, g.0, h.0.0, (g.1.0, g.1.2), g.1.3.2.0),
        within_both b d (inner_nesting first) d (expression_nesting v) (suc d) (expression_nesting (Assign first v)) (λ k l. omega (arith, k, l)) h.1
            g.1.3.2.1,
      )
  assignment_made b first e from mid to h (inr g) =
      subst (λ y. IsExpressionAt (suc d) b y from to) (sym g.0)
      (subst (IsExpression first from) g.1 h.0.0, within b d (inner_nesting first) (suc d) (expression_nesting first) (λ k. omega (arith, k)) h.1)

  assignment_into : (b : Bool) (e : Expression) (from to : Tokens) → AssignmentRead b e from to → IsExpressionAt (suc d) b e from to
  assignment_into b e from to h = assignment_made b h.0 e from h.1 to h.2 h.3

  assignment_alone : (b : Bool) (e : Expression) (from to : Tokens) → IsExpressionAt (suc d) b e from to → 1 ≤ binds e → AssignmentRead b e from to
  assignment_alone b e from to h l =
      (e, to, ((h.0, l), within b (suc d) (expression_nesting e) d (inner_nesting e) (λ k. omega (arith, k)) h.1), inr (refl, refl))

  pub assignment_back : (b : Bool) (e : Expression) (from to : Tokens) → IsExpressionAt (suc d) b e from to → AssignmentRead b e from to
  assignment_back b (Assign place v) from to h =
      let is = h.0 in
      let all = expression_nesting (Assign place v) in (
        place,
        is.0,
        ((is.3, omega (arith, is.2)), within b (suc d) all d (inner_nesting place) (λ k. omega (arith, k)) h.1),
        inl (is.2, (is.4.0, is.1, is.4.1, (v, refl, (is.5, within b (suc d) all d (expression_nesting v) (λ k. omega (arith, k)) h.1)))),
      )
  assignment_back b (Chain first NoLinks) from to h = absurd h.0
  assignment_back b (Chain first (MoreLinks o e ls)) from to h =
      assignment_alone b (Chain first (MoreLinks o e ls)) from to h (omega (arith, level_low o))
  assignment_back b e from to h = assignment_alone b e from to h (omega arith)

  pub assignment_exact : (unary : Tokens → Outcome Expression) → Exact Anything (IsUnaryAt d) (always (continues unary_level)) unary
      → Exact Anything (IsExpressionAt (suc d)) (always (continues 0)) (assignment_by unary expr)
  unfolding assignment_by
  assignment_exact unary each =
      exact_as Anything AssignmentRead (always (continues 0)) _
      (meets_exact (IsOperandAt 1 d) (always (continues 1)) (any_of_by unary) (any_of_exact d unary each)
      AssignedRead (always (continues 0)) (assigned_by expr) assigned_exact assigned_meets)
      (IsExpressionAt (suc d)) assignment_into assignment_back
