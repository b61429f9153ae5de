-- Readers of operands of `&&` and `||`, and of assignments, are exact.
use Rattle.std.proofs.Common.{◌≡◌, ℕ, suc, max, ◌<◌, ◌||◌, Bool, true, false, List, [], ◌∷◌, refl, sym, ap, subst, arith, inl, inr}
use Rattle.std.proofs.lemmas.Bool.{or_cases, cases_lt}
use Rattle.cyc_lexer.specs.declared.token.Sign.{Sign}
use Rattle.cyc_lexer.specs.declared.token.Sign.TheVariants as sign_of
use Rattle.cyc_lexer.specs.declared.token.TokenKind.{TokenKind}
use Rattle.cyc_lexer.specs.declared.token.TokenKind.TheVariants as kind
use Rattle.cyc_tree.specs.Tree.{Expression, Chain, AllOf, AnyOf, Assign, NoLinks, MoreLinks, Expressions, NoExpressions, MoreExpressions}
use Rattle.cyc_tree.specs.View.{expressions_of}
use Rattle.cyc_tree.proofs.PartNesting.{inner_nesting, operand_nesting}
use Rattle.source_grammar.specs.Phrases.{Tokens}
use Rattle.source_grammar.specs.ExpressionGrammar.{IsExpression, AreOperands, binds, unary_level}
use Rattle.cyc_parser.specs.Tests.{continues, is_sign}
use Rattle.cyc_parser.specs.Reader.{Outcome, done, read, many, behind}
use Rattle.cyc_parser.specs.ReadExpressions.{chain_by, all_of, any_of, all_of_by, any_of_by}
use Rattle.cyc_parser.specs.Exact.{Exact, Anything, Within, Then, Rows, always}
use Rattle.cyc_parser.proofs.Exact.{exact_as, exact_wider}
use Rattle.cyc_parser.proofs.exactness.Composed.{meets_exact, begins_stops}
use Rattle.cyc_parser.proofs.exactness.Operands.{IsUnaryAt, IsOperandAt, Made, made_of, within, within_both, continues_wider, rows_stop, IsBehind}
use Rattle.cyc_parser.proofs.exactness.Operands.{rows_into, rows_back, rows_exact, behind_begins}
use Rattle.cyc_parser.proofs.exactness.Chains.{level_low, chain_exact}

-- ---- operands with one sign between them

abbrev IsOthers : ℕ → Sign → ℕ → Bool → Expressions → Tokens → Tokens → Type 0
IsOthers d s least b es from to = AreOperands s least es from to × Within b d (operand_nesting es)

-- an expression of a level, taken apart: operands, of which there are two at least
abbrev Parts : (d level : ℕ) → Sign → (Expression → List Expression → Expression) → Bool → Expression → Tokens → Tokens → Type 0
Parts d level s join b e from to =
    (first : Expression) × (others : Expressions) × (mid : Tokens) × ((es : List Expression) → others ≡ expressions_of es → e ≡ join first es)
    × IsOperandAt (suc level) d b first from mid × IsOthers d s (suc level) b others mid to

module _ (d level : ℕ) (s : Sign) (join : Expression → List Expression → Expression) (alone : (e : Expression) → e ≡ join e [])
    (apart : (k : TokenKind) → is_sign s k ≡ true → continues (suc level) k ≡ false)
    (joins : (k : TokenKind) → is_sign s k ≡ true → continues level k ≡ true)
    (joined : (b : Bool) (first e : Expression) (es : List Expression) (from mid to : Tokens) → IsOperandAt (suc level) d b first from mid
    → IsOthers d s (suc level) b (MoreExpressions e (expressions_of es)) mid to → IsOperandAt level d b (join first (e ∷ es)) from to)
    (split : (b : Bool) (e : Expression) (from to : Tokens) → IsOperandAt level d b e from to → binds e < suc level
    → Parts d level s join b e from to)
    (operand : Tokens → Outcome Expression) (each : Exact Anything (IsOperandAt (suc level) d) (always (continues (suc level))) operand) where
  abbrev Others : Bool → List Expression → Tokens → Tokens → Type 0
  Others = Rows (IsBehind s (suc level) inner_nesting operand_nesting refl (λ e es. refl) d)

  abbrev others : Tokens → Outcome (List Expression)
  others = many (is_sign s) (behind s operand)

  goes_on_wider : (k : TokenKind) → (is_sign s k || continues (suc level) k) ≡ true → continues level k ≡ true
  goes_on_wider k h = elim (or_cases (is_sign s k) (continues (suc level) k) h) [
    | inl g ↦ joins k g
    | inr g ↦ continues_wider (suc level) level (omega arith) k g
  ]

  others_exact : Exact Anything Others (always (continues level)) others
  others_exact =
      exact_wider Anything Others (always (λ k. is_sign s k || continues (suc level) k)) (always (continues level)) others
      (rows_exact s (suc level) inner_nesting operand_nesting refl (λ e es. refl) d (continues (suc level)) operand each apart) (λ es. goes_on_wider)

  abbrev JoinRead : Bool → Expression → Tokens → Tokens → Type 0
  JoinRead = Then (IsOperandAt (suc level) d) (λ (first : Expression). Made (join first) Others)

  join_made : (b : Bool) (first : Expression) (es : List Expression) (from mid to : Tokens)
      → IsOperandAt (suc level) d b first from mid → Others b es mid to → IsOperandAt level d b (join first es) from to
  join_made b first [] from mid to h rows =
      subst (λ y. IsOperandAt level d b y from to) (alone first) ((subst (IsExpression first from) rows h.0.0, omega (arith, h.0.1)), h.1)
  join_made b first (e ∷ es) from mid to h rows =
      joined b first e es from mid to h (rows_into s (suc level) inner_nesting operand_nesting refl (λ e es. refl) d b (e ∷ es) mid to rows)

  join_into : (b : Bool) (e : Expression) (from to : Tokens) → JoinRead b e from to → IsOperandAt level d b e from to
  join_into b e from to h = subst (λ y. IsOperandAt level d b y from to) (sym h.3.1) (join_made b h.0 h.3.0 from h.1 to h.2 h.3.2)

  join_split : (b : Bool) (e : Expression) (from to : Tokens) → Parts d level s join b e from to → JoinRead b e from to
  join_split b e from to p =
      let rows = rows_back s (suc level) inner_nesting operand_nesting refl (λ e es. refl) d b p.1 p.2 to p.5.0 p.5.1 in
      (p.0, p.2, p.4, (rows.0, p.3 rows.0 rows.1, rows.2))

  pub join_back : (b : Bool) (e : Expression) (from to : Tokens) → IsOperandAt level d b e from to → JoinRead b e from to
  join_back b e from to h = elim (cases_lt (binds e) (suc level)) [
    | inl g ↦ join_split b e from to (split b e from to h g)
    | inr g ↦ (e, to, ((h.0.0, g), h.1), ([], alone e, refl))
  ]

  pub join_exact : Exact Anything (IsOperandAt level d) (always (continues level)) (read operand (λ first. read others (λ es. done (join first es))))
  join_exact =
      exact_as Anything JoinRead (always (continues level)) _
      (meets_exact (IsOperandAt (suc level) d) (always (continues (suc level))) operand each
      (λ (first : Expression). Made (join first) Others) (always (continues level)) (λ first. read others (λ es. done (join first es)))
      (λ first. made_of Others (always (continues level)) others others_exact (join first) (always (continues level)) (λ es k h. h))
      (λ b first e mid to h g. rows_stop (IsBehind s (suc level) inner_nesting operand_nesting refl (λ e es. refl) d)
      (is_sign s) (continues (suc level)) (continues level) (behind_begins s (suc level) inner_nesting operand_nesting refl (λ e es. refl) d)
      (begins_stops (is_sign s) (continues (suc level)) apart) (continues_wider (suc level) level (omega arith)) b h.0 mid to h.2 g))
      (IsOperandAt level d) join_into join_back

-- ---- `&&`

pub and_apart : (k : TokenKind) → is_sign sign_of.AndAnd k ≡ true → continues 3 k ≡ false
and_apart (kind.Sign sign_of.AndAnd) h = refl
and_apart _ h = absurd cc

pub and_joins : (k : TokenKind) → is_sign sign_of.AndAnd k ≡ true → continues 2 k ≡ true
and_joins (kind.Sign sign_of.AndAnd) h = refl
and_joins _ h = absurd cc

pub all_of_made : (d : ℕ) (b : Bool) (first e : Expression) (es : List Expression) (from mid to : Tokens) → IsOperandAt 3 d b first from mid
    → IsOthers d sign_of.AndAnd 3 b (MoreExpressions e (expressions_of es)) mid to → IsOperandAt 2 d b (all_of first (e ∷ es)) from to
all_of_made d b first e es from mid to h g =
    let others = operand_nesting (MoreExpressions e (expressions_of es)) in (
      ((mid, h.0.1, h.0.0, g.0), omega arith),
      within_both b d (inner_nesting first) d others d (max (inner_nesting first) others)
          (λ k l. omega (arith, k, l)) h.1 g.1,
    )

all_of_same : (first second : Expression) (others : Expressions) (es : List Expression) → MoreExpressions second others ≡ expressions_of es
    → AllOf first (MoreExpressions second others) ≡ all_of first es
all_of_same first second others [] h = absurd cc
all_of_same first second others (e ∷ es) h = ap (AllOf first) h

pub all_of_split : (d : ℕ) (b : Bool) (e : Expression) (from to : Tokens) → IsOperandAt 2 d b e from to → binds e < 3
    → Parts d 2 sign_of.AndAnd all_of b e from to
all_of_split d b (AllOf first NoExpressions) from to h u = absurd h.0.0
all_of_split d b (AllOf first (MoreExpressions second others)) from to h u =
    let all = max (inner_nesting first) (operand_nesting (MoreExpressions second others)) in
    let is = h.0.0 in (
      first,
      MoreExpressions second others,
      is.0,
      all_of_same first second others,
      ((is.2, is.1), within b d all d (inner_nesting first) (λ g. omega (arith, g)) h.1),
      (is.3, within b d all d (operand_nesting (MoreExpressions second others)) (λ g. omega (arith, g)) h.1),
    )
all_of_split d b (Chain first NoLinks) from to h u = absurd h.0.0
all_of_split d b (Chain first (MoreLinks o e ls)) from to h u = absurd (omega (arith, u, level_low o))
all_of_split d b (AnyOf first others) from to h u = absurd (omega (arith, h.0.1))
all_of_split d b (Assign place value) from to h u = absurd (omega (arith, h.0.1))
all_of_split d b _ from to h u = absurd (omega (arith, u))

-- ---- `||`

pub or_apart : (k : TokenKind) → is_sign sign_of.OrOr k ≡ true → continues 2 k ≡ false
or_apart (kind.Sign sign_of.OrOr) h = refl
or_apart _ h = absurd cc

pub or_joins : (k : TokenKind) → is_sign sign_of.OrOr k ≡ true → continues 1 k ≡ true
or_joins (kind.Sign sign_of.OrOr) h = refl
or_joins _ h = absurd cc

pub any_of_made : (d : ℕ) (b : Bool) (first e : Expression) (es : List Expression) (from mid to : Tokens) → IsOperandAt 2 d b first from mid
    → IsOthers d sign_of.OrOr 2 b (MoreExpressions e (expressions_of es)) mid to → IsOperandAt 1 d b (any_of first (e ∷ es)) from to
any_of_made d b first e es from mid to h g =
    let others = operand_nesting (MoreExpressions e (expressions_of es)) in (
      ((mid, h.0.1, h.0.0, g.0), omega arith),
      within_both b d (inner_nesting first) d others d (max (inner_nesting first) others)
          (λ k l. omega (arith, k, l)) h.1 g.1,
    )

any_of_same : (first second : Expression) (others : Expressions) (es : List Expression) → MoreExpressions second others ≡ expressions_of es
    → AnyOf first (MoreExpressions second others) ≡ any_of first es
any_of_same first second others [] h = absurd cc
any_of_same first second others (e ∷ es) h = ap (AnyOf first) h

pub any_of_split : (d : ℕ) (b : Bool) (e : Expression) (from to : Tokens) → IsOperandAt 1 d b e from to → binds e < 2
    → Parts d 1 sign_of.OrOr any_of b e from to
any_of_split d b (AnyOf first NoExpressions) from to h u = absurd h.0.0
any_of_split d b (AnyOf first (MoreExpressions second others)) from to h u =
    let all = max (inner_nesting first) (operand_nesting (MoreExpressions second others)) in
    let is = h.0.0 in (
      first,
      MoreExpressions second others,
      is.0,
      any_of_same first second others,
      ((is.2, is.1), within b d all d (inner_nesting first) (λ g. omega (arith, g)) h.1),
      (is.3, within b d all d (operand_nesting (MoreExpressions second others)) (λ g. omega (arith, g)) h.1),
    )
any_of_split d b (Chain first NoLinks) from to h u = absurd h.0.0
any_of_split d b (Chain first (MoreLinks o e ls)) from to h u = absurd (omega (arith, u, level_low o))
any_of_split d b (Assign place value) from to h u = absurd (omega (arith, h.0.1))
any_of_split d b _ from to h u = absurd (omega (arith, u))

module _ (d : ℕ) (unary : Tokens → Outcome Expression) (each : Exact Anything (IsUnaryAt d) (always (continues unary_level)) unary) where
  pub all_of_exact : Exact Anything (IsOperandAt 2 d) (always (continues 2)) (all_of_by unary)
  unfolding all_of_by
  all_of_exact =
      join_exact d 2 sign_of.AndAnd all_of (λ e. refl) and_apart and_joins (all_of_made d) (all_of_split d) (chain_by unary 8)
      (chain_exact d unary each 8 (omega arith))

  pub any_of_exact : Exact Anything (IsOperandAt 1 d) (always (continues 1)) (any_of_by unary)
  unfolding any_of_by
  any_of_exact = join_exact d 1 sign_of.OrOr any_of (λ e. refl) or_apart or_joins (any_of_made d) (any_of_split d) (all_of_by unary) all_of_exact
