-- Operands of `&&` and `||` go as their starts say.
use Rattle.std.proofs.Common.{◌≡◌, ℕ, suc, ◌≤◌, ◌||◌, Bool, true, false, List, [], ◌∷◌, ◌++◌, Option, refl, sym, ap, subst, ◌∙◌, arith, inl, inr}
use Rattle.std.proofs.lemmas.Bool.{or_cases}
use Rattle.cyc_lexer.specs.declared.token.Sign.{Sign}
use Rattle.cyc_lexer.specs.declared.token.Sign.TheVariants as sign_of
use Rattle.cyc_lexer.specs.declared.token.TokenKind.{TokenKind}
use Rattle.cyc_tree.specs.Tree.{Expression}
use Rattle.cyc_tree.specs.View.{expressions_of}
use Rattle.cyc_tree.proofs.PartNesting.{inner_nesting, operand_nesting}
use Rattle.cyc_tree.specs.Depths.{inner_starts, operand_starts, first_deeper}
use Rattle.source_grammar.specs.Phrases.{Tokens}
use Rattle.source_grammar.specs.ExpressionGrammar.{IsExpression, binds, unary_level}
use Rattle.cyc_parser.specs.Tests.{continues, is_sign}
use Rattle.cyc_parser.specs.Reader.{Outcome, done, read, many, behind, sign, next_is}
use Rattle.cyc_parser.specs.ReadExpressions.{chain_by, all_of, any_of, all_of_by, any_of_by}
use Rattle.cyc_parser.specs.Exact.{Exact, Anything, Stops, Then, Rows, always}
use Rattle.cyc_parser.proofs.exactness.Types.{sign_exact}
use Rattle.cyc_parser.proofs.exactness.Composed.{begins_stops, stops_wider, stops_ends}
use Rattle.cyc_parser.proofs.exactness.Begins.{IsUnary}
use Rattle.cyc_parser.proofs.exactness.Operands.{IsUnaryAt, IsOperandAt, Made, IsBehind, behind_begins, behind_exact, continues_wider, rows_stop}
use Rattle.cyc_parser.proofs.exactness.Chains.{chain_exact}
use Rattle.cyc_parser.proofs.exactness.Joins.{join_back, and_apart, and_joins, all_of_made, all_of_split, or_apart, or_joins, any_of_made, any_of_split}
use Rattle.cyc_parser.proofs.exactness.Joins.{all_of_exact}
use Rattle.cyc_parser.proofs.Goes.{Goes, or_else, none_else, deeper_both, goes_as, goes_then, goes_behind, goes_before, first_of, many_goes}
use Rattle.cyc_parser.proofs.going.Chains.{chain_goes}

-- ---- where operands are too deep

abbrev operand_deep : (limit n : ℕ) → Expression → Option ℕ
operand_deep limit n e = first_deeper limit (inner_starts n e)

-- operands behind one another: the first place of them all
operands_deep : (limit n : ℕ) (es : List Expression) → first_of (operand_deep limit n) es ≡ first_deeper limit (operand_starts n (expressions_of es))
operands_deep limit n [] = refl
operands_deep limit n (e ∷ es) =
    ap (or_else (operand_deep limit n e)) (operands_deep limit n es)
    ∙ sym (deeper_both limit (inner_starts n e) (operand_starts n (expressions_of es)))

-- ---- operands with one sign between them

module _ (limit n d level : ℕ) (s : Sign) (join : Expression → List Expression → Expression) (alone : (e : Expression) → e ≡ join e [])
    (starts : (first e : Expression) (es : List Expression)
    → inner_starts n (join first (e ∷ es)) ≡ inner_starts n first ++ operand_starts n (expressions_of (e ∷ es)))
    (apart : (k : TokenKind) → is_sign s k ≡ true → continues (suc level) k ≡ false)
    (joins : (k : TokenKind) → is_sign s k ≡ true → continues level k ≡ true)
    (operand : Tokens → Outcome Expression) (each : Exact Anything (IsOperandAt (suc level) d) (always (continues (suc level))) operand)
    (goes : (e : Expression) (from to : Tokens) → IsExpression e from to → suc level ≤ binds e → Stops (continues (suc level)) to
    → Goes (operand from) e to (first_deeper limit (inner_starts n e))) where
  -- a sign, and the operand behind it
  abbrev IsOther : Bool → Expression → Tokens → Tokens → Type 0
  IsOther = IsBehind s (suc level) inner_nesting operand_nesting refl (λ e es. refl) d

  other_begins : (b : Bool) (e : Expression) (from to : Tokens) → IsOther b e from to → next_is (is_sign s) from ≡ true
  other_begins = behind_begins s (suc level) inner_nesting operand_nesting refl (λ e es. refl) d

  abbrev others : Tokens → Outcome (List Expression)
  others = many (is_sign s) (behind s operand)

  abbrev joined : Tokens → Outcome Expression
  joined = read operand (λ first. read others (λ es. done (join first es)))

  -- an operand and those behind it, where there are such
  join_deep : (first : Expression) (es : List Expression)
      → or_else (operand_deep limit n first) (first_of (operand_deep limit n) es) ≡ operand_deep limit n (join first es)
  join_deep first [] = none_else (operand_deep limit n first) ∙ ap (operand_deep limit n) (alone first)
  join_deep first (e ∷ es) =
      ap (or_else (operand_deep limit n first)) (operands_deep limit n (e ∷ es))
      ∙ sym (deeper_both limit (inner_starts n first) (operand_starts n (expressions_of (e ∷ es))))
      ∙ ap (first_deeper limit) (sym (starts first e es))

  -- a sign and an operand are too deep where the operand is
  other_goes : (e : Expression) (from to : Tokens) → IsOther false e from to → Stops (continues (suc level)) to
      → Goes (behind s operand from) e to (operand_deep limit n e)
  other_goes e from to h stops =
      goes_behind (sign s) (λ at. operand) from h.0 h.1 e to (operand_deep limit n e) ((sign_exact s).again h.0 from h.1 h.2 (stops_ends h.0 h.1))
      (goes e h.1 to h.3.0.0 h.3.0.1 stops)

  -- what would go on with the others goes on with all
  goes_on : (k : TokenKind) → (is_sign s k || continues (suc level) k) ≡ true → continues level k ≡ true
  goes_on k h = elim (or_cases (is_sign s k) (continues (suc level) k) h) [
    | inl g ↦ joins k g
    | inr g ↦ continues_wider (suc level) level (omega arith) k g
  ]

  -- all behind the first operand
  others_go : (es : List Expression) (from to : Tokens) → Rows IsOther false es from to → Stops (continues level) to
      → Goes (others from) es to (first_of (operand_deep limit n) es)
  others_go es from to h stops =
      many_goes (is_sign s) IsOther (always (continues (suc level))) (behind s operand)
      (behind_exact s (suc level) inner_nesting operand_nesting refl (λ e es. refl) d (continues (suc level)) operand each)
      other_begins (λ e. apart) (continues (suc level)) (λ e k g. g) (operand_deep limit n) other_goes es from to h
      (stops_wider (λ k. is_sign s k || continues (suc level) k) (continues level) goes_on to stops)

  -- an operand, and the others behind it
  join_goes : (e : Expression) (from to : Tokens)
      → Then (IsOperandAt (suc level) d) (λ (first : Expression). Made (join first) (Rows IsOther)) false e from to
      → Stops (continues level) to → Goes (joined from) e to (operand_deep limit n e)
  join_goes e from to h stops =
      let first : Expression = h.0 in
      let es : List Expression = h.3.0 in
      let whole : Expression = join first es in
      let meets : Stops (continues (suc level)) h.1 =
      rows_stop IsOther (is_sign s) (continues (suc level)) (continues level) other_begins (begins_stops (is_sign s) (continues (suc level)) apart)
      (continues_wider (suc level) level (omega arith)) false es h.1 to h.3.2 stops in
      subst (λ (y : Expression). Goes (joined from) y to (operand_deep limit n y)) (sym h.3.1)
      (goes_as (joined from) whole to (or_else (operand_deep limit n first) (first_of (operand_deep limit n) es)) (operand_deep limit n whole)
      (join_deep first es)
      (goes_then operand (λ first. read others (λ es. done (join first es))) from first h.1 whole to (operand_deep limit n first)
      (first_of (operand_deep limit n) es) (goes first from h.1 h.2.0.0 h.2.0.1 meets)
      (goes_before others (λ es. done (join first es)) h.1 es to whole to (first_of (operand_deep limit n) es)
      (others_go es h.1 to h.3.2 stops) refl)))

-- ---- `&&` and `||`

module _ (limit n d : ℕ) (unary : Tokens → Outcome Expression) (each : Exact Anything (IsUnaryAt d) (always (continues unary_level)) unary)
    (unary_goes : (e : Expression) (from to : Tokens) → IsUnary e from to → Stops (continues unary_level) to
    → Goes (unary from) e to (first_deeper limit (inner_starts n e))) where
  -- operands of `|` and what binds more, with `&&` between them
  pub all_of_goes : (e : Expression) (from to : Tokens) → IsExpression e from to → 2 ≤ binds e → Stops (continues 2) to
      → Goes (all_of_by unary from) e to (first_deeper limit (inner_starts n e))
  unfolding all_of_by
  all_of_goes e from to h l stops =
      let operand : Exact Anything (IsOperandAt 3 d) (always (continues 3)) (chain_by unary 8) = chain_exact d unary each 8 (omega arith) in
      join_goes limit n d 2 sign_of.AndAnd all_of (λ e. refl) (λ first e es. refl) and_apart and_joins (chain_by unary 8) operand
      (chain_goes limit n d unary each unary_goes 8 (omega arith)) e from to
      (join_back d 2 sign_of.AndAnd all_of (λ e. refl) and_apart and_joins (all_of_made d) (all_of_split d) (chain_by unary 8) operand false e from to
      ((h, l), tt)) stops

  -- and those with `||` between them
  pub any_of_goes : (e : Expression) (from to : Tokens) → IsExpression e from to → 1 ≤ binds e → Stops (continues 1) to
      → Goes (any_of_by unary from) e to (first_deeper limit (inner_starts n e))
  unfolding any_of_by
  any_of_goes e from to h l stops =
      let operand : Exact Anything (IsOperandAt 2 d) (always (continues 2)) (all_of_by unary) = all_of_exact d unary each in
      join_goes limit n d 1 sign_of.OrOr any_of (λ e. refl) (λ first e es. refl) or_apart or_joins (all_of_by unary) operand all_of_goes e from to
      (join_back d 1 sign_of.OrOr any_of (λ e. refl) or_apart or_joins (any_of_made d) (any_of_split d) (all_of_by unary) operand false e from to
      ((h, l), tt)) stops
