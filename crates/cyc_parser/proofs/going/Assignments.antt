-- Assignments, and expressions that are none, go as their starts say.
use Rattle.std.proofs.Common.{◌≡◌, ℕ, ◌≤◌, Bool, true, false, Option, Ok, refl, sym, ap, subst, ◌∙◌, inl, inr}
use Rattle.std.proofs.lemmas.Bool.{le-leb}
use Rattle.std.specs.Prelude.{nat_le, if◌then◌else◌}
use Rattle.cyc_lexer.specs.declared.token.Sign.TheVariants as sign_of
use Rattle.cyc_tree.specs.Tree.{Expression, Assign}
use Rattle.cyc_tree.specs.Depths.{inner_starts, expression_starts, first_deeper}
use Rattle.source_grammar.specs.Phrases.{Tokens, SignAt}
use Rattle.source_grammar.specs.ExpressionGrammar.{IsExpression, binds, unary_level}
use Rattle.cyc_parser.specs.Tests.{continues, is_sign}
use Rattle.cyc_parser.specs.Reader.{Outcome, done, read, choose, sign, next_is}
use Rattle.cyc_parser.specs.ReadExpressions.{any_of_by, assigned_by, assignment_by, expression_at, unary_at}
use Rattle.cyc_parser.specs.Exact.{Stops}
use Rattle.cyc_parser.proofs.exactness.Types.{sign_exact}
use Rattle.cyc_parser.proofs.exactness.Composed.{stops_behind, stops_ends}
use Rattle.cyc_parser.proofs.exactness.Begins.{IsUnary}
use Rattle.cyc_parser.proofs.exactness.Operands.{IsOperandAt}
use Rattle.cyc_parser.proofs.exactness.Choice.{choose_second}
use Rattle.cyc_parser.proofs.exactness.Expressions.{expression_exact, unary_exact}
use Rattle.cyc_parser.proofs.exactness.Assignments.{AssignedRead, assign_joins, value_begins, assigned_meets, assignment_back}
use Rattle.cyc_parser.proofs.Goes.{Goes, or_else, deeper_both, goes_as, goes_same, goes_then, goes_behind, goes_before, goes_first}
use Rattle.cyc_parser.proofs.going.Joins.{any_of_goes}

module _ (limit n m : ℕ)
    (inner_goes : (e : Expression) (from to : Tokens) → IsExpression e from to → Stops (continues 0) to
    → Goes (expression_at m from) e to (first_deeper limit (expression_starts n e)))
    (unary_goes : (e : Expression) (from to : Tokens) → IsUnary e from to → Stops (continues unary_level) to
    → Goes (unary_at m from) e to (first_deeper limit (inner_starts n e))) where
  abbrev value : Expression → Tokens → Outcome Expression
  value first = read (sign sign_of.Assign) (λ _. read (expression_at m) (λ v. done (Assign first v)))

  -- where an operand's tree is a unary expression, what is assigned to it may stand behind it
  assigned_first : (first : Expression) (from : Tokens) → unary_level ≤ binds first
      → assigned_by (expression_at m) first from ≡ choose (is_sign sign_of.Assign) (value first) (done first) from
  unfolding assigned_by
  assigned_first first from l = rw (le-leb unary_level (binds first) l) refl

  assigned_if : (first : Expression) (from : Tokens) (b : Bool) → Stops (is_sign sign_of.Assign) from
      → (if b then choose (is_sign sign_of.Assign) (value first) (done first) else done first) from ≡ Ok (first, from)
  assigned_if first from true stops = choose_second (is_sign sign_of.Assign) (value first) (done first) from stops
  assigned_if first from false stops = refl

  -- where no `=` stands there, nothing is assigned
  assigned_none : (first : Expression) (from : Tokens) → Stops (is_sign sign_of.Assign) from
      → assigned_by (expression_at m) first from ≡ Ok (first, from)
  unfolding assigned_by
  assigned_none first from stops = assigned_if first from (nat_le unary_level (binds first)) stops

  -- `=` and the value behind it
  value_goes : (first v : Expression) (at : ℕ) (from mid to : Tokens) → unary_level ≤ binds first → SignAt sign_of.Assign at from mid
      → next_is (is_sign sign_of.Assign) from ≡ true → IsExpression v mid to → Stops (continues 0) to
      → Goes (assigned_by (expression_at m) first from) (Assign first v) to (first_deeper limit (expression_starts n v))
  value_goes first v at from mid to l is begins h stops =
      let deep : Option ℕ = first_deeper limit (expression_starts n v) in
      goes_same (assigned_by (expression_at m) first from) (choose (is_sign sign_of.Assign) (value first) (done first) from) (Assign first v) to deep
      (assigned_first first from l)
      (goes_first (is_sign sign_of.Assign) (value first) (done first) from (Assign first v) to deep begins
      (goes_behind (sign sign_of.Assign) (λ _. read (expression_at m) (λ v. done (Assign first v))) from at mid (Assign first v) to deep
      ((sign_exact sign_of.Assign).again at from mid is (stops_ends at mid))
      (goes_before (expression_at m) (λ v. done (Assign first v)) mid v to (Assign first v) to deep (inner_goes v mid to h stops) refl)))

  -- an operand before what is assigned to it
  first_goes : (first e : Expression) (from mid to : Tokens) → IsOperandAt 1 m false first from mid
      → AssignedRead m (expression_at m) (expression_exact m) first false e mid to → Stops (continues 0) to
      → Goes (any_of_by (unary_at m) from) first mid (first_deeper limit (inner_starts n first))
  first_goes first e from mid to is h stops =
      any_of_goes limit n m (unary_at m) (unary_exact m) unary_goes first from mid is.0.0 is.0.1
      (assigned_meets m (expression_at m) (expression_exact m) false first e mid to h stops)

  -- an operand, and what is assigned to it, where something is
  operand_goes : (first e : Expression) (from mid to : Tokens) → IsOperandAt 1 m false first from mid
      → AssignedRead m (expression_at m) (expression_exact m) first false e mid to → Stops (continues 0) to
      → Goes (read (any_of_by (unary_at m)) (assigned_by (expression_at m)) from) e to (first_deeper limit (inner_starts n e))
  operand_goes first e from mid to is (inl h) stops =
      let v : Expression = h.1.3.0 in
      let whole : Tokens → Outcome Expression = read (any_of_by (unary_at m)) (assigned_by (expression_at m)) in
      subst (λ (y : Expression). Goes (whole from) y to (first_deeper limit (inner_starts n y))) (sym h.1.3.1)
      (goes_as (whole from) (Assign first v) to
      (or_else (first_deeper limit (inner_starts n first)) (first_deeper limit (expression_starts n v)))
      (first_deeper limit (inner_starts n (Assign first v))) (sym (deeper_both limit (inner_starts n first) (expression_starts n v)))
      (goes_then (any_of_by (unary_at m)) (assigned_by (expression_at m)) from first mid (Assign first v) to
      (first_deeper limit (inner_starts n first)) (first_deeper limit (expression_starts n v)) (first_goes first e from mid to is (inl h) stops)
      (value_goes first v h.1.0 mid h.1.1 to h.0 h.1.2
      (value_begins m (expression_at m) (expression_exact m) first false e mid to h.1) h.1.3.2.0 stops)))
  operand_goes first e from mid to is (inr h) stops =
      let whole : Tokens → Outcome Expression = read (any_of_by (unary_at m)) (assigned_by (expression_at m)) in
      let none : Stops (is_sign sign_of.Assign) mid = stops_behind (is_sign sign_of.Assign) (continues 0) assign_joins h.1 stops in
      subst (λ (y : Expression). Goes (whole from) y to (first_deeper limit (inner_starts n y))) (sym h.0)
      (goes_before (any_of_by (unary_at m)) (assigned_by (expression_at m)) from first mid first to (first_deeper limit (inner_starts n first))
      (first_goes first e from mid to is (inr h) stops)
      (assigned_none first mid none ∙ ap (λ (ts : Tokens). Ok (first, ts)) h.1))

  -- an expression, itself not counted
  pub assignment_goes : (e : Expression) (from to : Tokens) → IsExpression e from to → Stops (continues 0) to
      → Goes (assignment_by (unary_at m) (expression_at m) from) e to (first_deeper limit (inner_starts n e))
  unfolding assignment_by
  assignment_goes e from to h stops =
      let parts = assignment_back m (expression_at m) (expression_exact m) false e from to (h, tt) in
      operand_goes parts.0 e from parts.1 to parts.2 parts.3 stops
