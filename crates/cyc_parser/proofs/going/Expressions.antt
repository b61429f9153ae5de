-- Expressions, and unary ones, are read, or refused at the place of the first token in too many phrases.
use Rattle.std.proofs.Common.{◌≡◌, ℕ, zero, suc, ◌+◌, ◌<◌, Some, Err, sym, ap, ◌∙◌, arith}
use Rattle.cyc_tree.specs.Tree.{Expression}
use Rattle.cyc_tree.specs.Places.{expression_place}
use Rattle.cyc_tree.specs.Depths.{inner_starts, expression_starts, first_deeper}
use Rattle.cyc_parser.specs.declared.fault.ParseFault.TheVariants.{TooDeep}
use Rattle.source_grammar.specs.Phrases.{Tokens}
use Rattle.source_grammar.specs.ExpressionGrammar.{IsExpression, unary_level}
use Rattle.cyc_parser.specs.Tests.{continues, begins_unary}
use Rattle.cyc_parser.specs.Reader.{refuse}
use Rattle.cyc_parser.specs.ReadExpressions.{expression_at, unary_at}
use Rattle.cyc_parser.specs.Exact.{Stops}
use Rattle.cyc_parser.proofs.exactness.Begins.{IsUnary, expression_begins}
use Rattle.cyc_parser.proofs.Goes.{Goes, deeper_here, deeper_behind, goes_as}
use Rattle.cyc_parser.proofs.going.Places.{place_of_first, first_start}
use Rattle.cyc_parser.proofs.going.Assignments.{assignment_goes}
use Rattle.cyc_parser.proofs.going.Unaries.{operation_goes}

-- an expression isn't read where no phrase may nest any more
refuse_goes : (e : Expression) (from to : Tokens) → IsExpression e from to → Goes (refuse begins_unary from) e to (Some (expression_place e))
refuse_goes e from to h = rw (expression_begins e from to h) (ap (λ (at : ℕ). Err (TooDeep at)) (place_of_first e from to h))

-- a unary expression at the limit is too deep itself
inner_deep : (limit n : ℕ) (e : Expression) → limit < n + 1 → Some (expression_place e) ≡ first_deeper limit (inner_starts n e)
inner_deep limit n e h =
    let first = first_start n e in
    sym (ap (first_deeper limit) first.1 ∙ deeper_here limit (expression_place e) (n + 1) first.0 h)

mutual
  unfolding expression_at unary_at

  pub expression_goes : (limit n m : ℕ) → n + m ≡ limit → (e : Expression) (from to : Tokens) → IsExpression e from to → Stops (continues 0) to
      → Goes (expression_at m from) e to (first_deeper limit (expression_starts n e))
  expression_goes limit n zero same e from to h stops =
      goes_as (refuse begins_unary from) e to (Some (expression_place e)) (first_deeper limit (expression_starts n e))
      (sym (deeper_here limit (expression_place e) (n + 1) (inner_starts (n + 1) e) (omega (arith, same)))) (refuse_goes e from to h)
  expression_goes limit n (suc m) same e from to h stops =
      goes_as (expression_at (suc m) from) e to (first_deeper limit (inner_starts (n + 1) e)) (first_deeper limit (expression_starts n e))
      (sym (deeper_behind limit (expression_place e) (n + 1) (inner_starts (n + 1) e) (omega (arith, same))))
      (assignment_goes limit (n + 1) m (expression_goes limit (n + 1) m (omega (arith, same))) (unary_goes limit (n + 1) m (omega (arith, same)))
      e from to h stops)

  pub unary_goes : (limit n m : ℕ) → n + m ≡ limit → (e : Expression) (from to : Tokens) → IsUnary e from to → Stops (continues unary_level) to
      → Goes (unary_at m from) e to (first_deeper limit (inner_starts n e))
  unary_goes limit n zero same e from to h stops =
      goes_as (refuse begins_unary from) e to (Some (expression_place e)) (first_deeper limit (inner_starts n e))
      (inner_deep limit n e (omega (arith, same))) (refuse_goes e from to h.0)
  unary_goes limit n (suc m) same e from to h stops =
      operation_goes limit n m same (expression_goes limit (n + 1) m (omega (arith, same))) (unary_goes limit (n + 1) m (omega (arith, same)))
      e from to h stops
