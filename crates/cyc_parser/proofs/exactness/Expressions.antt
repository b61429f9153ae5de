-- The readers of expressions are exact.
use Rattle.std.proofs.Common.{◌≡◌, ℕ, zero, suc, true, false, arith}
use Rattle.cyc_lexer.specs.Lexing.{Token}
use Rattle.source_grammar.specs.ExpressionGrammar.{unary_level}
use Rattle.cyc_parser.specs.Tests.{begins_unary, continues}
use Rattle.cyc_parser.specs.ReadExpressions.{parenthesized_by, expression_at, unary_at}
use Rattle.cyc_parser.specs.Exact.{Exact, PhraseFrom, Anything, ends, always}
use Rattle.cyc_parser.proofs.Exact.{refuse_exact}
pub use Rattle.cyc_parser.proofs.exactness.Begins.{IsUnary, expression_begins, unary_from}
pub use Rattle.cyc_parser.proofs.exactness.Operands.{IsExpressionAt, IsUnaryAt, IsParenthesizedAt}
use Rattle.cyc_parser.proofs.exactness.Begins.{some_unary, nests}
use Rattle.cyc_parser.proofs.exactness.Assignments.{assignment_exact}
use Rattle.cyc_parser.proofs.exactness.Unaries.{operation_exact}
use Rattle.cyc_parser.proofs.exactness.Primaries.{inside_exact}

unary_of : (t : Token) → begins_unary t.kind ≡ true → PhraseFrom (IsUnaryAt 0 false) t
unary_of t begins =
    let u = unary_from t begins in record { tree = u.tree; tokens = u.tokens; made_up = u.made_up; is = λ more. (u.is more, tt) }

expression_of : (t : Token) → begins_unary t.kind ≡ true → PhraseFrom (IsExpressionAt 0 false) t
expression_of t begins =
    let u = unary_from t begins in record { tree = u.tree; tokens = u.tokens; made_up = u.made_up; is = λ more. ((u.is more).0, tt) }

mutual
  unfolding expression_at unary_at

  pub expression_exact : (d : ℕ) → Exact Anything (IsExpressionAt d) (always (continues 0)) (expression_at d)
  expression_exact zero =
      refuse_exact begins_unary (IsExpressionAt 0) (always (continues 0)) (λ e from to h. omega (arith, h.1, nests e))
      (λ e from to h. expression_begins e from to h.0)
      expression_of
      (record { tree = some_unary.tree; tokens = some_unary.tokens; made_up = some_unary.made_up; is = λ more. ((some_unary.is more).0, tt) })
  expression_exact (suc d) = assignment_exact d (expression_at d) (expression_exact d) (unary_at d) (unary_exact d)

  pub unary_exact : (d : ℕ) → Exact Anything (IsUnaryAt d) (always (continues unary_level)) (unary_at d)
  unary_exact zero =
      refuse_exact begins_unary (IsUnaryAt 0) (always (continues unary_level)) (λ e from to h. omega (arith, h.1, nests e))
      (λ e from to h. expression_begins e from to h.0.0)
      unary_of (record { tree = some_unary.tree; tokens = some_unary.tokens; made_up = some_unary.made_up; is = λ more. (some_unary.is more, tt) })
  unary_exact (suc d) = operation_exact d (expression_at d) (expression_exact d) (unary_at d) (unary_exact d)

pub parenthesized_exact : (d : ℕ) → Exact Anything (IsParenthesizedAt d) ends (parenthesized_by (expression_at d))
parenthesized_exact d = inside_exact d (expression_at d) (expression_exact d)
