-- View of code: levels of binary operators.
use Rattle.std.specs.Prelude.{◌≡◌, ◌+◌, ◌<◌, ◌⊎◌, ℕ, true, false, [], ◌∷◌, Option, Some, None}
use Rattle.cyc_lexer.specs.declared.token.Sign.{Sign}
use Rattle.cyc_tree.specs.declared.expression.Operator.{Operator}
use Rattle.cyc_tree.specs.declared.expression.Operator.TheVariants as operator
use Rattle.cyc_parser.specs.declared.operator.Level.{Level}
use Rattle.source_grammar.specs.ExpressionGrammar.{unary_level}
use Rattle.source_grammar.specs.Phrases.{Tokens}
use Rattle.cyc_parser.specs.Reader.{next_is}
use Rattle.cyc_parser.specs.ReadExpressions.{operator_of, operator_of_sign}
use Rattle.cyc_parser.specs.Tests.{sign_strength, is_operator}
use Rattle.cyc_parser.specs.declared.operator.Level.TheVariants.{BitOr, BitXor, BitAnd, Equality, Relation, Shift, Sum, Term}

-- how many levels there are from one on, itself among them, to the one that binds most
abbrev pub levels_from : Level → ℕ
levels_from BitOr = 8
levels_from BitXor = 7
levels_from BitAnd = 6
levels_from Equality = 5
levels_from Relation = 4
levels_from Shift = 3
levels_from Sum = 2
levels_from Term = 1

-- the same from a level that may be none, where the operands are unary
abbrev pub levels_left : Option Level → ℕ
levels_left None = 0
levels_left (Some level) = levels_from level

-- the number of a level in the grammar
abbrev pub number_of : Level → ℕ
number_of BitOr = 3
number_of BitXor = 4
number_of BitAnd = 5
number_of Equality = 6
number_of Relation = 7
number_of Shift = 8
number_of Sum = 9
number_of Term = 10

-- the same of a level that may be none, where the operands are unary
abbrev pub level_number : Option Level → ℕ
level_number None = unary_level
level_number (Some level) = number_of level

-- the level and the operator of a sign, or that it is no operator's: it joins less than `|` does, or more than `*`
abbrev pub IsOperator : Sign → Option (Level × Operator) → Type 0
IsOperator sign (Some found) = (sign_strength sign ≡ number_of found.0 + 1) × (found.1 ≡ operator_of_sign sign)
IsOperator sign None = (sign_strength sign < 4) ⊎ (11 < sign_strength sign)

-- the operator that the next token is, where it is one
abbrev pub operator_next : Tokens → Operator
operator_next [] = operator.Remainder
operator_next (t ∷ ts) = operator_of t.kind

-- the operator of a level that the next token is, or that it is none of these
abbrev pub IsNextOperator : Option Operator → ℕ → Tokens → Type 0
IsNextOperator (Some found) level ts = (next_is (is_operator level) ts ≡ true) × (operator_next ts ≡ found)
IsNextOperator None level ts = next_is (is_operator level) ts ≡ false
