-- How many nodes and tokens expressions have at least.
use Rattle.std.proofs.Common.{ℕ, ◌+◌, ◌*◌, ◌≤◌, List, [], ◌∷◌, arith}
use Rattle.cyc_tree.specs.Tree.{Expression, Expressions, NoExpressions, MoreExpressions}
use Rattle.source_meaning.specs.Shapes.{Shape}
use Rattle.source_lowering.specs.Lowered.{argument_words}
use Rattle.source_lowering.specs.Bounds.{argument_tokens}
use Rattle.source_lowering.proofs.bounds.Nodes.{expression_count, argument_count}
use Rattle.source_lowering.proofs.bounds.ValueCosts.{words_few}

-- an expression has a node
pub one_node : (e : Expression) → 1 ≤ expression_count e
one_node (Expression.Grouped at inner) = one_node inner
one_node (Expression.Chain first others) = let h = one_node first in omega (arith, h)
one_node (Expression.AllOf first others) = let h = one_node first in omega (arith, h)
one_node (Expression.AnyOf first others) = let h = one_node first in omega (arith, h)
one_node (Expression.Assign place value) = let h = one_node place in omega (arith, h)
one_node (Expression.Suffixed primary others) = let h = one_node primary in omega (arith, h)
one_node _ = omega arith

-- ---- arguments, and other expressions one after the other

abbrev pub count_of : Expressions → ℕ
count_of NoExpressions = 0
count_of (MoreExpressions first others) = 1 + count_of others

pub many_words : (ss : List Shape) (es : Expressions) → argument_words ss es ≤ 3 * argument_count es
many_words [] es = omega arith
many_words (s ∷ ss) NoExpressions = omega arith
many_words (s ∷ ss) (MoreExpressions e es) =
    let h = many_words ss es in let g = one_node e in let few = words_few s in omega (arith, h, g, few)

pub counted_words : (ss : List Shape) (es : Expressions) → argument_words ss es ≤ 3 * count_of es
counted_words [] es = omega arith
counted_words (s ∷ ss) NoExpressions = omega arith
counted_words (s ∷ ss) (MoreExpressions e es) = let h = counted_words ss es in let few = words_few s in omega (arith, h, few)

pub many_tokens : (es : Expressions) → count_of es ≤ argument_tokens es
many_tokens NoExpressions = omega arith
many_tokens (MoreExpressions e es) = let h = many_tokens es in omega (arith, h)
