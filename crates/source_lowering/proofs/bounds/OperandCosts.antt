-- What operands that are tested take, what arguments do, and a call behind them.
use Rattle.std.proofs.Common.{ℕ, suc, ◌+◌, ◌*◌, ◌≤◌, List, [], ◌∷◌, ◌++◌, arith}
use Rattle.cyc_tree.specs.Tree.{Expressions, NoExpressions, MoreExpressions}
use Rattle.source_meaning.specs.Shapes.{Shape}
use Rattle.source_meaning.specs.Steps.{World}
use Rattle.source_meaning.specs.Places.{bound_to}
use Rattle.core_meaning.specs.Core.{Statement, If, NoStatements}
use Rattle.source_lowering.specs.Lowered.{Named, local_named, all_of, word_code, truth_code, address_by, call_shape, call_code, argument_words}
use Rattle.source_lowering.specs.Bounds.{argument_tokens, tested_tokens, joined_tokens}
use Rattle.source_lowering.proofs.bounds.Nodes.{argument_count, result_count}
use Rattle.source_lowering.proofs.bounds.Counted.{count_of, many_words, counted_words}
use Rattle.source_lowering.proofs.bounds.Costs.{Costs, no_costs, both_cost, more_costs, if_costs, sized}
use Rattle.source_lowering.proofs.bounds.PartCosts.{IsCheap, address_costs, tested_word, truth_costs, call_costs}
use Rattle.source_lowering.proofs.bounds.PrefixCosts.{IsPointed}

-- operands that are tested, in either way
pub tested_costs : {l i : ℕ} (t p d n j o : ℕ) (s : Shape) (first others : List Statement) → d + 4 ≤ t → IsCheap t p l n first → Costs t p i o others
    → o + 6 ≤ 8 * j → IsCheap t p (l + i) (n + j) ((first ++ word_code s d) ++ (others ++ truth_code d))
tested_costs t p d n j o s first others h c rest e = record {
  operations = c.operations + 3 + (o + 2);
  costs = sized (both_cost t p _ (c.operations + 3) _ (o + 2) (first ++ word_code s d) (others ++ truth_code d)
      (both_cost t p _ c.operations _ 3 first (word_code s d) c.costs (tested_word t p d s h))
      (both_cost t p _ o _ 2 others (truth_code d) rest (truth_costs t p d h))) (omega arith);
  less = let l = c.less in omega (arith, l, e);
}

-- operands after the first: each in a branch
pub record IsJoined (t p l : ℕ) (es : Expressions) (code : List Statement) : Type 0 where
  pub operations : ℕ
  pub costs : Costs t p l operations code
  pub less : operations + 6 * count_of es ≤ 8 * joined_tokens es

pub tested_less : (es : Expressions) (o : ℕ) → o + 6 * count_of es ≤ 8 * joined_tokens es → o + 6 ≤ 8 * tested_tokens es
tested_less NoExpressions o h = omega (arith, h)
tested_less (MoreExpressions e es) o h = omega (arith, h)

pub these_costs : {l : ℕ} (t p d o : ℕ) (code : List Statement) → suc d ≤ t → Costs t p l o code → Costs t p l (1 + o) (If d (all_of code) NoStatements ∷ [])
these_costs {l} t p d o code h c =
    more_costs t p (l + 0) (1 + (o + 0)) t p l (1 + o) _ (omega arith) (omega arith) (omega arith) (omega arith)
    (if_costs t p d l 0 o 0 code [] h c (no_costs t p))

pub those_costs : {l : ℕ} (t p d o : ℕ) (code : List Statement) → suc d ≤ t → Costs t p l o code → Costs t p l (1 + o) (If d NoStatements (all_of code) ∷ [])
those_costs {l} t p d o code h c =
    more_costs t p (0 + l) (1 + (0 + o)) t p l (1 + o) _ (omega arith) (omega arith) (omega arith) (omega arith)
    (if_costs t p d 0 l 0 o [] code h (no_costs t p) c)

-- arguments with their conversions: there are four operations left for each
pub record AreArguments (t p l : ℕ) (es : Expressions) (code : List Statement) : Type 0 where
  pub operations : ℕ
  pub costs : Costs t p l operations code
  pub less : operations + 4 * count_of es ≤ 8 * argument_tokens es

-- one expression's cost, written out
pub one_cheap : {l m : ℕ} (t p n o : ℕ) (code : List Statement) → Costs t p l o code → o + 4 ≤ 8 * n → l ≤ m → IsCheap t p m n code
one_cheap t p n o code c h i = record { operations = o; costs = sized c i; less = h }

-- a call, behind its arguments
pub called_cheap : {l : ℕ} (w : World) (name : List ℕ) (shapes : List Shape) (arguments : Expressions) (code : List Statement) (t p d : ℕ)
    → d + 1 + 2 * result_count (call_shape w name) ≤ t → d + 4 * argument_count arguments ≤ t → 3 * argument_count arguments ≤ p
    → AreArguments t p l arguments code → IsCheap t p l (2 + argument_tokens arguments) (code ++ call_code w name (argument_words shapes arguments) d)
called_cheap w name shapes arguments code t p d result f g a =
    let n = many_words shapes arguments in let k = counted_words shapes arguments in let l = a.less in
    let words = argument_words shapes arguments in
    one_cheap t p (2 + argument_tokens arguments) (a.operations + (4 + words)) _
    (both_cost t p _ a.operations _ (4 + words) _ _ a.costs
    (call_costs w name t p d words result (omega (arith, f, n)) (omega (arith, g, n)))) (omega (arith, l, k)) (omega arith)

-- a pointer to a variable
pub variable_costs : (w : World) (names : List Named) (name : List ℕ) (t p d : ℕ) → suc d ≤ t
    → IsPointed t p 0 1 (address_by (local_named names name) (bound_to w.globals name) d)
variable_costs w names name t p d h =
    record { operations = 1; costs = address_costs t p d (local_named names name) (bound_to w.globals name) h; less = omega arith }
