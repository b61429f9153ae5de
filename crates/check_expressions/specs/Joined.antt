-- View of code: what is answered of phrases of several parts, one part after another.
use Rattle.std.specs.Prelude.{List, map, [], ◌∷◌, ◌++◌}
use Rattle.cyc_tree.specs.Tree.{Expressions, Links, MoreExpressions, MoreLinks, NoExpressions, NoLinks}
use Rattle.check_operators.specs.Values.{value_of}
use Rattle.check_operators.specs.declared.value.Value as code
use Rattle.source_typing.specs.Expressions.{judge}
use Rattle.source_typing.specs.Operators.{applied, tested_both}
use Rattle.source_typing.specs.Scope.{Env, Value}
use Rattle.check_faults.specs.Verdicts.{Is, Short, short_both, shortened}

abbrev pub values_of : List code.Value → List Value
values_of vs = map value_of vs

-- one more argument
abbrev pub one_more : List Value → Value → Short (List Value)
one_more vs v = Is (vs ++ v ∷ [])

-- arguments, after those so far
abbrev pub short_all : Env → Short (List Value) → Expressions → Short (List Value)
short_all g s NoExpressions = s
short_all g s (MoreExpressions e es) = short_all g (short_both s (shortened (judge g e)) one_more) es

-- the operands of `&&` or `||`, after those so far
abbrev pub short_tests : Env → Short Value → Expressions → Short Value
short_tests g s NoExpressions = s
short_tests g s (MoreExpressions e es) = short_tests g (short_both s (shortened (judge g e)) (λ a b. shortened (tested_both a b))) es

-- the operands of operators of one level, after those so far
abbrev pub short_links : Env → Short Value → Links → Short Value
short_links g s NoLinks = s
short_links g s (MoreLinks o e es) = short_links g (short_both s (shortened (judge g e)) (λ a b. shortened (applied g o a b))) es
