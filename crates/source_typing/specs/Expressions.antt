-- Believed: how an expression is judged: one line a form.
use Rattle.std.specs.Prelude.{Bool, List, ℕ, []}
use Rattle.cyc_tree.specs.Tree.{Array, Arrow, Dot, Expression, Expressions, Index, Links, Made, MoreExpressions, MoreLinks, NoExpressions, NoLinks}
use Rattle.cyc_tree.specs.Tree.{NoSuffixes, One, Suffixes}
use Rattle.source_meaning.specs.Calls.{number_type}
use Rattle.source_meaning.specs.Expressions.{is_unique_region}
use Rattle.source_typing.specs.Calls.{called, target, union_made, union_tag}
use Rattle.source_typing.specs.Faults.{type_rule}
use Rattle.source_typing.specs.Fixing.{more}
use Rattle.source_typing.specs.Making.{Goal, To, array_of, goal_of, inside, made_of, with_counter}
use Rattle.source_typing.specs.Operators.{applied, counted, prefixed, string, tested_both}
use Rattle.source_typing.specs.Places.{arrow, assigned, grouped, indexed, member, variable}
use Rattle.source_typing.specs.Regions.{TheHeap}
use Rattle.source_typing.specs.Scope.{Env, Value, meant, value}
use Rattle.source_typing.specs.Types.{Char, Handle, Null, StaticType, integer_type}
use Rattle.source_typing.specs.Verdicts.{Of, Verdict, after, both, refuse}

-- a number without suffix up to 2147483647 is an `int`, another one an `unsigned int`
abbrev pub number_typed : ℕ → Bool → StaticType
number_typed n suffix = integer_type (number_type n suffix)

abbrev mutual
  pub judge : Env → Expression → Verdict Value
  judge g (Expression.Number at n suffix) = value at (number_typed n suffix)
  judge g (Expression.Character at byte) = value at Char
  judge g (Expression.Text at bytes) = string at bytes
  judge g (Expression.Null at) = value at Null
  judge g (Expression.HeapRegion at) = value at (Handle TheHeap)
  judge g (Expression.UniqueRegion at) = refuse type_rule at
  judge g (Expression.Variable name) = variable name.at (meant g name.text)
  judge g (Expression.Call name arguments) = both (target name.at (meant g name.text)) (judge_all g arguments) (called g name.at)
  judge g (Expression.MakeUnion tag f e) = both (union_tag tag f (meant g tag.text)) (judge g e) (union_made g tag.at)
  judge g (Expression.NumElts at e) = after (judge g e) (counted at)
  judge g (Expression.Grouped at e) = after (judge g e) (grouped at)
  judge g (Expression.Suffixed primary suffixes) = judge_suffixes g (judge g primary) suffixes
  judge g (Expression.Prefixed at operator e) = after (judge g e) (prefixed g at operator)
  judge g (Expression.New at new) = judge_made g at (Of (To TheHeap)) new
  judge g (Expression.NewIn at handle new) = judge_made_in g at (goal_of (is_unique_region handle) g (judge g handle)) new
  judge g (Expression.Chain first others) = judge_links g (judge g first) others
  judge g (Expression.AllOf first others) = judge_tests g (judge g first) others
  judge g (Expression.AnyOf first others) = judge_tests g (judge g first) others
  judge g (Expression.Assign to from) = both (judge g to) (judge g from) (assigned g)

  pub judge_all : Env → Expressions → Verdict (List Value)
  judge_all g NoExpressions = Of []
  judge_all g (MoreExpressions first others) = both (judge g first) (judge_all g others) more

  pub judge_tests : Env → Verdict Value → Expressions → Verdict Value
  judge_tests g v NoExpressions = v
  judge_tests g v (MoreExpressions first others) = judge_tests g (both v (judge g first) tested_both) others

  pub judge_links : Env → Verdict Value → Links → Verdict Value
  judge_links g v NoLinks = v
  judge_links g v (MoreLinks operator e others) = judge_links g (both v (judge g e) (applied g operator)) others

  pub judge_suffixes : Env → Verdict Value → Suffixes → Verdict Value
  judge_suffixes g v NoSuffixes = v
  judge_suffixes g v (Index index others) = judge_suffixes g (both v (judge g index) (indexed g)) others
  judge_suffixes g v (Dot f others) = judge_suffixes g (after v (member g f)) others
  judge_suffixes g v (Arrow f others) = judge_suffixes g (after v (arrow g f)) others

  pub judge_made : Env → ℕ → Verdict Goal → Made → Verdict Value
  judge_made g at goal (One e) = made_of at goal (judge g e)
  judge_made g at goal (Array index count e) = array_of at goal (judge g count) (judge (with_counter index g) e)

  pub judge_made_in : Env → ℕ → Verdict Goal → Made → Verdict Value
  judge_made_in g at goal (One e) = made_of at goal (judge (inside goal g) e)
  judge_made_in g at goal (Array index count e) = array_of at goal (judge (inside goal g) count) (judge (with_counter index (inside goal g)) e)
