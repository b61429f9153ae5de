-- Believed, for this crate's laws: what an expression does to locals that can't be copied: one line a form.
use Rattle.std.specs.Prelude.{length}
use Rattle.cyc_tree.specs.Tree.{Array, Arrow, Dot, Expression, Expressions, Index, Links, Made, MoreExpressions, MoreLinks, NoExpressions, NoLinks}
use Rattle.cyc_tree.specs.Tree.{NoSuffixes, One, Suffixes}
use Rattle.source_meaning.specs.Expressions.{is_unique_region}
use Rattle.source_typing.specs.Expressions.{judge}
use Rattle.source_typing.specs.Making.{goal_of, inside, with_counter}
use Rattle.source_typing.specs.Moves.{is_moved, place_at}
use Rattle.source_typing.specs.Places.{arrow, indexed, member}
use Rattle.source_typing.specs.Scope.{Env, Value, find_local}
use Rattle.source_typing.specs.Verdicts.{Verdict, after, both}
use Rattle.flow_summaries.specs.Passages.{Passage, in_turn, repeated, unchanged}
use Rattle.flow_summaries.specs.Uses.{Uses, applied_uses, arrow_uses, assigned_uses, indexed_uses, member_uses, prefixed_uses, tested_uses, uses_as_value}
use Rattle.flow_summaries.specs.Uses.{uses_of_name}

abbrev mutual
  pub uses_of : Env → Expression → Uses
  uses_of g (Expression.Number at n suffix) = uses_as_value unchanged
  uses_of g (Expression.Character at byte) = uses_as_value unchanged
  uses_of g (Expression.Text at bytes) = uses_as_value unchanged
  uses_of g (Expression.Null at) = uses_as_value unchanged
  uses_of g (Expression.HeapRegion at) = uses_as_value unchanged
  uses_of g (Expression.UniqueRegion at) = uses_as_value unchanged
  uses_of g (Expression.Variable name) = uses_of_name g name (find_local g.locals name.text)
  uses_of g (Expression.Call name arguments) = uses_as_value (uses_all g arguments)
  uses_of g (Expression.MakeUnion tag f e) = uses_as_value (uses_of g e).value
  uses_of g (Expression.NumElts at e) = uses_as_value (uses_of g e).look
  uses_of g (Expression.Grouped at e) = uses_of g e
  uses_of g (Expression.Suffixed primary suffixes) = uses_suffixes g (judge g primary) (uses_of g primary) suffixes
  uses_of g (Expression.Prefixed at operator e) = prefixed_uses g at operator (judge g e) (uses_of g e)
  uses_of g (Expression.New at new) = uses_made g new unchanged
  uses_of g (Expression.NewIn at handle new) = uses_made (inside (goal_of (is_unique_region handle) g (judge g handle)) g) new (uses_of g handle).look
  uses_of g (Expression.Chain first others) = uses_links g (uses_of g first) others
  uses_of g (Expression.AllOf first others) = uses_tests g (uses_of g first) others
  uses_of g (Expression.AnyOf first others) = uses_tests g (uses_of g first) others
  uses_of g (Expression.Assign to from) = assigned_uses (uses_of g to) (uses_of g from)

  -- arguments are given away, from the left
  pub uses_all : Env → Expressions → Passage
  uses_all g NoExpressions = unchanged
  uses_all g (MoreExpressions first others) = in_turn (uses_of g first).value (uses_all g others)

  pub uses_tests : Env → Uses → Expressions → Uses
  uses_tests g u NoExpressions = u
  uses_tests g u (MoreExpressions first others) = uses_tests g (tested_uses u (uses_of g first)) others

  pub uses_links : Env → Uses → Links → Uses
  uses_links g u NoLinks = u
  uses_links g u (MoreLinks operator e others) = uses_links g (applied_uses u (uses_of g e)) others

  pub uses_suffixes : Env → Verdict Value → Uses → Suffixes → Uses
  uses_suffixes g v u NoSuffixes = u
  uses_suffixes g v u (Index index others) =
      uses_suffixes g (both v (judge g index) (indexed g))
      (indexed_uses (place_at 0 v) (is_moved g (both v (judge g index) (indexed g))) v u (uses_of g index)) others
  uses_suffixes g v u (Dot f others) =
      uses_suffixes g (after v (member g f)) (member_uses (place_at 0 v) (is_moved g (after v (member g f))) u) others
  uses_suffixes g v u (Arrow f others) =
      uses_suffixes g (after v (arrow g f)) (arrow_uses (place_at 0 v) (is_moved g (after v (arrow g f))) v u) others

  -- the handle is looked at, and then the value is given away
  pub uses_made : Env → Made → Passage → Uses
  uses_made g (One e) handle = uses_as_value (in_turn handle (uses_of g e).value)
  uses_made g (Array index count e) handle =
      uses_as_value (in_turn (in_turn handle (uses_of g count).look) (repeated (length g.locals) (uses_of (with_counter index g) e).value))
