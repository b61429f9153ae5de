-- Believed: how an expression uses locals that can't be copied: one line a form.
use Rattle.std.specs.Prelude.{[]}
use Rattle.cyc_tree.specs.Tree.{Array, Arrow, Dot, Expression, Expressions, Index, Links, Made, MoreExpressions, MoreLinks, NoExpressions, NoLinks}
use Rattle.cyc_tree.specs.Tree.{NoSuffixes, One, Suffixes}
use Rattle.source_meaning.specs.Expressions.{is_unique_region}
use Rattle.source_typing.specs.Expressions.{judge}
use Rattle.source_typing.specs.Making.{goal_of, inside, with_counter}
use Rattle.source_typing.specs.Moves.{Use, applied_use, arrow_use, assigned_use, elements_passed, indexed_use, is_moved, member_use, nothing, place_at}
use Rattle.source_typing.specs.Moves.{prefixed_use, tested_use, use_of_name, value_use}
use Rattle.source_typing.specs.Places.{arrow, indexed, member}
use Rattle.source_typing.specs.Scope.{Env, Value, find_local}
use Rattle.source_typing.specs.States.{Passed, States, passed, then_passed}
use Rattle.source_typing.specs.Verdicts.{Verdict, after, both}

abbrev mutual
  pub use_of : Env → Expression → Use
  use_of g (Expression.Number at n suffix) = value_use nothing
  use_of g (Expression.Character at byte) = value_use nothing
  use_of g (Expression.Text at bytes) = value_use nothing
  use_of g (Expression.Null at) = value_use nothing
  use_of g (Expression.HeapRegion at) = value_use nothing
  use_of g (Expression.UniqueRegion at) = value_use nothing
  use_of g (Expression.Variable name) = use_of_name g name (find_local g.locals name.text)
  use_of g (Expression.Call name arguments) = value_use (λ s. use_all g arguments s)
  use_of g (Expression.MakeUnion tag f e) = value_use (use_of g e).value
  use_of g (Expression.NumElts at e) = value_use (use_of g e).look
  use_of g (Expression.Grouped at e) = use_of g e
  use_of g (Expression.Suffixed primary suffixes) = use_suffixes g (judge g primary) (use_of g primary) suffixes
  use_of g (Expression.Prefixed at operator e) = prefixed_use g at operator (judge g e) (use_of g e)
  use_of g (Expression.New at new) = use_made g new nothing
  use_of g (Expression.NewIn at handle new) = use_made (inside (goal_of (is_unique_region handle) g (judge g handle)) g) new (use_of g handle).look
  use_of g (Expression.Chain first others) = use_links g (use_of g first) others
  use_of g (Expression.AllOf first others) = use_tests g (use_of g first) others
  use_of g (Expression.AnyOf first others) = use_tests g (use_of g first) others
  use_of g (Expression.Assign to from) = assigned_use (use_of g to) (use_of g from)

  -- arguments are given away, from the left
  pub use_all : Env → Expressions → States → Passed
  use_all g NoExpressions s = passed [] s
  use_all g (MoreExpressions first others) s = then_passed ((use_of g first).value s) (λ t. use_all g others t)

  pub use_tests : Env → Use → Expressions → Use
  use_tests g u NoExpressions = u
  use_tests g u (MoreExpressions first others) = use_tests g (tested_use u (use_of g first)) others

  pub use_links : Env → Use → Links → Use
  use_links g u NoLinks = u
  use_links g u (MoreLinks operator e others) = use_links g (applied_use u (use_of g e)) others

  pub use_suffixes : Env → Verdict Value → Use → Suffixes → Use
  use_suffixes g v u NoSuffixes = u
  use_suffixes g v u (Index index others) =
      use_suffixes g (both v (judge g index) (indexed g))
      (indexed_use (place_at 0 v) (is_moved g (both v (judge g index) (indexed g))) v u (use_of g index)) others
  use_suffixes g v u (Dot f others) =
      use_suffixes g (after v (member g f)) (member_use (place_at 0 v) (is_moved g (after v (member g f))) u) others
  use_suffixes g v u (Arrow f others) =
      use_suffixes g (after v (arrow g f)) (arrow_use (place_at 0 v) (is_moved g (after v (arrow g f))) v u) others

  -- the handle is looked at, and then the value is given away
  pub use_made : Env → Made → (States → Passed) → Use
  use_made g (One e) handle = value_use (λ s. then_passed (handle s) (use_of g e).value)
  use_made g (Array index count e) handle =
      value_use (λ s. then_passed (then_passed (handle s) (use_of g count).look) (elements_passed (use_of (with_counter index g) e).value))
