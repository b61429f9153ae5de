-- What an expression does to the states of locals is what is told of it.
use Rattle.std.specs.Prelude.{length}
use Rattle.std.proofs.Common.{ℕ}
use Rattle.cyc_tree.specs.Tree.{Array, Arrow, Dot, Expression, Expressions, Index, Links, Made, MoreExpressions, MoreLinks, NoExpressions, NoLinks}
use Rattle.cyc_tree.specs.Tree.{NoSuffixes, One, Suffixes}
use Rattle.source_meaning.specs.Expressions.{is_unique_region}
use Rattle.source_typing.specs.Expressions.{judge}
use Rattle.source_typing.specs.Flow.{use_all, use_links, use_made, use_of, use_suffixes, use_tests}
use Rattle.source_typing.specs.Making.{goal_of, inside, with_counter}
use Rattle.source_typing.specs.Moves.{Use, applied_use, arrow_use, elements_passed, indexed_use, is_moved, member_use, nothing, place_at, tested_use}
use Rattle.source_typing.specs.Places.{arrow, indexed, member}
use Rattle.source_typing.specs.Scope.{Env, Value, find_local}
use Rattle.source_typing.specs.States.{Passed, States, then_passed}
use Rattle.source_typing.specs.Verdicts.{Verdict, after, both}
use Rattle.flow_summaries.proofs.Passages.{does_in_turn, does_nothing, does_repeat}
use Rattle.flow_summaries.proofs.Uses.{applied_used, arrow_used, assigned_used, indexed_used, member_used, name_used, prefixed_used, tested_used, used_as_value}
use Rattle.flow_summaries.specs.Expressions.{uses_all, uses_links, uses_made, uses_of, uses_suffixes, uses_tests}
use Rattle.flow_summaries.specs.Laws.{DoesAs, UsesAs}
use Rattle.flow_summaries.specs.Passages.{Passage, in_turn, repeated, unchanged}
use Rattle.flow_summaries.specs.Uses.{Uses, applied_uses, arrow_uses, indexed_uses, member_uses, tested_uses}

-- a phrase that does nothing
idle_told : (g : Env) → UsesAs (length g.locals) (use_of g (Expression.Null 0)) (uses_of g (Expression.Null 0))
idle_told g = used_as_value (length g.locals) nothing unchanged (does_nothing (length g.locals))

mutual
  pub uses_told : (e : Expression) (g : Env) → UsesAs (length g.locals) (use_of g e) (uses_of g e)
  uses_told (Expression.Number at n suffix) g = idle_told g
  uses_told (Expression.Character at byte) g = idle_told g
  uses_told (Expression.Text at bytes) g = idle_told g
  uses_told (Expression.Null at) g = idle_told g
  uses_told (Expression.HeapRegion at) g = idle_told g
  uses_told (Expression.UniqueRegion at) g = idle_told g
  uses_told (Expression.Variable name) g = name_used g name (find_local g.locals name.text)
  uses_told (Expression.Call name arguments) g = used_as_value (length g.locals) (λ s. use_all g arguments s) (uses_all g arguments) (all_told arguments g)
  uses_told (Expression.MakeUnion tag f e) g = used_as_value (length g.locals) (use_of g e).value (uses_of g e).value (uses_told e g).value
  uses_told (Expression.NumElts at e) g = used_as_value (length g.locals) (use_of g e).look (uses_of g e).look (uses_told e g).look
  uses_told (Expression.Grouped at e) g = uses_told e g
  uses_told (Expression.Suffixed primary suffixes) g =
      suffixes_told suffixes g (judge g primary) (use_of g primary) (uses_of g primary) (uses_told primary g)
  uses_told (Expression.Prefixed at operator e) g =
      prefixed_used (length g.locals) (use_of g e) (uses_of g e) (uses_told e g) g at operator (judge g e)
  uses_told (Expression.New at new) g = made_told new g nothing unchanged (does_nothing (length g.locals))
  uses_told (Expression.NewIn at handle new) g =
      made_told new (inside (goal_of (is_unique_region handle) g (judge g handle)) g) (use_of g handle).look (uses_of g handle).look
      (uses_told handle g).look
  uses_told (Expression.Chain first others) g = links_told others g (use_of g first) (uses_of g first) (uses_told first g)
  uses_told (Expression.AllOf first others) g = tests_told others g (use_of g first) (uses_of g first) (uses_told first g)
  uses_told (Expression.AnyOf first others) g = tests_told others g (use_of g first) (uses_of g first) (uses_told first g)
  uses_told (Expression.Assign to from) g =
      assigned_used (length g.locals) (use_of g to) (use_of g from) (uses_of g to) (uses_of g from) (uses_told to g) (uses_told from g)

  all_told : (es : Expressions) (g : Env) → DoesAs (length g.locals) (λ s. use_all g es s) (uses_all g es)
  all_told NoExpressions g = does_nothing (length g.locals)
  all_told (MoreExpressions first others) g =
      does_in_turn (length g.locals) (use_of g first).value (λ t. use_all g others t) (uses_of g first).value (uses_all g others)
      (uses_told first g).value (all_told others g)

  tests_told : (es : Expressions) (g : Env) (u : Use) (v : Uses) → UsesAs (length g.locals) u v
      → UsesAs (length g.locals) (use_tests g u es) (uses_tests g v es)
  tests_told NoExpressions g u v h = h
  tests_told (MoreExpressions first others) g u v h =
      tests_told others g (tested_use u (use_of g first)) (tested_uses v (uses_of g first))
      (tested_used (length g.locals) u (use_of g first) v (uses_of g first) h (uses_told first g))

  links_told : (ls : Links) (g : Env) (u : Use) (v : Uses) → UsesAs (length g.locals) u v
      → UsesAs (length g.locals) (use_links g u ls) (uses_links g v ls)
  links_told NoLinks g u v h = h
  links_told (MoreLinks operator e others) g u v h =
      links_told others g (applied_use u (use_of g e)) (applied_uses v (uses_of g e))
      (applied_used (length g.locals) u (use_of g e) v (uses_of g e) h (uses_told e g))

  suffixes_told : (ss : Suffixes) (g : Env) (a : Verdict Value) (u : Use) (v : Uses) → UsesAs (length g.locals) u v
      → UsesAs (length g.locals) (use_suffixes g a u ss) (uses_suffixes g a v ss)
  suffixes_told NoSuffixes g a u v h = h
  suffixes_told (Index index others) g a u v h =
      let b : Verdict Value = both a (judge g index) (indexed g) in
      suffixes_told others g b (indexed_use (place_at 0 a) (is_moved g b) a u (use_of g index))
      (indexed_uses (place_at 0 a) (is_moved g b) a v (uses_of g index))
      (indexed_used (length g.locals) u (use_of g index) v (uses_of g index) h (uses_told index g) (place_at 0 a) (is_moved g b) a)
  suffixes_told (Dot f others) g a u v h =
      let b : Verdict Value = after a (member g f) in
      suffixes_told others g b (member_use (place_at 0 a) (is_moved g b) u) (member_uses (place_at 0 a) (is_moved g b) v)
      (member_used (length g.locals) u v h (place_at 0 a) (is_moved g b))
  suffixes_told (Arrow f others) g a u v h =
      let b : Verdict Value = after a (arrow g f) in
      suffixes_told others g b (arrow_use (place_at 0 a) (is_moved g b) a u) (arrow_uses (place_at 0 a) (is_moved g b) a v)
      (arrow_used (length g.locals) u v h (place_at 0 a) (is_moved g b) a)

  made_told : (new : Made) (g : Env) (handle : States → Passed) (p : Passage) → DoesAs (length g.locals) handle p
      → UsesAs (length g.locals) (use_made g new handle) (uses_made g new p)
  made_told (One e) g handle p h =
      used_as_value (length g.locals) (λ s. then_passed (handle s) (use_of g e).value) (in_turn p (uses_of g e).value)
      (does_in_turn (length g.locals) handle (use_of g e).value p (uses_of g e).value h (uses_told e g).value)
  made_told (Array index count e) g handle p h =
      let n : ℕ = length g.locals in
      let counted : States → Passed = λ s. then_passed (handle s) (use_of g count).look in
      let both_passed : Passage = in_turn p (uses_of g count).look in
      let element : States → Passed = (use_of (with_counter index g) e).value in
      let passage : Passage = (uses_of (with_counter index g) e).value in
      used_as_value n (λ s. then_passed (counted s) (elements_passed element)) (in_turn both_passed (repeated n passage))
      (does_in_turn n counted (elements_passed element) both_passed (repeated n passage)
      (does_in_turn n handle (use_of g count).look p (uses_of g count).look h (uses_told count g).look)
      (does_repeat n element passage (uses_told e (with_counter index g)).value))
