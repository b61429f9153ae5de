-- View of code: what parts do one after another, after what stands before them.
use Rattle.std.specs.Prelude.{List, [], ◌∷◌}
use Rattle.cyc_tree.specs.Tree.{Expressions, Links, MoreExpressions, MoreLinks, NoExpressions, NoLinks}
use Rattle.cyc_tree.specs.View.{OneSuffix}
use Rattle.check_expressions.specs.Suffixes.{short_suffix}
use Rattle.flow_check.specs.Short.{is_moved_short, is_unique_short, place_short}
use Rattle.flow_summaries.specs.Expressions.{uses_of}
use Rattle.flow_summaries.specs.Passages.{Passage, copied_if, in_turn, in_turn_or_not}
use Rattle.flow_summaries.specs.Uses.{Uses, member_uses, uses_as_place}
use Rattle.source_typing.specs.Scope.{Env, Value}
use Rattle.std.specs.Prelude.{false, not, ◌&&◌}
use Rattle.check_faults.specs.Verdicts.{Short}

-- arguments, which are given away
abbrev pub passed_all : Env → Passage → Expressions → Passage
passed_all g p NoExpressions = p
passed_all g p (MoreExpressions e es) = passed_all g (in_turn p (uses_of g e).value) es

-- the operands of operators of one level
abbrev pub passed_links : Env → Passage → Links → Passage
passed_links g p NoLinks = p
passed_links g p (MoreLinks o e es) = passed_links g (in_turn p (uses_of g e).look) es

-- the operands of `&&` or `||`
abbrev pub passed_tests : Env → Passage → Expressions → Passage
passed_tests g p NoExpressions = p
passed_tests g p (MoreExpressions e es) = passed_tests g (in_turn_or_not p (uses_of g e).look) es

-- one suffix, by what is answered of what stands before it
abbrev pub short_uses : Env → Short Value → Uses → OneSuffix → Uses
short_uses g s u (OneSuffix.Index e) =
    uses_as_place (place_short s) (is_moved_short g (short_suffix g s (OneSuffix.Index e))) (u.own && not (is_unique_short s))
    (in_turn (uses_of g e).look (in_turn u.look (copied_if (is_unique_short s && not u.whole) (place_short s))))
short_uses g s u (OneSuffix.Dot f) = member_uses (place_short s) (is_moved_short g (short_suffix g s (OneSuffix.Dot f))) u
short_uses g s u (OneSuffix.Arrow f) =
    uses_as_place (place_short s) (is_moved_short g (short_suffix g s (OneSuffix.Arrow f))) false
    (in_turn u.look (copied_if (is_unique_short s && not u.whole) (place_short s)))

-- suffixes, one after another
abbrev pub all_short_uses : Env → Short Value → Uses → List OneSuffix → Uses
all_short_uses g s u [] = u
all_short_uses g s u (x ∷ xs) = all_short_uses g (short_suffix g s x) (short_uses g s u x) xs
