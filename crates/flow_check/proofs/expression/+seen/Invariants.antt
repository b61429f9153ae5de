use Rattle.std.proofs.Common.{[], ◌+◌, ◌*◌, drop, map, max}
use denote.Param.Weighed.{most}
use Rattle.cyc_tree.proofs.expression.Expression.TheLaws as expression
use Rattle.cyc_tree.proofs.expression.Link.TheLaws as link
use Rattle.cyc_tree.specs.View.{expression_tree, expressions_of, link_tree, links_of, suffix_tree}
use Rattle.flow_summaries.specs.Expressions.{uses_of}
use Rattle.flow_summaries.specs.Passages.{unchanged}
use Rattle.flow_summaries.specs.Uses.{Uses}
use Rattle.source_typing.specs.Scope.{Env, Value}
use Rattle.check_faults.specs.Verdicts.{Is, Short, short_of}
use Rattle.check_operators.specs.Values.{value_of}
use Rattle.check_expressions.proofs.Forms.{given_from, judged, links_from, tests_from}
use Rattle.check_expressions.specs.Joined.{values_of}
use Rattle.check_expressions.specs.Suffixes.{short_suffixes}
use Rattle.flow_effects.specs.Passed.{passage_of}
use Rattle.flow_effects.specs.declared.used.Usage.TheVariants as usage
use Rattle.flow_check.proofs.Seeing.{AreAll, AreGiven}
use Rattle.flow_check.proofs.SuffixUses.{Rest}
use Rattle.flow_check.specs.Folded.{all_short_uses, passed_all, passed_links, passed_tests}
use Rattle.flow_check.specs.Seen.{IsSeen}
use Rattle.flow_check.specs.Within.{IsWithin}
use Rattle.flow_check.proofs.expression.+seen.Given as goal

-- the parts so far and the rest are all parts
abbrev pub invariant-linked-each : goal.invariant-linked-each
invariant-linked-each l =
    (g : Env) → IsWithin l.scope l.around g → AreAll
    (links_from g (short_of value_of l.found.judged) (drop l.link-index l.links)) (links_from g (judged g l.first) l.links)
    (passed_links g (passage_of l.found.used.passed) (links_of (map link_tree (drop l.link-index l.links))))
    (passed_links g (uses_of g (expression_tree l.first)).look (links_of (map link_tree l.links)))

abbrev pub invariant-all_tested-each : goal.invariant-all_tested-each
invariant-all_tested-each l =
    (g : Env) → IsWithin l.scope l.around g → AreAll
    (tests_from g (short_of value_of l.found.judged) (drop l.expression-index l.others)) (tests_from g (judged g l.first) l.others)
    (passed_tests g (passage_of l.found.used.passed) (expressions_of (map expression_tree (drop l.expression-index l.others))))
    (passed_tests g (uses_of g (expression_tree l.first)).look (expressions_of (map expression_tree l.others)))

abbrev pub invariant-called-each : goal.invariant-called-each
invariant-called-each l =
    (g : Env) → IsWithin l.scope l.around g → AreGiven
    (given_from g (short_of (λ vs. values_of vs.items) l.given.values) (drop l.argument-index l.arguments)) (given_from g (Is []) l.arguments)
    (passed_all g (passage_of l.given.passed) (expressions_of (map expression_tree (drop l.argument-index l.arguments))))
    (passed_all g unchanged (expressions_of (map expression_tree l.arguments)))

abbrev pub invariant-suffixed-each : goal.invariant-suffixed-each
invariant-suffixed-each l =
    (g : Env) (s : Short Value) (u : Uses) → IsWithin l.scope l.around g → IsSeen usage.Look s u l.fn.primary
    → Rest g l.suffixed (map suffix_tree (drop l.suffix-index l.others)) (short_suffixes g s (map suffix_tree l.fn.suffixes))
    (all_short_uses g s u (map suffix_tree l.fn.suffixes))

-- ---- each call goes down the tree: three times the depth of what is left to look at, and a rank among the calls that go no deeper

abbrev pub decreases-seen : goal.decreases-seen
decreases-seen a = 3 * goal.size-seen a

abbrev pub decreases-looked : goal.decreases-looked
decreases-looked a = 3 * goal.size-looked a + 1

abbrev pub decreases-linked : goal.decreases-linked
decreases-linked a = 3 * max (goal.size-linked a) (most link.the_size a.links.now) + 2

abbrev pub decreases-all_tested : goal.decreases-all_tested
decreases-all_tested a = 3 * max (goal.size-all_tested a) (most expression.the_size a.others.now) + 2

abbrev pub decreases-called : goal.decreases-called
decreases-called a = 3 * goal.size-called a + 2

abbrev pub decreases-prefixed : goal.decreases-prefixed
decreases-prefixed a = 3 * goal.size-prefixed a + 2

abbrev pub decreases-suffix_after : goal.decreases-suffix_after
decreases-suffix_after a = 3 * goal.size-suffix_after a

abbrev pub decreases-suffixed : goal.decreases-suffixed
decreases-suffixed a = 3 * goal.size-suffixed a + 1

abbrev pub decreases-made : goal.decreases-made
decreases-made a = 3 * goal.size-made a
