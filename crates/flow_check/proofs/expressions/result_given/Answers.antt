use Rattle.std.proofs.Common.{IfOk, subst, sym, ◌≡◌}
use Rattle.std.specs.Prelude.{option_map}
use Rattle.cyc_tree.specs.View.{expression_tree}
use Rattle.flow_summaries.specs.Statements.{passage_of_result}
use Rattle.flow_effects.specs.Passed.{passage_of}
use Rattle.flow_check.proofs.expressions.result_given.Goals as goal

pub returns-in-Some : goal.returns-in-Some
returns-in-Some c = λ g k ls.
    subst (λ v. IfOk c.given.result (λ p. passage_of p ≡ passage_of_result g (option_map expression_tree v)))
    (sym c.in-Some.is) (c.given.ensures g k ls)
