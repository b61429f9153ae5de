use Rattle.std.proofs.Common.{ap, sym, ◌∙◌}
use Rattle.cyc_tree.specs.View.{initializer_tree}
use Rattle.flow_summaries.specs.Exits.{with_passage}
use Rattle.flow_summaries.specs.Statements.{passage_of_initial}
use Rattle.flow_check.proofs.declared.value_given.Goals as goal

pub returns-in_ok-given-in-Value : goal.returns-in_ok-given-in-Value
returns-in_ok-given-in-Value c g rest h same =
    ap (λ p. with_passage p rest) (c.in_ok-given-in-Value.ensures g h same)
    ∙ ap (λ i. with_passage (passage_of_initial g (initializer_tree i)) rest) (sym c.in-Value.is)
