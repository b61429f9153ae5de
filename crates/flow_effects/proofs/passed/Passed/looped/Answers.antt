use Rattle.std.proofs.Common.{ap, ◌∙◌}
use Rattle.flow_effects.specs.Tables.{passage_in, table_at}
use Rattle.flow_effects.specs.Touches.{joined}
use Rattle.flow_effects.specs.declared.touch.How.TheVariants as how
use Rattle.flow_effects.proofs.passed.Passed.looped.Goals as goal

pub returns : goal.returns
returns c =
    ap (λ t. passage_in t c.args.self.always)
    (c.in_ok-table.ensures ∙ ap (λ t i. joined how.Before (table_at c.args.left.now i) (t i)) c.joined_to_nothing-head.ensures)
