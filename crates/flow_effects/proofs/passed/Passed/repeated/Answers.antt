use Rattle.std.proofs.Common.{ap, ap₂, ◌∙◌}
use Rattle.flow_effects.specs.Tables.{passage_in, table_at}
use Rattle.flow_effects.specs.Touches.{idle_touch, joined}
use Rattle.flow_effects.specs.declared.touch.How.TheVariants as how
use Rattle.flow_effects.proofs.Passages.{repeated_is}
use Rattle.flow_effects.proofs.passed.Passed.repeated.Goals as goal

pub returns : goal.returns
returns c =
    ap₂ passage_in (c.joined_to_nothing.ensures ∙ ap (λ m i. joined how.Head idle_touch (m i)) c.below-inside.ensures) c.begun-always.ensures
    ∙ repeated_is c.args.around (table_at c.args.self.table) c.args.self.always
