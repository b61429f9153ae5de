use Rattle.std.proofs.Common.{ap, ap₂, ◌∙◌}
use Rattle.flow_effects.specs.Tables.{passage_in, table_at}
use Rattle.flow_effects.specs.Touches.{joined}
use Rattle.flow_effects.specs.declared.touch.How.TheVariants as how
use Rattle.flow_effects.proofs.Passages.{maybe_is}
use Rattle.flow_effects.proofs.passed.Passed.in_turn_or_not.Goals as goal

pub returns : goal.returns
returns c =
    ap₂ passage_in (c.turn.ensures ∙ ap (λ m i. joined how.Turn (table_at c.args.self.table i) (m i)) c.joined_to_nothing-maybe.ensures) c.sooner.ensures
    ∙ maybe_is (table_at c.args.self.table) (table_at c.args.next.table) c.args.self.always c.args.next.always
