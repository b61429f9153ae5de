use Rattle.std.proofs.Common.{ap, ap₂, not, ◌∙◌}
use Rattle.std.specs.Prelude.{◌&&◌}
use Rattle.flow_summaries.specs.Passages.{copied_if, in_turn}
use Rattle.check_faults.specs.Verdicts.{short_of}
use Rattle.check_operators.specs.Values.{value_of}
use Rattle.flow_check.specs.Short.{is_unique_short}
use Rattle.flow_check.proofs.pointing.pointed.Goals as goal

pub returns : goal.returns
returns c = λ u used.
    c.in_turn.ensures
    ∙ ap₂ in_turn used.passed
    (c.copied_if-copied.ensures
    ∙ ap (λ b. copied_if b c.args.at)
    (c.is_led_away.ensures ∙ ap (λ b. is_unique_short (short_of value_of c.args.judged.now) && not b) used.whole))
