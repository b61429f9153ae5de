use Rattle.std.proofs.Common.{ap, ap₂, ◌∙◌}
use Rattle.std.specs.Prelude.{◌||◌}
use Rattle.flow_summaries.specs.Passages.{copied_if, in_turn}
use Rattle.check_faults.specs.Verdicts.{short_of}
use Rattle.check_operators.specs.Values.{value_of}
use Rattle.flow_check.specs.Short.{in_block_short}
use Rattle.flow_check.proofs.pointing.pointed_to.Goals as goal

pub returns : goal.returns
returns c = λ how u used.
    let blocked = in_block_short (short_of value_of c.args.judged.now) in
    c.value.ensures how (in_turn u.place (copied_if (u.own || blocked) c.args.at))
    (c.in_turn.ensures
    ∙ ap₂ in_turn used.passed
    (c.copied_if-copied.ensures ∙ ap (λ b. copied_if b c.args.at) (c.is_owned.ensures ∙ ap (λ b. b || blocked) used.own)))
