use Rattle.std.proofs.Common.{ap, sym, ◌∙◌}
use Rattle.check_faults.proofs.Shortened.{shortened_after}
use Rattle.check_faults.specs.Verdicts.{short_after, shortened}
use Rattle.source_typing.specs.Operators.{prefixed}
use Rattle.flow_check.proofs.pointing.looked_at.Goals as goal

pub returns : goal.returns
returns c = λ g v u how sees seen. record {
  judged = c.in_ok-judged.ensures g sees ∙ ap (λ s. short_after s (λ a. shortened (prefixed g c.args.at c.args.operator a))) seen.judged
      ∙ sym (shortened_after v (prefixed g c.args.at c.args.operator));
  used = c.value-used.ensures how u.look seen.used.passed;
}
