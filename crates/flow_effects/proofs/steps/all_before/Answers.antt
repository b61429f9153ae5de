use Rattle.std.proofs.Common.{ap, sym, ◌∙◌}
use Rattle.flow_effects.proofs.Sequences.{before_more}
use Rattle.flow_effects.specs.Exits.{exits_of}
use Rattle.flow_effects.specs.Steps.{all_before}
use Rattle.flow_effects.proofs.steps.all_before.Goals as goal

pub each-preserved : goal.each-preserved
each-preserved c =
    let left = c.pop.new.self.items in
    let rest = exits_of c.each.rest in
    ap (all_before left) c.in_ok-rest.ensures
    ∙ sym (before_more left c.in-Some.step rest)
    ∙ ap (λ l. all_before l rest) (sym c.in-Some.ensures.items)
    ∙ c.each.invariant
