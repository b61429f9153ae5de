use Rattle.std.proofs.Common.{IfOk, subst, sym, ◌≡◌}
use Rattle.flow_summaries.specs.Exits.{looped}
use Rattle.flow_effects.specs.Exits.{exits_of}
use Rattle.flow_effects.specs.Passed.{passage_of}
use Rattle.flow_effects.proofs.exits.Exits.loop_of.Goals as goal

pub returns : goal.returns
returns c =
    let p = passage_of c.args.condition in
    subst (λ v. IfOk c.looped.result (λ w. exits_of w ≡ looped p v)) c.in_ok-turn.ensures (c.looped.ensures p (sym c.in_ok-effects.ensures))
