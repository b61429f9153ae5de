use Rattle.std.proofs.Common.{IfOk, subst, sym, ◌≡◌}
use Rattle.flow_summaries.specs.Exits.{lent_in, with_passage}
use Rattle.flow_effects.specs.Exits.{exits_of}
use Rattle.flow_effects.proofs.exits.Exits.lent.Goals as goal

pub returns-in_default : goal.returns-in_default
returns-in_default c = λ x e.
    subst (λ n. IfOk c.after.result (λ w. exits_of w ≡ lent_in c.args.at x n (exits_of c.args.self))) (sym c.in_default.is)
    (subst (λ p. IfOk c.after.result (λ w. exits_of w ≡ with_passage p (exits_of c.args.self))) c.copied_if.ensures c.after.ensures)
