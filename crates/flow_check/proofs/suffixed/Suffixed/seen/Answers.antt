use Rattle.std.proofs.Common.{refl, subst, sym}
use Rattle.flow_effects.specs.Passed.{passage_of}
use Rattle.flow_effects.specs.Used.{IsUsed}
use Rattle.flow_check.proofs.suffixed.Suffixed.seen.Goals as goal

pub returns : goal.returns
returns c = λ s u h. record {
  judged = h.judged;
  used = subst (λ w. IsUsed c.args.how w c.place.result) (sym h.uses) (c.place.ensures (passage_of c.args.self.look.passed) refl);
}
