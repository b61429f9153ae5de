use Rattle.std.proofs.Common.{◌∙◌, arith}
use Rattle.tree_walk.proofs.Numbers.{found_small}
use Rattle.tree_walk.proofs.places.Strings.at.Goals as goal

pub returns-clause-small : goal.returns-clause-small
returns-clause-small c =
    let all = c.self.inside.all in
    found_small all.items c.args.at c.of.result (omega (arith, all.ok.0, all.ok.1, all.small)) (c.of.ensures ∙ c.self.invariant c.args.at)
