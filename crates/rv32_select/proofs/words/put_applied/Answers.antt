use Rattle.std.proofs.lemmas.Result.{on_ok_weaker}
use Rattle.cyc_core.specs.Trees.{binary_tree}
use Rattle.rv32_select.specs.Places.{surroundings}
use Rattle.rv32_select.proofs.Applying.{applied}
use Rattle.rv32_select.proofs.words.put_applied.Goals as goal

pub returns : goal.returns
returns c =
    let first = c.in_ok-first.ensures in
    on_ok_weaker c.put_with.result
    (λ e. applied (surroundings c.args.place.now) (binary_tree c.args.operation) c.args.to c.args.left.0 c.args.right.0 _ _ _ _ first.code first.register e)
    c.put_with.ensures
