use Rattle.std.proofs.Common.{arith}
use Rattle.std.proofs.lemmas.Grind.{common_steps}
use Rattle.cyc_tree.specs.Depths.{nesting}
use Rattle.cyc_tree.proofs.PartDepths.{greatest_both}
use Rattle.cyc_tree.proofs.nested.nesting.Goals as goal

pub each-preserved : goal.each-preserved
each-preserved c = grind (arith, common_steps, greatest_both)

pub returns : goal.returns
unfolding nesting
returns c = grind (arith, common_steps)
