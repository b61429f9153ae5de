use Rattle.std.proofs.Common.{subst}
use Rattle.cyc_tree.specs.Tree as tree
use Rattle.source_meaning.specs.Programs.{world_of}
use Rattle.lower_checks.specs.Within.{AreSmall}
use Rattle.lower_checks.proofs.table.Table.small.Goals as goal

pub returns : goal.returns
returns c = subst (λ (t : tree.Program). AreSmall (world_of t)) c.self.view_is (record { unions = c.self.invariant.values; structs = c.self.invariant.laid })
