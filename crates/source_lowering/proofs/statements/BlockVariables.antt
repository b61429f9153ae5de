-- The locals of a block are variables.
use Rattle.std.proofs.Common.{List, suc, ℕ}
use Rattle.cyc_tree.specs.Tree.{BlockItems, Declare, Execute, NoItems}
use Rattle.source_meaning.specs.Shapes.{Shape}
use Rattle.source_meaning.specs.Steps.{World}
use Rattle.source_lowering.specs.Lowered.{Named}
use Rattle.source_lowering.specs.Programs.{block_shapes, names_behind}
use Rattle.source_lowering.specs.Lowerable.{TakesItems}
use Rattle.source_lowering.specs.Objects.{AreVariables}
use Rattle.source_lowering.proofs.statements.EachDeclaration.{shape_object}

pub block_variables : (w : World) (result : Shape) (names : List Named) (index : ℕ) (items : BlockItems) → TakesItems w result names index items
    → AreVariables w.unions w.structs (block_shapes w names index items)
block_variables w result names index NoItems h = tt
block_variables w result names index (Declare d others) h =
    (shape_object w names d h.0, block_variables w result (names_behind w names index d) (suc index) others h.1)
block_variables w result names index (Execute s others) h = block_variables w result names index others h.1
