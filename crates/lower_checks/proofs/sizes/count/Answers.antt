use Rattle.std.proofs.Common.{arith}
use Rattle.source_meaning.specs.Programs.{world_of}
use Rattle.lower_checks.proofs.Within.{known_cells}
use Rattle.lower_checks.proofs.sizes.count.Goals as goal

-- a struct has at most 4,096 cells
pub overflow_cast-result : goal.overflow_cast-result
overflow_cast-result c =
    let few = known_cells (world_of c.args.program.now) c.in-Struct.tag.now c.in-Some.known.now c.struct_of.ensures.small c.in-Some.ensures.found in
    grind (arith, few, c.len.ensures, c.deref.ensures)
