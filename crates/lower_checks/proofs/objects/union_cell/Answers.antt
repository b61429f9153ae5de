use Rattle.source_meaning.specs.Programs.{world_of}
use Rattle.lower_checks.proofs.UnionCells.{none_has}
use Rattle.lower_checks.proofs.objects.union_cell.Goals as goal

-- one of the unions has the tag
pub unreachable-requires : goal.unreachable-requires
unreachable-requires c =
    absurd (none_has (world_of c.args.program.now).unions c.args.tag.now c.union_of.result c.in-None.is c.union_of.ensures.found c.requires.taken)
