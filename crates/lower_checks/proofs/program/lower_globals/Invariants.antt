use Rattle.std.proofs.Common.{◌≡◌, ◌++◌, map, drop}
use Rattle.cyc_tree.specs.View.{program_tree}
use Rattle.cyc_core.specs.Trees.{datum_tree}
use Rattle.source_meaning.specs.Programs.{world_of}
use Rattle.source_lowering.specs.Programs.{data_of}
use Rattle.source_lowering.specs.Lowerable.{TakesProgram}
use Rattle.lower_checks.proofs.program.lower_globals.Given as goal

abbrev pub invariant-each : goal.invariant-each
invariant-each l = record {
  globals : map datum_tree l.globals.items ++ data_of (world_of l.program) (program_tree (drop l.item-index l.items)) ≡
      data_of (world_of l.program) (program_tree l.items);
  taken : TakesProgram (world_of l.program) (program_tree (drop l.item-index l.items));
}
