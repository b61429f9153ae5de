use Rattle.std.proofs.Common.{◌≡◌, ◌++◌, map, drop}
use Rattle.cyc_tree.specs.View.{program_tree}
use Rattle.cyc_core.specs.Trees.{function_tree}
use Rattle.source_meaning.specs.Programs.{world_of, functions_of}
use Rattle.source_lowering.specs.Programs.{function_code}
use Rattle.source_lowering.specs.Lowerable.{TakesProgram}
use Rattle.lower_checks.specs.Roomy.{AreRoomy}
use Rattle.lower_checks.proofs.program.lower_functions.Given as goal

abbrev pub invariant-each : goal.invariant-each
invariant-each l = record {
  functions : map function_tree l.functions.items ++
      map (function_code (world_of l.program)) (functions_of (program_tree (drop l.item-index l.items))) ≡
      map (function_code (world_of l.program)) (functions_of (program_tree l.items));
  taken : TakesProgram (world_of l.program) (program_tree l.items) → TakesProgram (world_of l.program) (program_tree (drop l.item-index l.items));
  room : AreRoomy (program_tree (drop l.item-index l.items));
}
