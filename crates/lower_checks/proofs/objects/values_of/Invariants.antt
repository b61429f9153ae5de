use Rattle.std.proofs.Common.{◌≡◌, ◌++◌, map, drop}
use Rattle.source_meaning.specs.Programs.{world_of}
use Rattle.source_lowering.specs.Programs.{locals_of}
use Rattle.source_lowering.specs.Lowerable.{AreObjects}
use Rattle.cyc_core.specs.Trees.{local_tree}
use Rattle.lower_checks.specs.Views.{shape_tree}
use Rattle.lower_checks.proofs.objects.values_of.Given as goal

abbrev pub invariant-each : goal.invariant-each
invariant-each l = record {
  locals : map local_tree l.locals.items ++ locals_of (world_of l.program) (map shape_tree (drop l.shape-index l.shapes)) ≡
      locals_of (world_of l.program) (map shape_tree l.shapes);
  taken : AreObjects (world_of l.program).unions (world_of l.program).structs (map shape_tree (drop l.shape-index l.shapes));
}
