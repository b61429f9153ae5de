use Rattle.std.proofs.Common.{◌≡◌, ◌++◌, map, drop}
use Rattle.source_meaning.specs.Programs.{world_of}
use Rattle.source_lowering.specs.Programs.{locals_of}
use Rattle.cyc_core.specs.Trees.{local_tree}
use Rattle.source_lowering.specs.Objects.{AreVariables}
use Rattle.lower_checks.specs.Views.{stored_tree}
use Rattle.lower_checks.proofs.objects.locals_of.Given as goal

abbrev pub invariant-each : goal.invariant-each
invariant-each l = record {
  locals : map local_tree l.locals.items ++ locals_of (world_of l.program) (map stored_tree (drop l.stored-index l.all)) ≡
      locals_of (world_of l.program) (map stored_tree l.all);
  taken : AreVariables (world_of l.program).unions (world_of l.program).structs (map stored_tree (drop l.stored-index l.all));
}
