use Rattle.std.proofs.Common.{◌≡◌, ◌++◌, drop}
use Rattle.cyc_types.specs.Regions.{regions_of}
use Rattle.source_typing.specs.Missing.{filled_arguments}
use Rattle.check_types.specs.Written.{partial_regions}
use Rattle.check_types.proofs.base.filled_arguments.Given as goal

-- with the rest the arguments are all of them
abbrev pub invariant-each : goal.invariant-each
invariant-each l = record {
  place : l.place ≡ l.argument-index;
  filled : regions_of l.filled.items ++ filled_arguments (partial_regions (drop l.argument-index l.arguments)) (drop l.argument-index (regions_of l.others))
      ≡ filled_arguments (partial_regions l.arguments) (regions_of l.others);
}
