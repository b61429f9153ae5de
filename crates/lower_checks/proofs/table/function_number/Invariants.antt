use Rattle.std.proofs.Common.{◌≡◌, ◌+◌, ◌≤◌, drop}
use Rattle.cyc_tree.specs.View.{program_tree}
use Rattle.source_meaning.specs.Programs.{functions_of}
use Rattle.source_lowering.specs.Lowered.{number_of}
use Rattle.lower_checks.proofs.table.function_number.Given as goal

-- those that were counted, and the number among the rest, are the number among all; there are no more than items
abbrev pub invariant-each : goal.invariant-each
invariant-each l = record {
  all : l.number + number_of (functions_of (program_tree (drop l.item-index l.items))) l.name ≡ number_of (functions_of (program_tree l.items)) l.name;
  few : l.number ≤ l.item-index;
}
