use Rattle.std.proofs.Common.{◌≡◌, ◌+◌, ◌≤◌, length, drop}
use Rattle.cyc_tree.specs.View.{program_tree}
use Rattle.source_meaning.specs.Programs.{globals_from}
use Rattle.lower_checks.proofs.table.globals_many.Given as goal

-- those so far and the rest are all; there are no more than items
abbrev pub invariant-each : goal.invariant-each
invariant-each l = record {
  all : l.many + length (globals_from (program_tree (drop l.item-index l.items)) l.many) ≡ length (globals_from (program_tree l.items) 0);
  few : l.many ≤ l.item-index;
}
