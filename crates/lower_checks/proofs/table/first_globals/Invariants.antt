use Rattle.std.proofs.Common.{◌≡◌, ◌≤◌, ℕ, List, drop}
use Rattle.cyc_tree.specs.View.{program_tree}
use Rattle.source_meaning.specs.Places.{bound_to, or_else}
use Rattle.source_meaning.specs.Programs.{globals_from}
use Rattle.lower_checks.specs.Tables.{global_in}
use Rattle.lower_checks.proofs.table.first_globals.Given as goal

-- what the table has, or else what the rest binds, is what all bind; there are no more than items
abbrev pub invariant-each : goal.invariant-each
invariant-each l = record {
  first : (name : List ℕ) →
      or_else (global_in l.globals name) (bound_to (globals_from (program_tree (drop l.item-index l.items)) l.object) name) ≡
      bound_to (globals_from (program_tree l.items) 0) name;
  few : l.object ≤ l.item-index;
}
