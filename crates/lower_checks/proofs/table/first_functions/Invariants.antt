use Rattle.std.proofs.Common.{◌≡◌, ◌≤◌, ℕ, List, drop}
use Rattle.cyc_tree.specs.View.{program_tree}
use Rattle.source_meaning.specs.Places.{or_else}
use Rattle.lower_checks.specs.Tables.{first_function, function_in}
use Rattle.lower_checks.proofs.table.first_functions.Given as goal

-- what the table has, or else the first of the rest, is the first of all; there are no more than items
abbrev pub invariant-each : goal.invariant-each
invariant-each l = record {
  first : (name : List ℕ) →
      or_else (function_in l.functions name) (first_function (program_tree (drop l.item-index l.items)) l.number name) ≡
      first_function (program_tree l.items) 0 name;
  few : l.number ≤ l.item-index;
}
