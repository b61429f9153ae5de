use Rattle.std.proofs.Common.{◌≡◌, ◌≤◌, ℕ, List, drop}
use Rattle.cyc_tree.specs.View.{program_tree}
use Rattle.source_meaning.specs.Places.{or_else}
use Rattle.source_meaning.specs.Programs.{functions_of}
use Rattle.stack_needs.specs.Numbers.{number_from, number_in}
use Rattle.stack_needs.proofs.numbers.numbers_of.Given as goal

-- what the table has, or else the first of the rest, is the first of all; there are no more than items
abbrev pub invariant-each : goal.invariant-each
invariant-each l = record {
  first : (name : List ℕ) →
      or_else (number_in l.numbers name) (number_from (functions_of (program_tree (drop l.item-index l.items))) l.count name)
      ≡ number_from (functions_of (program_tree l.items)) 0 name;
  few : l.count ≤ l.item-index;
}
