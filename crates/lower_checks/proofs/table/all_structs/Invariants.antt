use Rattle.std.proofs.Common.{◌≡◌, List, [], drop}
use Rattle.cyc_tree.specs.View.{program_tree}
use Rattle.source_meaning.specs.Shapes.{Layout}
use Rattle.source_meaning.specs.Programs.{structs_from, unions_of}
use Rattle.lower_checks.specs.Structs.{Knows}
use Rattle.lower_checks.specs.declared.layouts.Structs.{Structs}
use Rattle.cyc_tree.specs.declared.item.Item as code_item
use Rattle.lower_checks.proofs.table.all_structs.Given as goal

-- these are in the table, beside all unions, and with the rest they are all
pub record Met (table : Structs) (rest all : List code_item.Item) : Type 0 where
  pub found : List Layout
  pub knows : Knows table (unions_of (program_tree all)) found
  pub all_are : structs_from (program_tree rest) found ≡ structs_from (program_tree all) []

abbrev pub invariant-each : goal.invariant-each
invariant-each l = Met l.structs (drop l.item-index l.items) l.items
