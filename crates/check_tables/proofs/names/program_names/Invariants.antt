use Rattle.std.proofs.Common.{drop}
use Rattle.cyc_tree.specs.View.{program_tree}
use Rattle.check_tables.proofs.ItemNames.{Reached}
use Rattle.check_tables.proofs.names.program_names.Given as goal

-- the names are those of the items so far
abbrev pub invariant-each : goal.invariant-each
invariant-each l = Reached l.structs l.lenient (program_tree l.items) l.index (program_tree (drop l.item-index l.items)) l.names
