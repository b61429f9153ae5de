use Rattle.std.proofs.Common.{drop}
use Rattle.cyc_tree.specs.View.{program_tree}
use Rattle.check_programs.specs.Programs.{SizesLeft}
use Rattle.check_programs.proofs.sizes.sizes_fault.Given as goal

-- the items so far are counted, and the rest after them is all
abbrev pub invariant-each : goal.invariant-each
invariant-each l = SizesLeft l.structs (program_tree l.items) l.total l.index (program_tree (drop l.item-index l.items)) l.seen
