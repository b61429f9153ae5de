use Rattle.std.proofs.Common.{◌≡◌, ◌++◌, map, drop}
use Rattle.lower_checks.specs.Structs.{laid_cell, moved_cell}
use Rattle.lower_checks.proofs.layouts.push_moved.Given as goal

-- what is appended, and the rest, is all
abbrev pub invariant-each : goal.invariant-each
invariant-each l =
    map laid_cell l.cells.items ++ map (moved_cell l.by) (map laid_cell (drop l.cell-index l.more)) ≡
    map laid_cell l.initial.cells.items ++ map (moved_cell l.by) (map laid_cell l.more)
