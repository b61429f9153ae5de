use Rattle.std.specs.List.{sum_by}
use Rattle.stack_needs.specs.Graph.{IsOnPath, rows_of}
use Rattle.stack_needs.proofs.Paths.{unseen}
use Rattle.stack_needs.proofs.recursion.recursion_from.Given as goal

abbrev pub invariant-path : goal.invariant-path
invariant-path l = IsOnPath (rows_of l.calls) l.needs l.from l.at l.path.items l.seen.items

-- each turn sees one function more
abbrev pub decreases-path : goal.decreases-path
decreases-path l = sum_by unseen l.seen.items
