use Rattle.std.proofs.Common.{◌+◌, length}
use Rattle.std.specs.Prelude.{if◌then◌else◌}
use Rattle.stack_needs.specs.Graph.{AreLooked, rows_of}
use Rattle.stack_needs.proofs.rounds.needs_of.Given as goal

abbrev pub invariant-loop-is_last : goal.invariant-loop-is_last
invariant-loop-is_last l = AreLooked l.frames (rows_of l.calls) l.is_last l.needs.items l.waiting.items

-- a round leaves fewer functions, or is the last one
abbrev pub decreases-loop-is_last : goal.decreases-loop-is_last
decreases-loop-is_last l = length l.waiting.items + (if l.is_last then 0 else 1)
