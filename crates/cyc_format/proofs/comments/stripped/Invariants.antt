use Rattle.std.proofs.Common.{◌≡◌, ◌≤◌, take}
use Rattle.cyc_format.specs.Comments.{stripped}
use Rattle.cyc_format.proofs.comments.stripped.Given as goal

abbrev pub invariant-loop-i : goal.invariant-loop-i
invariant-loop-i l = (stripped (take l.i l.comment) ≡ take l.end l.comment) × (l.end ≤ l.i)
