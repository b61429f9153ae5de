use Rattle.std.proofs.Common.{◌≡◌, ◌-◌, drop}
use Rattle.cyc_lexer.specs.Reading.{longer, comment_end}
use Rattle.cyc_format.proofs.gaps.comment_end.Given as goal

abbrev pub invariant-loop-i : goal.invariant-loop-i
invariant-loop-i l = comment_end l.bytes ≡ longer (l.i - 1) (comment_end (drop (l.i - 1) l.bytes))
