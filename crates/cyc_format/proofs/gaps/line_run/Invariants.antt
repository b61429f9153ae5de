use Rattle.std.proofs.Common.{◌≡◌, ◌+◌, drop}
use Rattle.cyc_lexer.specs.Reading.{run, is_no_line_end}
use Rattle.cyc_format.proofs.gaps.line_run.Given as goal

abbrev pub invariant-loop-i : goal.invariant-loop-i
invariant-loop-i l = l.i + run is_no_line_end (drop l.i l.bytes) ≡ run is_no_line_end l.bytes
