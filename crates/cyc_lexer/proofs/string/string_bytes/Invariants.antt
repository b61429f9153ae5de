use Rattle.std.proofs.Common.{◌≤◌, ◌+◌, ◌-◌, length}
use Rattle.cyc_lexer.proofs.StringSteps.{Decodes}
use Rattle.cyc_lexer.proofs.string.string_bytes.Given as goal

abbrev pub invariant-loop-at : goal.invariant-loop-at
invariant-loop-at l = (l.at ≤ length l.spelling + 1) × Decodes l.spelling l.bytes.items l.at

abbrev pub decreases-loop-at : goal.decreases-loop-at
decreases-loop-at l = length l.spelling + 1 - l.at
