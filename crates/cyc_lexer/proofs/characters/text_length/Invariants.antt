use Rattle.std.proofs.Common.{◌≡◌, ◌≤◌, ◌-◌, length, drop}
use Rattle.cyc_lexer.specs.Reading.{longer, text_from}
use Rattle.cyc_lexer.proofs.characters.text_length.Given as goal

abbrev pub invariant-loop-at : goal.invariant-loop-at
invariant-loop-at l = (l.at ≤ length l.bytes) × (text_from 0 l.bytes ≡ longer l.at (text_from 0 (drop l.at l.bytes)))

abbrev pub decreases-loop-at : goal.decreases-loop-at
decreases-loop-at l = length l.bytes - l.at
