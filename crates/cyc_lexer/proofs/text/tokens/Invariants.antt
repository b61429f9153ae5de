use Rattle.std.proofs.Common.{◌≤◌, ◌-◌, length, map, drop}
use Rattle.cyc_lexer.specs.Lexing.{Lexing}
use Rattle.cyc_lexer.specs.Tokens.{token_tree}
use Rattle.cyc_lexer.proofs.text.tokens.Given as goal

-- what stands before the place is in order
abbrev pub invariant-loop-at : goal.invariant-loop-at
invariant-loop-at l = (l.at ≤ length l.text) × Lexing 0 l.text (map token_tree l.found.items) l.at (drop l.at l.text)

abbrev pub decreases-loop-at : goal.decreases-loop-at
decreases-loop-at l = length l.text - l.at
