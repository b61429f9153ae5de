use Rattle.std.proofs.Common.{◌≡◌, ◌+◌, take}
use Rattle.cyc_lexer.specs.Places.{capped, line_ends, since_line_end}
use Rattle.cyc_lexer.proofs.place.place_of.Given as goal

abbrev pub invariant-loop-byte : goal.invariant-loop-byte
invariant-loop-byte l =
    (l.line ≡ capped (1 + line_ends (take l.byte-index l.byte-items))) × (l.column ≡ capped (1 + since_line_end 0 (take l.byte-index l.byte-items)))
