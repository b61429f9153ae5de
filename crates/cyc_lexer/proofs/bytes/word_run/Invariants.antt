use Rattle.std.proofs.Common.{◌≡◌, ◌+◌, drop}
use Rattle.cyc_lexer.specs.Bytes.{is_word_byte}
use Rattle.cyc_lexer.specs.Reading.{run}
use Rattle.cyc_lexer.proofs.bytes.word_run.Given as goal

abbrev pub invariant-loop-i : goal.invariant-loop-i
invariant-loop-i l = l.i + run is_word_byte (drop l.i l.bytes) ≡ run is_word_byte l.bytes
