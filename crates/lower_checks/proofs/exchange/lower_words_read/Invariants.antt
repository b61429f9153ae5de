use Rattle.std.proofs.Common.{◌+◌, ◌-◌}
use Rattle.source_lowering.specs.Programs.{words_read}
use Rattle.lower_checks.specs.Writing.{IsEmitting, IsSound}
use Rattle.lower_checks.proofs.exchange.lower_words_read.Given as goal

-- the words that are left are read from here on
abbrev pub invariant-each : goal.invariant-each
invariant-each l =
    IsSound l.body →
    IsEmitting l.initial.body l.body (words_read l.words 0 l.to.0 l.pointer.0) (words_read (l.words - l.word) l.word (l.to.0 + l.word) l.pointer.0)
