use Rattle.std.proofs.Common.{◌+◌, ◌-◌}
use Rattle.source_lowering.specs.Programs.{words_written}
use Rattle.lower_checks.specs.Writing.{IsEmitting, IsSound}
use Rattle.lower_checks.proofs.exchange.lower_words_written.Given as goal

-- the words that are left are written from here on
abbrev pub invariant-each : goal.invariant-each
invariant-each l =
    IsSound l.body →
    IsEmitting l.initial.body l.body (words_written l.words 0 l.pointer.0 l.from.0) (words_written (l.words - l.word) l.word l.pointer.0 (l.from.0 + l.word))
