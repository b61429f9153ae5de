use Rattle.std.proofs.Common.{◌≡◌, drop, map}
use Rattle.cyc_lexer.specs.Reading.{find_keyword}
use Rattle.cyc_lexer.proofs.words.find_keyword.Given as goal

abbrev pub invariant-loop-keyword : goal.invariant-loop-keyword
invariant-loop-keyword l =
    find_keyword (map (λ e. (e.0, e.1.now)) (drop l.keyword-index l.keywords)) l.word ≡ find_keyword (map (λ e. (e.0, e.1.now)) l.keywords) l.word
