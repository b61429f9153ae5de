use Rattle.std.proofs.Common.{◌≡◌, drop, map}
use Rattle.cyc_lexer.specs.Reading.{find_sign}
use Rattle.cyc_lexer.proofs.signs.find_sign.Given as goal

abbrev pub invariant-loop-sign : goal.invariant-loop-sign
invariant-loop-sign l =
    find_sign (map (λ e. (e.0, e.1.now)) (drop l.sign-index l.signs)) l.bytes ≡ find_sign (map (λ e. (e.0, e.1.now)) l.signs) l.bytes
