use Rattle.std.proofs.Common.{◌≡◌, ◌≤◌, drop}
use Rattle.cyc_lexer.specs.Reading.{digits_value}
use Rattle.cyc_lexer.proofs.number.digits_value.Given as goal

abbrev pub invariant-loop-digit : goal.invariant-loop-digit
invariant-loop-digit l = (l.value ≤ 4294967295) × (digits_value l.base l.value (drop l.digit-index l.digits) ≡ digits_value l.base 0 l.digits)
