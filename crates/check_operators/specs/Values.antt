-- View of code: what an expression is in code, as the rules say it.
use Rattle.cyc_types.specs.Regions.{region_of}
use Rattle.cyc_types.specs.Types.{static_type}
use Rattle.check_operators.specs.declared.value.Seat.{Seat}
use Rattle.check_operators.specs.declared.value.Seat.TheVariants as code
use Rattle.check_operators.specs.declared.value.Value.{Value}
use Rattle.source_typing.specs.Scope as rules

abbrev pub seat_of : Seat → rules.Seat
seat_of code.Nowhere = rules.Nowhere
seat_of (code.In r) = rules.In (region_of r)
seat_of code.InBlock = rules.InBlock

abbrev pub value_of : Value → rules.Value
value_of v = record { at = v.at; type = static_type v.of; seat = seat_of v.seat }
