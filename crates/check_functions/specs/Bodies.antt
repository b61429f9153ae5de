-- View of code: the fault of a function, by those of its parts.
use Rattle.std.specs.Prelude.{None, Option, Some}
use Rattle.source_typing.specs.Faults as rules

-- the fault of a phrase's parts, or else its own
abbrev pub own_found : Option rules.Fault → Option rules.Fault → Option rules.Fault
own_found own None = own
own_found own (Some f) = Some f
