use Rattle.std.specs.Prelude.{map}
use Rattle.std.proofs.Common.{drop}
use Rattle.check_operators.specs.Values.{value_of}
use Rattle.check_calls.specs.Fitted.{parameter_types}
use Rattle.check_calls.specs.Nulls.{AreNulls}
use Rattle.check_calls.proofs.nulls.are_nulls.Given as goal

-- all are, if those from here on are
abbrev pub invariant-each : goal.invariant-each
invariant-each l = AreNulls (parameter_types (drop l.index l.parameters)) (map value_of (drop l.index l.arguments))
    → AreNulls (parameter_types l.parameters) (map value_of l.arguments)
