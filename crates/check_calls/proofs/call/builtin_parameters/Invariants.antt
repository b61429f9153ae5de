use Rattle.std.proofs.Common.{◌≡◌}
use Rattle.source_typing.specs.Calls.{builtin_parameters}
use Rattle.check_calls.specs.Fitted.{parameter_types}
use Rattle.check_calls.proofs.call.builtin_parameters.Given as goal

-- so many so far
abbrev pub invariant-each : goal.invariant-each
invariant-each l = parameter_types l.types.items ≡ builtin_parameters l._parameter
