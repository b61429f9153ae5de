use Rattle.std.proofs.Common.{◌≡◌, ◌-◌, ◌++◌}
use Rattle.cyc_core.specs.Trees.{function_tree}
use Rattle.core_lines.specs.Operands.{take_code}
use Rattle.core_lines.specs.Parameters.{parameter_register}
use Rattle.rv32_select.proofs.function.put_parameters.Given as goal

abbrev pub invariant-each : goal.invariant-each
invariant-each l = record {
  whole : l.lines.items ++ take_code l.bytes l.place.passed l.live (parameter_register l.place.homes.items (function_tree l.function).body) l.parameter
      (l.function.parameters - l.parameter) ≡
      l.initial.lines.items ++ take_code l.bytes l.place.passed l.live (parameter_register l.place.homes.items (function_tree l.function).body) 0
      l.function.parameters;
}
