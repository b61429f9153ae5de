use Rattle.std.proofs.Common.{◌≡◌, ◌-◌, []}
use Rattle.cyc_core.specs.Trees.{body_tree}
use Rattle.core_lines.specs.Held.{with_taken}
use Rattle.core_lines.specs.Parameters.{parameter_register}
use Rattle.rv32_select.proofs.held.Known.hold_taken.Given as goal

abbrev pub invariant-each : goal.invariant-each
invariant-each l = record {
  known : with_taken (parameter_register l.homes (body_tree l.body)) l.parameter (l.parameters - l.parameter) l.self ≡
      with_taken (parameter_register l.homes (body_tree l.body)) 0 l.parameters [];
}
