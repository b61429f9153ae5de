use Rattle.std.proofs.Common.{◌≡◌, ◌++◌, drop, map}
use Rattle.cyc_core.specs.Trees.{temporary_tree}
use Rattle.core_lines.specs.Operands.{pass_code}
use Rattle.rv32_select.proofs.calls.put_arguments.Given as goal

abbrev pub invariant-each : goal.invariant-each
invariant-each l = record {
  whole : l.lines.items ++ pass_code l.place.passed l.place.held l.passed (map temporary_tree (drop l.argument-index l.arguments)) ≡
      l.initial.lines.items ++ pass_code l.place.passed l.place.held 0 (map temporary_tree l.arguments);
}
