use Rattle.std.proofs.Common.{◌≡◌, ◌+◌, ◌++◌, drop, map}
use Rattle.cyc_core.specs.Trees.{function_tree}
use Rattle.core_lines.specs.Choosing.{far}
use Rattle.core_lines.specs.Selected.{functions_code}
use Rattle.rv32_select.proofs.function.put_functions.Given as goal

abbrev pub invariant-each : goal.invariant-each
invariant-each l = record {
  whole : l.lines.items ++ functions_code far l.initial.place.statics.items l.refused l.number l.next (map function_tree (drop l.function-index l.functions)) ≡
      l.initial.lines.items ++ functions_code far l.initial.place.statics.items l.refused 0 (l.refused + 1) (map function_tree l.functions);
  same : l.place.statics.items ≡ l.initial.place.statics.items;
}
