use Rattle.std.proofs.Common.{◌≡◌, ◌+◌, drop, length, map}
use Rattle.cyc_core.specs.Counts.{all_calls, all_raises}
use Rattle.cyc_core.specs.Trees.{function_tree}
use Rattle.cyc_core.proofs.origins.Origins.add_functions.Given as goal

abbrev pub invariant-each : goal.invariant-each
invariant-each l = record {
  raises : length l.self.raises.items + all_raises (map function_tree (drop l.function-index l.functions)) ≡
      length l.initial.self.raises.items + all_raises (map function_tree l.functions);
  calls : length l.self.calls.items + all_calls (map function_tree (drop l.function-index l.functions)) ≡
      length l.initial.self.calls.items + all_calls (map function_tree l.functions);
}
