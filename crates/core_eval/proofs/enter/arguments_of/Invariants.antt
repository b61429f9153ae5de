use Rattle.std.proofs.Common.{◌≡◌, ◌++◌, drop, map}
use Rattle.core_meaning.specs.Meaning.{values_of}
use Rattle.cyc_core.specs.Trees.{temporary_tree}
use Rattle.core_eval.specs.Values.{content_of, temp_of}
use Rattle.core_eval.proofs.enter.arguments_of.Given as goal

abbrev pub invariant-each : goal.invariant-each
invariant-each l = record {
  whole : map content_of l.values.items ++ values_of (temp_of l.frame.temps.items) (map temporary_tree (drop l.argument-index l.arguments)) ≡
      values_of (temp_of l.frame.temps.items) (map temporary_tree l.arguments);
}
