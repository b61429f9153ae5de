use Rattle.std.proofs.Common.{◌≡◌, true, drop, map}
use Rattle.cyc_core.specs.Trees.{temporary_tree}
use Rattle.core_lines.specs.Loaded.{unknown_in}
use Rattle.core_lines.specs.Saved.{all_flagged}
use Rattle.rv32_select.proofs.loads.flag_arguments.Given as goal

abbrev pub invariant-each : goal.invariant-each
invariant-each l = record {
  whole : all_flagged true (unknown_in l.held (map temporary_tree (drop l.argument-index l.arguments))) l.flags ≡
      all_flagged true (unknown_in l.held (map temporary_tree l.arguments)) l.initial.flags;
}
