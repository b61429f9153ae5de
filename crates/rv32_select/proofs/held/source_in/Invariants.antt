use Rattle.std.proofs.Common.{◌≡◌, drop, map}
use Rattle.core_lines.specs.Held.{source_of}
use Rattle.rv32_select.specs.Known.{holding_tree}
use Rattle.rv32_select.proofs.held.source_in.Given as goal

abbrev pub invariant-each : goal.invariant-each
invariant-each l = record {
  found : source_of (map holding_tree (drop l.holding-index l.holdings)) l.temporary.0 ≡ source_of (map holding_tree l.holdings) l.temporary.0;
}
