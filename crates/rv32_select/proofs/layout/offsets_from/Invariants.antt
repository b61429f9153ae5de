use Rattle.std.proofs.Common.{◌≡◌, ◌++◌, drop, map}
use Rattle.cyc_core.specs.Trees.{local_tree}
use Rattle.core_lines.specs.Selected.{offsets_from, shrunk}
use Rattle.rv32_select.proofs.layout.offsets_from.Given as goal

abbrev pub invariant-each : goal.invariant-each
invariant-each l = record {
  whole : l.offsets.items ++ offsets_from l.at (shrunk (map local_tree (drop l.index l.locals)) (drop l.index l.homes)) ≡
      offsets_from l.low (shrunk (map local_tree l.locals) l.homes);
}
