use Rattle.std.proofs.Common.{◌≡◌, ◌++◌, drop, map}
use Rattle.cyc_core.specs.Trees.{local_tree}
use Rattle.rv32_select.specs.Marks.{scalars}
use Rattle.rv32_select.proofs.marks.scalars.Given as goal

abbrev pub invariant-each : goal.invariant-each
invariant-each l = record { whole : l.marks.items ++ scalars (map local_tree (drop l.local-index l.locals)) ≡ scalars (map local_tree l.locals) }
