use Rattle.std.proofs.Common.{◌≡◌, ◌++◌, map, drop}
use Rattle.cyc_tree.specs.View.{member_tree}
use Rattle.source_meaning.specs.Shapes.{part_of, part_shapes}
use Rattle.lower_checks.specs.Views.{shape_tree}
use Rattle.lower_checks.proofs.call.part_shapes.Given as goal

abbrev pub invariant-each : goal.invariant-each
invariant-each l =
    map shape_tree l.shapes.items ++ part_shapes (map part_of (map member_tree (drop l.parameter-index l.parameters))) ≡
    part_shapes (map part_of (map member_tree l.parameters))
