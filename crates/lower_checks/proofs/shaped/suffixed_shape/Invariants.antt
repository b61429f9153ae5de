use Rattle.std.proofs.Common.{◌≡◌, map, drop}
use Rattle.cyc_tree.specs.View.{suffix_tree, suffixes_of}
use Rattle.source_meaning.specs.Programs.{world_of}
use Rattle.source_lowering.specs.Lowered.{suffixed_shape}
use Rattle.lower_checks.specs.Views.{shape_tree}
use Rattle.lower_checks.proofs.shaped.suffixed_shape.Given as goal

-- what the rest leads to from here is what all lead to
abbrev pub invariant-each : goal.invariant-each
invariant-each l =
    suffixed_shape (world_of l.program) (suffixes_of (map suffix_tree (drop l.suffix-index l.suffixes))) (shape_tree l.left) ≡
    suffixed_shape (world_of l.program) (suffixes_of (map suffix_tree l.suffixes)) (shape_tree l.fn.first)
