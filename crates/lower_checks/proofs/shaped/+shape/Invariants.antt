use Rattle.std.proofs.Common.{◌≡◌, map, drop}
use Rattle.cyc_tree.specs.View.{link_tree, links_of}
use Rattle.source_lowering.specs.Lowered.{linked_shape}
use Rattle.lower_checks.specs.Scoped.{names_in, world_in}
use Rattle.lower_checks.specs.Views.{shape_tree}
use Rattle.lower_checks.proofs.shaped.+shape.Given as goal

-- what the rest gives from here is what all give
abbrev pub invariant-linked_shape-each : goal.invariant-linked_shape-each
invariant-linked_shape-each l =
    linked_shape (world_in l.scope) (names_in l.scope) (links_of (map link_tree (drop l.link-index l.links))) (shape_tree l.left) ≡
    linked_shape (world_in l.scope) (names_in l.scope) (links_of (map link_tree l.links)) (shape_tree l.fn.first)
