use Rattle.std.proofs.Common.{◌≡◌, ◌-◌, ◌++◌, map, length, take, reverse}
use Rattle.cyc_tree.specs.View.{pointer_tree}
use Rattle.lower_checks.specs.Given.{given_by, given_inwards}
use Rattle.lower_checks.specs.Views.{shape_tree}
use Rattle.lower_checks.proofs.given.given_by.Given as goal

-- those so far, and those of the pointers that are left
abbrev pub invariant-each : goal.invariant-each
invariant-each l =
    let others = map pointer_tree (take (length l.pointers - l.around) l.pointers) in
    l.alone.items ++ given_inwards (reverse others) (shape_tree l.left) ≡ given_by (map pointer_tree l.pointers) (shape_tree l.fn.by)
