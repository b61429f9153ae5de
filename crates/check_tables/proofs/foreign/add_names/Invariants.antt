use Rattle.std.proofs.Common.{◌≡◌, ◌++◌, ℕ, List, drop, map}
use Rattle.cyc_tree.specs.View.{region_tree}
use Rattle.source_typing.specs.Written.{Spot, find_region}
use Rattle.check_types.specs.Arguments.{named_spots}
use Rattle.check_tables.specs.Globals.{foreign_in, or_region}
use Rattle.check_tables.proofs.foreign.add_names.Given as goal

-- the names so far, and those that are left
abbrev pub invariant-each : goal.invariant-each
invariant-each l =
    (ss : List Spot) (x : List ℕ)
    → or_region (find_region l.names x) (foreign_in (named_spots (map region_tree (drop l.argument-index l.arguments)) ++ ss) x)
    ≡ or_region (find_region l.fn.names x) (foreign_in (named_spots (map region_tree l.arguments) ++ ss) x)
