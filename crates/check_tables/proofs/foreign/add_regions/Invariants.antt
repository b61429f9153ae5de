use Rattle.std.proofs.Common.{◌≡◌, ℕ, List, drop, map}
use Rattle.cyc_tree.specs.View.{pointer_tree}
use Rattle.source_typing.specs.Written.{find_region}
use Rattle.check_tables.specs.Globals.{foreign_in, or_region, spots_in}
use Rattle.check_tables.proofs.foreign.add_regions.Given as goal

-- the names so far, and those of the pointers that are left
abbrev pub invariant-each : goal.invariant-each
invariant-each l =
    (x : List ℕ) → or_region (find_region l.names x) (foreign_in (spots_in (map pointer_tree (drop l.pointer-index l.pointers))) x)
    ≡ or_region (find_region l.fn.names x) (foreign_in (spots_in (map pointer_tree l.pointers)) x)
