use Rattle.std.proofs.Common.{◌≡◌, ◌++◌, drop, map}
use Rattle.cyc_core.specs.Trees.{datum_tree}
use Rattle.source_meaning.specs.Programs.{world_of}
use Rattle.source_lowering.specs.Programs.{string_datum}
use Rattle.tree_walk.specs.Listing.{literal_of}
use Rattle.lower_checks.proofs.text.lower_strings.Given as goal

-- those so far and the rest are all
abbrev pub invariant-each : goal.invariant-each
invariant-each l =
    map datum_tree l.data.items ++ map (string_datum (world_of l.program)) (map literal_of (drop l.literal-index l.strings)) ≡
    map datum_tree l.initial.data.items ++ map (string_datum (world_of l.program)) (map literal_of l.strings)
