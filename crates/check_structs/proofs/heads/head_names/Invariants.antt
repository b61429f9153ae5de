use Rattle.std.proofs.Common.{drop}
use Rattle.cyc_tree.specs.View.{program_tree}
use Rattle.source_typing.specs.Programs.{first_from}
use Rattle.check_structs.specs.FirstKnown.{AreNames, AreSince, bare_tags, first_tags}
use Rattle.check_structs.proofs.heads.head_names.Given as goal

-- the names of the items so far, and those of the rest, are all
abbrev pub invariant-each : goal.invariant-each
invariant-each l =
    let all = program_tree l.items in
    AreNames l.bare (bare_tags all)
    → AreSince l.names (first_from (bare_tags all) l.item-index (program_tree (drop l.item-index l.items))) (first_tags all)
