use Rattle.std.proofs.Common.{drop}
use Rattle.cyc_tree.specs.View.{program_tree}
use Rattle.source_typing.specs.Programs.{bare_from}
use Rattle.check_structs.specs.FirstKnown.{AreSince, bare_tags}
use Rattle.check_structs.proofs.heads.bare_names.Given as goal

-- the names of the items so far, and those of the rest, are all
abbrev pub invariant-each : goal.invariant-each
invariant-each l =
    AreSince l.names (bare_from l.item-index (program_tree (drop l.item-index l.items)))
    (bare_tags (program_tree l.items))
