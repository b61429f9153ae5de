use Rattle.std.proofs.Common.{◌≡◌, ℕ, drop, map}
use Rattle.std.specs.Prelude.{◌&&◌}
use Rattle.cyc_tree.specs.View.{member_tree}
use Rattle.source_typing.specs.Faults.{is_clean}
use Rattle.source_typing.specs.Tables.{Tables}
use Rattle.source_typing.specs.Tags.{head_faults}
use Rattle.check_structs.specs.FirstKnown.{AreHeads}
use Rattle.check_structs.specs.Members.{scoped}
use Rattle.check_structs.proofs.heads.are_heads_clean.Given as goal

-- those so far and the rest are all of them
abbrev pub invariant-each : goal.invariant-each
invariant-each l = (g : Tables) (i : ℕ) → AreHeads l.tags.own.now l.tags.regions l.tags.others.now g
    → (l.clean && is_clean (head_faults (scoped g i l.names) l.is_union (map member_tree (drop l.member-index l.members))))
    ≡ is_clean (head_faults (scoped g i l.names) l.is_union (map member_tree l.members))
