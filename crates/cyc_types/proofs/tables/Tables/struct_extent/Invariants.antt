use Rattle.std.proofs.Common.{◌≡◌, drop}
use Rattle.std.specs.Prelude.{Some}
use Rattle.cyc_types.specs.Measures.{extent_of, quick_laid, quick_measure, struct_measure}
use Rattle.cyc_types.specs.Tags.{members_of}
use Rattle.cyc_types.proofs.tables.Tables.struct_extent.Given as goal

-- with the rest the bytes are those of all
abbrev pub invariant-each : goal.invariant-each
invariant-each l =
    quick_laid (quick_measure l.self.tags.entries) (Some (extent_of l.so_far)) (members_of (drop l.member-index l.members))
    ≡ struct_measure l.self.tags.entries (members_of l.members)
