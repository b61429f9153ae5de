use Rattle.std.proofs.Common.{◌≡◌, ◌++◌, List, drop, map}
use Rattle.cyc_tree.specs.View.{member_tree}
use Rattle.source_typing.specs.Tables.{Tables}
use Rattle.check_types.specs.Naming.{AreTagNames}
use Rattle.check_heads.specs.Reading.{AreRead}
use Rattle.cyc_tree.specs.Tree as tree
use Rattle.check_heads.proofs.reading.Parameters.add_all.Given as goal

-- those that are read, with the rest, are all of them
abbrev pub invariant-each : goal.invariant-each
invariant-each l = (g : Tables) (ms : List tree.Member) → AreTagNames l.fn.tags g
    → AreRead g l.fn.self.variables l.fn.self.items.items ms
    → (ns : List tree.Member) × AreRead g l.self.variables l.self.items.items ns
    × (ns ++ map member_tree (drop l.member-index l.members) ≡ ms ++ map member_tree l.members)
