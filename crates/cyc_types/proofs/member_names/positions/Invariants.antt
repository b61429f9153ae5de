use Rattle.std.proofs.Common.{◌≡◌, List, drop, ℕ}
use Rattle.source_meaning.specs.Places.{or_else}
use Rattle.cyc_types.specs.MemberNames.{position_from, position_named}
use Rattle.cyc_types.proofs.member_names.positions.Given as goal

-- what the table has, or else the first of the rest, is the first of all
abbrev pub invariant-each : goal.invariant-each
invariant-each l = record {
  counted : l.position ≡ l.member-index;
  first : (x : List ℕ) → or_else (position_named l.names x) (position_from (drop l.member-index l.members) l.position x) ≡ position_from l.members 0 x;
}
