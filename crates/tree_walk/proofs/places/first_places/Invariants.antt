use Rattle.std.proofs.Common.{◌≡◌, ℕ, drop, map}
use Rattle.source_meaning.specs.Places.{or_else}
use Rattle.tree_walk.specs.Listing.{literal_of}
use Rattle.tree_walk.specs.Numbered.{first_at, in_places}
use Rattle.tree_walk.proofs.places.first_places.Given as goal

-- what the table has, or else the first of the rest, is the first of all
abbrev pub invariant-each : goal.invariant-each
invariant-each l = (at : ℕ) →
    or_else (in_places l.places at) (first_at (map literal_of (drop l.number l.all)) l.number at) ≡ first_at (map literal_of l.all) 0 at
