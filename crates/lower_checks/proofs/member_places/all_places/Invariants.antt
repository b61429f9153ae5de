use Rattle.source_meaning.specs.Programs.{world_of}
use Rattle.lower_checks.specs.MemberPlaces.{ArePlaces}
use Rattle.lower_checks.proofs.member_places.all_places.Given as goal

abbrev pub invariant-each : goal.invariant-each
invariant-each l = ArePlaces (world_of l.program) l.places
