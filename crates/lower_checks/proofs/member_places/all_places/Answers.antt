use Rattle.source_meaning.specs.Programs.{world_of}
use Rattle.lower_checks.proofs.MemberPlaces.{none_placed}
use Rattle.lower_checks.proofs.member_places.all_places.Goals as goal

pub each-init : goal.each-init
each-init c = none_placed (world_of c.args.program.now) c.new-places.result c.new-places.ensures
