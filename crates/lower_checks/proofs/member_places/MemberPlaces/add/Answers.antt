use Rattle.std.proofs.Common.{Some}
use Rattle.std.proofs.lemmas.Map.Text.{hash_map_updates_str}
use Rattle.lower_checks.proofs.member_places.MemberPlaces.add.Goals as goal

pub returns-in-Ok : goal.returns-in-Ok
returns-in-Ok c = λ other. hash_map_updates_str c.args.tag.now c.args.self.now.by_tag c.insert.new.self (Some c.args.table) c.in-Ok.ensures.updates other
