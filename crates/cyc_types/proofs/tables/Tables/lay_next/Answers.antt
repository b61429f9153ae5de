use Rattle.std.proofs.Common.{ap, refl}
use Rattle.std.proofs.lemmas.Result.{on_ok_weaker}
use Rattle.cyc_types.specs.Measures.{extent_of}
use Rattle.cyc_types.specs.Tags.{member_of, members_of}
use Rattle.cyc_types.specs.declared.laying.Waiting.{Waiting}
use Rattle.cyc_types.proofs.Laid.{goes_on, member_ends}
use Rattle.cyc_types.proofs.tables.Tables.lay_next.Goals as goal

pub lay_member-requires : goal.lay_member-requires
lay_member-requires c =
    member_ends c.args.self.now.tags.entries c.args.next c.requires (member_of c.in-Some.member.now) (members_of c.in-Some.others.now)
    (ap members_of c.in-Some.ensures.cases.0) (extent_of c.in-Some-member_extent.extent) c.start_of-start.result c.in-Some-member_extent.ensures
    c.start_of-start.ensures.start

pub returns : goal.returns
returns c =
    let es = c.args.self.now.tags.entries in
    let from = c.args.laying.now in
    let v : Waiting = record { at = c.args.next.at; so_far = c.in-Some-then.so_far; members = c.in-Some.others } in
    on_ok_weaker c.lay_member.result
    (goes_on es c.args.next c.requires (member_of c.in-Some.member.now) (members_of c.in-Some.others.now) (ap members_of c.in-Some.ensures.cases.0)
    (extent_of c.in-Some-member_extent.extent) (extent_of c.in-Some-then.so_far) c.start_of-start.result v from
    (record { cells = from.cells; waiting = c.push.new.self }) c.lay_member.new.laying c.in-Some-member_extent.ensures c.in-Some-then.ensures
    c.start_of-start.ensures.start refl refl refl refl c.in_ok-push.ensures.items)
    c.lay_member.ensures
