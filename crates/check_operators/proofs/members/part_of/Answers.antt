use Rattle.std.proofs.Common.{Bor, Option, ap, ◌∙◌}
use Rattle.std.specs.Prelude.{option_map}
use Rattle.cyc_tree.specs.View.{name_tree}
use Rattle.cyc_types.specs.Regions.{regions_of}
use Rattle.cyc_types.specs.Tables.{tables_of}
use Rattle.cyc_types.specs.Tags.{member_of}
use Rattle.cyc_types.specs.declared.tag.Member.{Member}
use Rattle.source_typing.specs.Places.{part_found}
use Rattle.source_typing.specs.Tables.{part_in, parts_in}
use Rattle.check_faults.specs.Verdicts.{shortened}
use Rattle.check_operators.specs.Values.{seat_of}
use Rattle.check_operators.proofs.MembersFound.{part_by}
use Rattle.check_operators.proofs.members.part_of.Goals as goal

pub returns-in_ok-part-in-Some : goal.returns-in_ok-part-in-Some
returns-in_ok-part-in-Some c = λ g has.
    let f = name_tree c.args.field.now in
    let s = seat_of c.args.seat in
    let tag = c.args.tag.now in
    let rs = regions_of c.args.regions.now in
    let ps = parts_in (tables_of c.args.tables.now) tag in
    c.in_ok-part-in-Some.ensures
    ∙ ap (λ o. shortened (part_found c.args.at s rs f.at o)) (c.in-Some.ensures ∙ ap (part_in ps) c.deref.ensures.value)
    ∙ ap shortened (part_by c.args.tables.now g has c.args.at s tag rs f)

pub returns-in-None : goal.returns-in-None
returns-in-None c = λ g has.
    let f = name_tree c.args.field.now in
    let s = seat_of c.args.seat in
    let tag = c.args.tag.now in
    let rs = regions_of c.args.regions.now in
    let ps = parts_in (tables_of c.args.tables.now) tag in
    c.refused.ensures
    ∙ ap (λ o. shortened (part_found c.args.at s rs f.at o)) (c.in-None.ensures ∙ ap (part_in ps) c.deref.ensures.value)
    ∙ ap shortened (part_by c.args.tables.now g has c.args.at s tag rs f)
