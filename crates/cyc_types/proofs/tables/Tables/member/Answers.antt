use Rattle.std.proofs.Common.{ap, sym, ◌∙◌}
use Rattle.source_typing.specs.Tables.{part_in}
use Rattle.cyc_types.proofs.InOrder.{no_parts, parts_known}
use Rattle.cyc_types.proofs.tables.Tables.member.Goals as goal

pub returns-in-Some : goal.returns-in-Some
returns-in-Some c =
    let es = c.args.self.now.tags.entries in
    c.member.ensures
    ∙ sym (ap (λ ps. part_in ps c.args.name.now) (parts_known es c.args.tag.now c.in-Some.known.now (sym c.in-Some.ensures)))

pub returns-in-None : goal.returns-in-None
returns-in-None c =
    let es = c.args.self.now.tags.entries in
    sym (ap (λ ps. part_in ps c.args.name.now) (no_parts es c.args.tag.now (sym c.in-None.ensures)))
