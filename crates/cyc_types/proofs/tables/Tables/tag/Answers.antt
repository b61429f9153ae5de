use Rattle.std.proofs.Common.{ap, sym, ◌∙◌}
use Rattle.std.specs.Prelude.{option_map}
use Rattle.cyc_types.specs.Tags.{tag_of}
use Rattle.cyc_types.proofs.InOrder.{tag_found}
use Rattle.cyc_types.proofs.tables.Tables.tag.Goals as goal

pub returns-in-Some : goal.returns-in-Some
returns-in-Some c =
    let name = c.args.name.now in
    sym (tag_found c.args.self.now.tags.entries name ∙ ap (option_map (λ k. tag_of name k.tag)) (sym c.in-Some.ensures.value))

pub returns-in-None : goal.returns-in-None
returns-in-None c =
    let name = c.args.name.now in
    sym (tag_found c.args.self.now.tags.entries name ∙ ap (option_map (λ k. tag_of name k.tag)) (sym c.in-None.ensures.value))
