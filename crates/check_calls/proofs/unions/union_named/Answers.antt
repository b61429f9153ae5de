use Rattle.std.proofs.Common.{ap, sym, ◌∙◌}
use Rattle.cyc_tree.specs.View.{name_tree}
use Rattle.cyc_types.specs.Tables.{tables_of}
use Rattle.cyc_types.specs.Tags.{tag_of}
use Rattle.source_typing.specs.Calls.{union_member}
use Rattle.source_typing.specs.Tables.{part_in, parts_in, parts_of_tag}
use Rattle.check_faults.specs.Verdicts.{shortened}
use Rattle.check_calls.specs.Unions.{union_in}
use Rattle.check_calls.proofs.unions.union_named.Goals as goal

pub returns-in-Some : goal.returns-in-Some
returns-in-Some c =
    let f = name_tree c.args.field.now in
    let g = tables_of c.args.tables.now in
    let t = tag_of c.in-Some.declared.now c.in-Some.tag.now in
    c.member_in.ensures
    ∙ ap (λ p. shortened (union_member f t p))
    (c.member-found.ensures ∙ ap (part_in (parts_in g c.args.name.now)) c.as_slice.ensures.value
    ∙ ap (λ o. part_in (parts_of_tag o) f.text) (sym c.in-Some.ensures))
    ∙ ap (λ o. shortened (union_in f o)) c.in-Some.ensures
