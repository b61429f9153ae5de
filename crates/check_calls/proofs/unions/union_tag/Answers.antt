use Rattle.std.proofs.Common.{ap, refl, ◌∙◌}
use Rattle.cyc_tree.specs.View.{name_tree}
use Rattle.cyc_types.specs.Tables.{tables_of}
use Rattle.source_typing.specs.Scope.{meant}
use Rattle.source_typing.specs.Tables.{tag_in}
use Rattle.check_faults.specs.Verdicts.{shortened}
use Rattle.check_calls.specs.Unions.{union_in}
use Rattle.check_calls.proofs.TagsNamed.{union_found}
use Rattle.check_calls.proofs.unions.union_tag.Goals as goal

pub returns : goal.returns
returns c g has is =
    let x = name_tree c.args.name.now in
    let f = name_tree c.args.field.now in
    c.union_by.ensures x f (meant g x.text) refl is
    (λ n m. c.union_named-made.ensures ∙ ap (λ y. shortened (union_in f (tag_in (tables_of c.args.tables.now) y))) c.as_slice.ensures.value
    ∙ union_found c.args.tables.now g has x.text x f (meant g x.text) _ n is refl m)
