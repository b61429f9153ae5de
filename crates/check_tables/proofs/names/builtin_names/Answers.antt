use Rattle.std.specs.Prelude.{codes, ◌∷◌}
use Rattle.std.proofs.Common.{refl, subst, sym}
use Rattle.source_typing.specs.Programs.{builtins}
use Rattle.source_typing.specs.Tables.{OfBuiltin, find}
use Rattle.check_scopes.specs.Means as means
use Rattle.check_scopes.specs.declared.meaning.Meaning.TheVariants.{Builtin}
use Rattle.check_tables.specs.Names.{Since}
use Rattle.check_tables.proofs.ItemNames.{since_added}
use Rattle.check_tables.proofs.names.builtin_names.Goals as goal

pub returns : goal.returns
returns c = λ others x.
    let all = find (builtins others) x in
    let last = record { name = codes "putchar"; entry = OfBuiltin 1 } ∷ others in
    since_added c.add.new.self c.add-2.new.self c.as_slice-2.result.now (codes "putchar") (OfBuiltin 1) (Builtin 1) c.in_ok-add-2.field-0 all others x
    c.as_slice-2.ensures c.in_ok-add-2.ensures.is_new c.in_ok-add-2.ensures.names (λ same first. means.Builtin 1)
    (since_added c.new-names.result c.add.new.self c.as_slice.result.now (codes "getchar") (OfBuiltin 0) (Builtin 0) c.in_ok-add.field-0 all last x
    c.as_slice.ensures c.in_ok-add.ensures.is_new c.in_ok-add.ensures.names (λ same first. means.Builtin 0)
    (subst (λ o. Since all o all) (sym (c.new-names.ensures x)) refl))
