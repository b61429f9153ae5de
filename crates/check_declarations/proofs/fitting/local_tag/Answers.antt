use Rattle.std.proofs.Common.{List, Option, ap, subst, sym, ℕ, ◌∙◌}
use Rattle.std.specs.Prelude.{option_map}
use Rattle.cyc_tree.specs.View.{name_tree, type_tree}
use Rattle.check_scopes.specs.Means.{Means, meaning_of}
use Rattle.source_typing.proofs.Entries.{find_tagged}
use Rattle.source_typing.specs.Declarations.{tags_in_scope}
use Rattle.source_typing.specs.Scope.{in_scope, meant}
use Rattle.source_typing.specs.Tables.{Entry}
use Rattle.check_types.proofs.Naming.{tag_means, tag_of_none}
use Rattle.check_types.specs.Tagged.{tag_name_of}
use Rattle.check_declarations.proofs.LocalTypes.{tag_meant}
use Rattle.check_declarations.proofs.fitting.local_tag.Goals as goal

pub returns-in-Some : goal.returns-in-Some
returns-in-Some c g known =
    let x = name_tree c.in-Some.name.now in
    let m = option_map meaning_of c.meaning.result in
    let means : Means (meant g x.text) m =
    subst (λ (y : List ℕ). Means (meant g y) m) c.deref.ensures.value (c.meaning.ensures.by_the_rules g known.names) in
    let tagged = ap (λ (e : Option Entry). tag_name_of e) (find_tagged (in_scope g) x.text) in
    tag_means (tags_in_scope g) (type_tree c.args.of.now) c.tag_name.result x (sym c.in-Some.ensures)
    record { is = tagged ∙ tag_meant (meant g x.text) m means ∙ sym c.tag_name.ensures }

pub returns-in-None : goal.returns-in-None
returns-in-None c g known = tag_of_none (tags_in_scope g) (type_tree c.args.of.now) _ (sym c.in-None.ensures)
