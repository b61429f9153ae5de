use Rattle.std.proofs.Common.{◌≡◌, ap, sym, ◌∙◌}
use Rattle.std.proofs.lemmas.Result.{IfOk-at_ok}
use Rattle.cyc_tree.specs.View.{type_tree}
use Rattle.cyc_tree.specs.Tree as tree
use Rattle.source_typing.specs.Globals.{fitting_global}
use Rattle.source_typing.specs.Scope.{at_item}
use Rattle.source_typing.specs.Tags.{settled_alone}
use Rattle.source_typing.specs.Verdicts.{after}
use Rattle.source_typing.specs.Written.{written}
use Rattle.check_faults.specs.Verdicts.{short_of, shortened}
use Rattle.check_types.specs.Written.{partial_type}
use Rattle.check_tables.proofs.GlobalTypes.{global_typed}
use Rattle.check_tables.specs.Globals.{foreign_in, names_none, type_spots}
use Rattle.check_tables.proofs.global_types.global_type.Goals as goal

pub returns : goal.returns
returns c lenient g x known is counted =
    let s = c.args.structs in
    let t = type_tree c.args.of.now in
    let count = c.args.count in
    let names = c.in_ok-names.names in
    let item = at_item lenient g c.args.item in
    let b = c.names_none-is_unnamed.result in
    let same : t ≡ x.of = sym is in
    let tag = c.tag_of_type-tag.ensures g known.names in
    let w = written g names t in
    c.fitting.ensures lenient g (after w (settled_alone t.at)) known
    (c.in_ok-settled.ensures w (IfOk-at_ok (λ o. short_of partial_type o ≡ shortened w) c.in_ok-found.was (c.written_in.ensures g tag)))
    ∙ ap (λ u. shortened (after (after (written g names u) (settled_alone t.at)) (fitting_global item t.at count b))) same
    ∙ ap (λ (u : tree.TypeName). shortened (after (after (written g names x.of) (settled_alone u.at)) (fitting_global item u.at count b))) (sym is)
    ∙ ap (λ v. shortened v)
    (global_typed item x names count b counted (λ y. c.in_ok-names.ensures y ∙ ap (λ (u : tree.TypeName). foreign_in (type_spots u) y) (sym is))
    (c.names_none-is_unnamed.ensures ∙ ap (λ (u : tree.TypeName). names_none (type_spots u)) (sym is)))
