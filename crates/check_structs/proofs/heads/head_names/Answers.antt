use Rattle.std.proofs.Common.{arith, ◌+◌, ◌∷◌, ◌∙◌, ap, drop, subst, suc, sym, ◌≡◌}
use Rattle.std.proofs.lemmas.List.{drop_all, drop_more}
use Rattle.cyc_tree.specs.View.{program_item_tree, program_tree}
use Rattle.source_typing.specs.Programs.{first_entry, first_from, name_of}
use Rattle.check_structs.specs.FirstKnown.{AreSince, bare_tags, first_tags}
use Rattle.check_structs.proofs.FirstKnown.{all_names, since_next}
use Rattle.check_structs.proofs.heads.head_names.Goals as goal

pub each-preserved : goal.each-preserved
each-preserved c bare =
    let items = c.args.items.now in
    let all = program_tree items in
    let at = c.each.item-index in
    let item = program_item_tree c.item-item.result in
    let one : suc at ≡ at + 1 = omega arith in
    subst (λ n. AreSince c.add.new.self (first_from (bare_tags all) n (program_tree (drop (at + 1) items))) (first_tags all)) one
    (since_next (first_tags all) (first_from (bare_tags all) (suc at) (program_tree (drop (at + 1) items))) (name_of item).text
    c.deref.result.now (first_entry (bare_tags all) at item) c.in_ok-name.name c.each.names c.add.new.self c.in_ok-add.field-0
    (c.deref.ensures.value ∙ ap (λ n. n.text) c.item_name.ensures) (c.in_ok-name.ensures (bare_tags all) at bare)
    c.in_ok-add.ensures.is_new c.in_ok-add.ensures.names c.in_ok-add.ensures.known
    (subst (λ r. AreSince c.each.names (first_from (bare_tags all) at (program_tree r)) (first_tags all))
    (drop_more items at c.item-item.result c.each-test.true ∙ ap (λ y. y ∷ drop (at + 1) items) (sym c.item-item.is)) (c.each.invariant bare)))

pub returns : goal.returns
returns c bare =
    let items = c.args.items.now in
    let all = program_tree items in
    all_names (first_tags all) c.each.names
    (subst (λ r. AreSince c.each.names (first_from (bare_tags all) c.each.item-index (program_tree r)) (first_tags all))
    (drop_all c.each.item-index items (omega (arith, c.each-test.false))) (c.each.invariant bare))
