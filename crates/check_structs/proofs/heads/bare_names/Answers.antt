use Rattle.std.proofs.Common.{arith, ◌+◌, ◌∷◌, ◌∙◌, ap, drop, subst, suc, sym, ◌≡◌}
use Rattle.std.proofs.lemmas.List.{drop_all, drop_more}
use Rattle.cyc_tree.specs.View.{program_item_tree, program_tree}
use Rattle.source_typing.specs.Programs.{bare_entry, bare_from, name_of}
use Rattle.check_structs.specs.FirstKnown.{AreSince, bare_tags}
use Rattle.check_structs.proofs.FirstKnown.{all_names, since_next}
use Rattle.check_structs.proofs.heads.bare_names.Goals as goal

pub each-preserved : goal.each-preserved
each-preserved c =
    let items = c.args.items.now in
    let all = program_tree items in
    let at = c.each.item-index in
    let item = program_item_tree c.item-item.result in
    let one : suc at ≡ at + 1 = omega arith in
    subst (λ n. AreSince c.add.new.self (bare_from n (program_tree (drop (at + 1) items))) (bare_tags all)) one
    (since_next (bare_tags all) (bare_from (suc at) (program_tree (drop (at + 1) items))) (name_of item).text
    c.deref.result.now (bare_entry at item) c.in_ok-name.name c.each.names c.add.new.self c.in_ok-add.field-0
    (c.deref.ensures.value ∙ ap (λ n. n.text) c.item_name.ensures) (c.in_ok-name.ensures at)
    c.in_ok-add.ensures.is_new c.in_ok-add.ensures.names c.in_ok-add.ensures.known
    (subst (λ r. AreSince c.each.names (bare_from at (program_tree r)) (bare_tags all))
    (drop_more items at c.item-item.result c.each-test.true ∙ ap (λ y. y ∷ drop (at + 1) items) (sym c.item-item.is)) c.each.invariant))

pub returns : goal.returns
returns c =
    let items = c.args.items.now in
    let all = program_tree items in
    all_names (bare_tags all) c.each.names
    (subst (λ r. AreSince c.each.names (bare_from c.each.item-index (program_tree r)) (bare_tags all))
    (drop_all c.each.item-index items (omega (arith, c.each-test.false))) c.each.invariant)
