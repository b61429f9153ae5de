use Rattle.std.proofs.Common.{arith, ◌+◌, ◌∷◌, ◌∙◌, ap, drop, subst, sym}
use Rattle.std.proofs.lemmas.List.{drop_all, drop_more}
use Rattle.cyc_tree.specs.View.{program_item_tree, program_tree}
use Rattle.check_tables.proofs.ItemNames.{Reached, reached_first, reached_last, reached_next}
use Rattle.check_tables.proofs.names.program_names.Goals as goal

pub each-init : goal.each-init
each-init c = reached_first c.args.structs c.args.lenient (program_tree c.args.items.now) c.in_ok-names.names c.in_ok-names.ensures

pub each-preserved : goal.each-preserved
each-preserved c =
    let s = c.args.structs in
    let l = c.args.lenient in
    let all = c.args.items.now in
    let k = c.each.item-index in
    reached_next s l (program_tree all) c.each.index c.in_ok-index.index (program_item_tree c.item-item.result) (program_tree (drop (k + 1) all))
    c.each.names c.add.new.self c.as_slice.result.now c.in_ok-meaning.meaning c.in_ok-add.field-0 c.in_ok-index.ensures
    (c.as_slice.ensures.value ∙ ap (λ n. n.text) c.item_name.ensures) c.in_ok-add.ensures.is_new c.in_ok-add.ensures.names
    c.in_ok-meaning.ensures
    (subst (λ r. Reached s l (program_tree all) c.each.index (program_tree r) c.each.names)
    (drop_more all k c.item-item.result c.each-test.true ∙ ap (λ y. y ∷ drop (k + 1) all) (sym c.item-item.is)) c.each.invariant)

pub returns : goal.returns
returns c known =
    let all = c.args.items.now in
    let k = c.each.item-index in
    reached_last c.args.structs c.args.lenient (program_tree all) c.each.index c.each.names
    (subst (λ r. Reached c.args.structs c.args.lenient (program_tree all) c.each.index (program_tree r) c.each.names)
    (drop_all k all (omega (arith, c.each-test.false))) c.each.invariant) known
