use Rattle.std.proofs.Common.{arith, ◌+◌, ◌∷◌, ◌∙◌, ◌++◌, ap, drop, refl, subst, suc, sym, ◌≡◌}
use Rattle.std.proofs.lemmas.List.{drop_all, drop_more}
use Rattle.cyc_tree.specs.View.{program_item_tree, program_tree}
use Rattle.cyc_types.specs.Tables.{tables_of}
use Rattle.source_typing.proofs.Entries.{judged_name}
use Rattle.source_typing.specs.Programs.{builtins, entries, first_from, judged_tag}
use Rattle.check_structs.specs.FirstKnown.{bare_tags}
use Rattle.check_structs.specs.Tags.{IsFound, JudgedTo, StandsAt}
use Rattle.check_structs.proofs.Standing.{declared_at, judged_first, judged_last, judged_next, new_at, stands_at}
use Rattle.check_structs.proofs.tags.judged_items.Goals as goal

pub add-requires-clause-new : goal.add-requires-clause-new
add-requires-clause-new c =
    let items = c.args.items.now in
    new_at (program_tree items) c.each.item-index (program_tree (drop c.each.item-index items)) c.each.done c.args.first.now
    c.each.invariant.0 c.requires.first c.deref.result.now

pub add-requires-clause-declared : goal.add-requires-clause-declared
add-requires-clause-declared c =
    let items = c.args.items.now in
    let all = program_tree items in
    let at = c.each.item-index in
    let left = program_tree (drop at items) in
    let to = c.each.invariant.0 in
    let same = c.each.invariant.1 in
    let g = builtins (entries to.js ++ first_from (bare_tags all) at left) in
    let stands = subst (λ i. StandsAt c.each.done.names c.args.first.now (tables_of c.each.done.tables) i g) (sym same)
    (stands_at all at left c.each.done c.args.first.now to c.requires.first) in
    declared_at g (tables_of c.each.done.tables) c.each.order (program_item_tree c.item-item.result) c.in_ok-found.found
    stands.earlier (c.in_ok-found.ensures g stands)

pub each-init : goal.each-init
each-init c =
    (judged_first (program_tree c.args.items.now) c.in_ok-done.done c.in_ok-done.ensures, refl)

pub each-preserved : goal.each-preserved
each-preserved c =
    let items = c.args.items.now in
    let all = program_tree items in
    let at = c.each.item-index in
    let item = program_item_tree c.item-item.result in
    let rest = program_tree (drop (at + 1) items) in
    let same = c.each.invariant.1 in
    let one : suc at ≡ at + 1 = omega arith in
    let to : JudgedTo all at (item ∷ rest) c.each.done =
    subst (λ r. JudgedTo all at (program_tree r) c.each.done)
    (drop_more items at c.item-item.result c.each-test.true ∙ ap (λ y. y ∷ drop (at + 1) items) (sym c.item-item.is)) c.each.invariant.0 in
    let g = builtins (entries to.js ++ first_from (bare_tags all) at (item ∷ rest)) in
    let stands = subst (λ i. StandsAt c.each.done.names c.args.first.now (tables_of c.each.done.tables) i g) (sym same)
    (stands_at all at (item ∷ rest) c.each.done c.args.first.now to c.requires.first) in
    let found = subst (λ i. IsFound (judged_tag g i item) c.in_ok-found.found) same (c.in_ok-found.ensures g stands) in
    let added = c.in_ok-add.ensures to.js (judged_tag g at item) to.are found
    (c.deref.ensures.value ∙ ap (λ n. n.text) c.item_name.ensures ∙ sym (judged_name g at item)) in (
      subst (λ n. JudgedTo all n rest c.add.new.self) one (judged_next all at item rest c.each.done c.add.new.self to added),
      c.in_ok-order.ensures ∙ ap (λ n. n + 1) same,
    )

pub returns : goal.returns
returns c =
    let items = c.args.items.now in
    let all = program_tree items in
    let at = c.each.item-index in
    judged_last all at c.each.done
    (subst (λ r. JudgedTo all at (program_tree r) c.each.done) (drop_all at items (omega (arith, c.each-test.false)))
    c.each.invariant.0)
