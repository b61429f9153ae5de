use Rattle.std.proofs.Common.{◌≡◌, ◌+◌, ◌∷◌, [], List, ap, arith, drop, refl, subst, suc, sym, ◌∙◌}
use Rattle.std.proofs.lemmas.List.{drop_all}
use Rattle.cyc_tree.specs.Tree as tree
use Rattle.cyc_tree.specs.View.{program_item_tree, program_tree}
use Rattle.cyc_tree.specs.declared.item.Item as code_item
use Rattle.std.specs.Prelude.{is_some, not, ◌++◌}
use Rattle.source_typing.specs.Globals.{item_statics}
use Rattle.source_typing.specs.Programs.{if_first, is_seen, name_of, statics_from}
use Rattle.source_typing.specs.Scope.{at_item}
use Rattle.check_tables.proofs.Items.{next_of}
use Rattle.check_programs.specs.Programs.{AreSeen}
use Rattle.check_programs.specs.Totals.{counted}
use Rattle.check_programs.proofs.sizes.sizes_fault.Goals as goal

pub each-init : goal.each-init
each-init c = record { names = []; are = λ x. sym (ap is_some (c.new-seen.ensures x)); is = λ l g known. refl }

pub each-preserved : goal.each-preserved
each-preserved c =
    let names = c.each.invariant.names in
    let items = c.args.items.now in
    let k = c.each.item-index in
    let i = c.each.index in
    let total = c.each.total in
    let item = program_item_tree c.item-item.result in
    let name = name_of item in
    let rest = program_tree (drop (k + 1) items) in
    let same : c.as_slice.result.now ≡ name.text = c.as_slice.ensures.value ∙ ap (λ (n : tree.Name). n.text) c.item_name.ensures in
    let is_first = c.in_ok-is_new.ensures.is_new names c.each.invariant.are ∙ ap (λ n. not (is_seen names n)) same in
    let one : suc i ≡ i + 1 = omega arith in
    record {
      names = name.text ∷ names;
      are = subst (λ n. AreSeen (n ∷ names) c.see.new.seen) same (c.in_ok-is_new.ensures.seen names c.each.invariant.are);
      is = λ l g known.
          let more = statics_from l g (suc i) (name.text ∷ names) rest in
          ap (λ n. counted c.in_ok-total.total (statics_from l g n (name.text ∷ names) rest)) (c.in_ok-index.ensures ∙ sym one)
          ∙ c.in_ok-total.ensures l g known more
          ∙ ap (λ b. counted total (if_first b (item_statics (at_item l g i) item) ++ more)) is_first
          ∙ ap (λ (z : List code_item.Item). counted total (statics_from l g i names (program_tree z)))
          (sym (next_of items k c.item-item.result c.each-test.true c.item-item.is))
          ∙ c.each.invariant.is l g known;
    }

pub returns : goal.returns
returns c l g known =
    let left = c.each.invariant in
    let items = c.args.items.now in
    c.fault.ensures
    ∙ ap (λ (z : List code_item.Item). counted c.each.total (statics_from l g c.each.index left.names (program_tree z)))
    (sym (drop_all c.each.item-index items (omega (arith, c.each-test.false))))
    ∙ left.is l g known
