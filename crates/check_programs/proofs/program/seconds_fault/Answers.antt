use Rattle.std.proofs.Common.{◌≡◌, ◌+◌, [], ◌∷◌, List, ap, arith, drop, refl, subst, sym, ◌∙◌}
use Rattle.std.proofs.lemmas.List.{drop_all}
use Rattle.std.specs.Prelude.{codes, not}
use Rattle.cyc_tree.specs.Tree as tree
use Rattle.cyc_tree.specs.View.{program_item_tree, program_tree}
use Rattle.cyc_tree.specs.declared.item.Item as code_item
use Rattle.source_typing.specs.Faults.{earliest, name_rule, test}
use Rattle.source_typing.specs.Programs.{is_seen, name_of, second_names}
use Rattle.check_faults.proofs.Earliest.{first_none}
use Rattle.check_faults.specs.Faults.{faults_of, first_of}
use Rattle.check_programs.proofs.Items.{next_found}
use Rattle.check_programs.specs.Programs.{AreSeen}
use Rattle.check_programs.proofs.program.seconds_fault.Goals as goal

pub each-init : goal.each-init
each-init c = record { names = codes "getchar" ∷ codes "putchar" ∷ []; are = c.in_ok-seen.ensures; is = refl }

pub each-preserved : goal.each-preserved
each-preserved c =
    let left = c.each.invariant in
    let names = left.names in
    let items = c.args.items.now in
    let k = c.each.item-index in
    let name = name_of (program_item_tree c.item-item.result) in
    let same : c.as_slice.result.now ≡ name.text = c.as_slice.ensures.value ∙ ap (λ (n : tree.Name). n.text) c.item_name-name.ensures in
    let before = λ (l : List code_item.Item). second_names names (program_tree l) in
    let after = λ (l : List code_item.Item). second_names (name.text ∷ names) (program_tree l) in
    record {
      names = name.text ∷ names;
      are = subst (λ n. AreSeen (n ∷ names) c.see.new.seen) same (c.in_ok-is_new.ensures.seen names left.are);
      is = ap (λ o. first_of (faults_of o) (earliest (after (drop (k + 1) items)))) c.sooner-found.ensures
          ∙ next_found before after (test (not (is_seen names name.text)) name_rule name.at) items k c.item-item.result c.each.found c.second_fault.result
          c.each-test.true c.item-item.is
          (c.second_fault.ensures
          ∙ ap (λ b. earliest (test b name_rule c.item_name-name.result.now.at)) (c.in_ok-is_new.ensures.is_new names left.are)
          ∙ ap (λ n. earliest (test (not (is_seen names n)) name_rule c.item_name-name.result.now.at)) same
          ∙ ap (λ (n : tree.Name). earliest (test (not (is_seen names name.text)) name_rule n.at)) c.item_name-name.ensures)
          refl
          ∙ left.is;
    }

pub returns : goal.returns
returns c =
    let left = c.each.invariant in
    let items = c.args.items.now in
    let found = faults_of c.each.found in
    sym (first_none found)
    ∙ ap (λ (l : List code_item.Item). first_of found (earliest (second_names left.names (program_tree l))))
    (sym (drop_all c.each.item-index items (omega (arith, c.each-test.false))))
    ∙ left.is
