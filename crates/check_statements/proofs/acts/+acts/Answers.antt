use Rattle.std.proofs.Common.{◌≡◌, ap, drop, map, sym, ◌∷◌, ◌++◌, ◌+◌, ◌∙◌}
use Rattle.std.proofs.lemmas.List.{drop_more}
use Rattle.cyc_tree.proofs.Forms.{all_of_tree, any_of_tree, assign_tree, chain_tree, link_parts, new_in_tree, suffixed_tree}
use Rattle.cyc_tree.proofs.PartForms.{array_tree, arrow_tree, dot_tree, index_tree}
use Rattle.cyc_tree.specs.Places.{expression_place}
use Rattle.cyc_tree.specs.View.{expression_tree, expressions_of, link_tree, links_of, made_tree, suffix_tree, suffixes_of}
use Rattle.source_typing.specs.Exchanges.{acts, all_acts, link_acts, made_acts, suffix_acts}
use Rattle.source_typing.specs.Faults.{earliest, fault, type_rule}
use Rattle.check_faults.specs.Faults.{faults_of, first_of}
use Rattle.check_declarations.proofs.Blocks.{two_found}
use Rattle.check_statements.proofs.Blocks.{one_more}
use Rattle.check_statements.proofs.Exchanging.{of_suffix, suffix_more}
use Rattle.check_statements.proofs.acts.+acts.Goals as goal
use Rattle.check_statements.proofs.acts.+acts.Goals.{act_in_suffixes-in-Arrow, act_in_suffixes-in-Dot, act_in_suffixes-in-Index}

pub act_in-returns-in-Suffixed : goal.act_in-returns-in-Suffixed
act_in-returns-in-Suffixed t c =
    let x = c.in-Suffixed in
    two_found c.act_in-in-Suffixed.result c.act_in_suffixes.result c.sooner.result (acts (expression_tree x.first.value)) (suffix_acts (suffixes_of
    (map suffix_tree x.suffixes.items))) c.sooner.ensures
    (c.act_in-in-Suffixed.ensures ∙ ap (λ e. earliest (acts (expression_tree e))) c.deref-in-Suffixed.ensures)
    (c.act_in_suffixes.ensures ∙ ap (λ es. earliest (suffix_acts (suffixes_of (map suffix_tree es)))) c.deref-in-Suffixed-2.ensures.value)
    ∙ ap (λ e. earliest (acts e)) (sym (ap expression_tree x.is ∙ suffixed_tree x.first x.suffixes))

pub act_in-returns-in-NewIn : goal.act_in-returns-in-NewIn
act_in-returns-in-NewIn t c =
    let x = c.in-NewIn in
    let first = acts (expression_tree x.handle.value) in
    let second = made_acts (made_tree x.new) in
    c.act_and-in-NewIn.ensures (first ++ second)
    (two_found c.act_in-in-NewIn.result c.act_in_made-in-NewIn.result c.sooner-in-NewIn.result first second c.sooner-in-NewIn.ensures
    (c.act_in-in-NewIn.ensures ∙ ap (λ e. earliest (acts (expression_tree e))) c.deref-in-NewIn.ensures) c.act_in_made-in-NewIn.ensures)
    ∙ ap (λ e. earliest (acts e)) (sym (ap expression_tree x.is ∙ new_in_tree x.at x.handle x.new))

pub act_in-returns-in-Chain : goal.act_in-returns-in-Chain
act_in-returns-in-Chain t c =
    let x = c.in-Chain in
    two_found c.act_in-in-Chain.result c.act_in_links.result c.sooner-in-Chain.result (acts (expression_tree x.first.value)) (link_acts (links_of
    (map link_tree x.links.items))) c.sooner-in-Chain.ensures
    (c.act_in-in-Chain.ensures ∙ ap (λ e. earliest (acts (expression_tree e))) c.deref-in-Chain.ensures)
    (c.act_in_links.ensures ∙ ap (λ es. earliest (link_acts (links_of (map link_tree es)))) c.deref-in-Chain-2.ensures.value)
    ∙ ap (λ e. earliest (acts e)) (sym (ap expression_tree x.is ∙ chain_tree x.first x.links))

pub act_in-returns-in-Assign : goal.act_in-returns-in-Assign
act_in-returns-in-Assign t c =
    let x = c.in-Assign in
    let first = acts (expression_tree x.to.value) in
    let second = acts (expression_tree x.from.value) in
    c.act_and-in-Assign.ensures (first ++ second)
    (two_found c.act_in-in-Assign.result c.act_in-in-Assign-2.result c.sooner-in-Assign.result first second c.sooner-in-Assign.ensures
    (c.act_in-in-Assign.ensures ∙ ap (λ e. earliest (acts (expression_tree e))) c.deref-in-Assign-2.ensures)
    (c.act_in-in-Assign-2.ensures ∙ ap (λ e. earliest (acts (expression_tree e))) c.deref-in-Assign-3.ensures))
    ∙ ap (λ p. earliest (fault type_rule p ∷ (first ++ second))) (c.place.ensures ∙ ap (λ e. expression_place (expression_tree e)) c.deref-in-Assign.ensures)
    ∙ ap (λ e. earliest (acts e)) (sym (ap expression_tree x.is ∙ assign_tree x.to x.from))

pub act_in-returns-in-AllOf : goal.act_in-returns-in-AllOf
act_in-returns-in-AllOf t c =
    let x = c.in-AllOf in
    two_found c.act_in-in-AllOf.result c.act_in_all-in-AllOf.result c.sooner-in-AllOf.result (acts (expression_tree x.first.value)) (all_acts
    (expressions_of (map expression_tree x.others.items))) c.sooner-in-AllOf.ensures
    (c.act_in-in-AllOf.ensures ∙ ap (λ e. earliest (acts (expression_tree e))) c.deref-in-AllOf.ensures)
    (c.act_in_all-in-AllOf.ensures ∙ ap (λ es. earliest (all_acts (expressions_of (map expression_tree es)))) c.deref-in-AllOf-2.ensures.value)
    ∙ ap (λ e. earliest (acts e)) (sym (ap expression_tree x.is ∙ all_of_tree x.first x.others))

pub act_in-returns-in-AnyOf : goal.act_in-returns-in-AnyOf
act_in-returns-in-AnyOf t c =
    let x = c.in-AnyOf in
    two_found c.act_in-in-AnyOf.result c.act_in_all-in-AnyOf.result c.sooner-in-AnyOf.result (acts (expression_tree x.first.value)) (all_acts
    (expressions_of (map expression_tree x.others.items))) c.sooner-in-AnyOf.ensures
    (c.act_in-in-AnyOf.ensures ∙ ap (λ e. earliest (acts (expression_tree e))) c.deref-in-AnyOf.ensures)
    (c.act_in_all-in-AnyOf.ensures ∙ ap (λ es. earliest (all_acts (expressions_of (map expression_tree es)))) c.deref-in-AnyOf-2.ensures.value)
    ∙ ap (λ e. earliest (acts e)) (sym (ap expression_tree x.is ∙ any_of_tree x.first x.others))

pub act_in_all-each-preserved : goal.act_in_all-each-preserved
act_in_all-each-preserved t c =
    let all = c.args.expressions.now in
    let e = c.expression-item.result in
    let rest = drop (c.each.expression-index + 1) all in
    let next = drop_more all c.each.expression-index e c.each-test.true ∙ ap (λ y. y ∷ rest) (sym c.expression-item.is) in
    one_more c.each.found c.act_in.result c.sooner-found.result (acts (expression_tree e)) (all_acts (expressions_of (map expression_tree rest)))
    (earliest (all_acts (expressions_of (map expression_tree all)))) c.sooner-found.ensures c.act_in.ensures
    (ap (λ es. first_of (faults_of c.each.found) (earliest (all_acts (expressions_of (map expression_tree es))))) (sym next) ∙ c.each.invariant)

pub act_in_links-each-preserved : goal.act_in_links-each-preserved
act_in_links-each-preserved t c =
    let all = c.args.links.now in
    let l = c.link-item.result in
    let rest = drop (c.each.link-index + 1) all in
    let next = drop_more all c.each.link-index l c.each-test.true ∙ ap (λ y. y ∷ rest) (sym c.link-item.is) in
    one_more c.each.found c.act_in.result c.sooner-found.result (acts (expression_tree l.operand)) (link_acts (links_of (map link_tree rest)))
    (earliest (link_acts (links_of (map link_tree all)))) c.sooner-found.ensures c.act_in.ensures
    (ap (λ p. first_of (faults_of c.each.found) (earliest (link_acts (links_of (p ∷ map link_tree rest))))) (sym (link_parts l))
    ∙ ap (λ ls. first_of (faults_of c.each.found) (earliest (link_acts (links_of (map link_tree ls))))) (sym next) ∙ c.each.invariant)

pub act_in_made-returns-in-Array : goal.act_in_made-returns-in-Array
act_in_made-returns-in-Array t c =
    let x = c.in-Array in
    two_found c.act_in-in-Array.result c.act_in-in-Array-2.result c.sooner.result (acts (expression_tree x.count.value)) (acts
    (expression_tree x.element.value))
    c.sooner.ensures (c.act_in-in-Array.ensures ∙ ap (λ e. earliest (acts (expression_tree e))) c.deref-in-Array.ensures)
    (c.act_in-in-Array-2.ensures ∙ ap (λ e. earliest (acts (expression_tree e))) c.deref-in-Array-2.ensures)
    ∙ ap (λ m. earliest (made_acts m)) (sym (ap made_tree x.is ∙ array_tree x.field-0 x.count x.element))

pub act_in_suffixes-each-preserved : goal.act_in_suffixes-each-preserved
act_in_suffixes-each-preserved t c =
    let all = c.args.suffixes.now in
    let s = c.suffix-item.result in
    let rest = drop (c.each.suffix-index + 1) all in
    let next = drop_more all c.each.suffix-index s c.each-test.true ∙ ap (λ y. y ∷ rest) (sym c.suffix-item.is) in
    let own : faults_of c.match-suffix.fault ≡ earliest (of_suffix (suffix_tree s)) =
    elim c.match-suffix.branch [
      | act_in_suffixes-in-Index w ↦ ap (λ o. faults_of o) w.fault-is ∙ w.act_in-fault.ensures
          ∙ ap (λ e. earliest (acts (expression_tree e))) w.deref.ensures
          ∙ ap (λ o. earliest (of_suffix o)) (sym (ap suffix_tree w.in-Index.is ∙ index_tree w.in-Index.subscript))
      | act_in_suffixes-in-Dot w ↦ ap (λ o. faults_of o) w.fault-is
          ∙ ap (λ o. earliest (of_suffix o)) (sym (ap suffix_tree w.in-Dot.is ∙ dot_tree w.in-Dot.field-0))
      | act_in_suffixes-in-Arrow w ↦ ap (λ o. faults_of o) w.fault-is
          ∙ ap (λ o. earliest (of_suffix o)) (sym (ap suffix_tree w.in-Arrow.is ∙ arrow_tree w.in-Arrow.field-0))
    ] in
    one_more c.each.found c.match-suffix.fault c.sooner-found.result (of_suffix (suffix_tree s)) (suffix_acts (suffixes_of (map suffix_tree rest)))
    (earliest (suffix_acts (suffixes_of (map suffix_tree all)))) c.sooner-found.ensures own
    (ap (λ fs. first_of (faults_of c.each.found) (earliest fs)) (sym (suffix_more (suffix_tree s) (map suffix_tree rest)))
    ∙ ap (λ ss. first_of (faults_of c.each.found) (earliest (suffix_acts (suffixes_of (map suffix_tree ss))))) (sym next) ∙ c.each.invariant)
