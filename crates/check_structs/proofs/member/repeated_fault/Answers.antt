use Rattle.std.proofs.Common.{[], ◌+◌, ◌∷◌, ◌∙◌, ap, arith, drop, map, refl, subst, sym}
use Rattle.std.proofs.lemmas.List.{drop_all, drop_more}
use Rattle.cyc_tree.specs.View.{member_tree}
use Rattle.check_faults.proofs.Earliest.{first_none}
use Rattle.check_faults.specs.Faults.{faults_of}
use Rattle.check_structs.specs.Members.{RepeatedLeft}
use Rattle.check_structs.proofs.Members.{repeated_next}
use Rattle.check_structs.proofs.member.repeated_fault.Goals as goal

pub each-init : goal.each-init
each-init c = record { before = []; are = c.new-names.ensures.known; is = refl }

pub each-preserved : goal.each-preserved
each-preserved c =
    let all = c.args.members.now in
    let k = c.each.member-index in
    let m = member_tree c.member-item.result in
    repeated_next (map member_tree all) (map member_tree (drop (k + 1) all)) m c.deref.result.now c.each.names c.add.new.self c.each.found
    c.unless_new.result c.sooner-found.result c.in_ok-is_new.is_new c.deref.ensures.value c.sooner-found.ensures c.unless_new.ensures
    c.in_ok-is_new.ensures.is_new c.in_ok-is_new.ensures.known
    (subst (λ r. RepeatedLeft (map member_tree all) c.each.found (map member_tree r) c.each.names)
    (drop_more all k c.member-item.result c.each-test.true ∙ ap (λ y. y ∷ drop (k + 1) all) (sym c.member-item.is)) c.each.invariant)

pub returns : goal.returns
returns c =
    let all = c.args.members.now in
    let k = c.each.member-index in
    let left = subst (λ r. RepeatedLeft (map member_tree all) c.each.found (map member_tree r) c.each.names) (drop_all k all (omega (arith, c.each-test.false)))
    c.each.invariant
    in
    sym (first_none (faults_of c.each.found)) ∙ left.is
