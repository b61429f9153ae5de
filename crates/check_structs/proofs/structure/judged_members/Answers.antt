use Rattle.std.proofs.Common.{◌+◌, ◌++◌, ◌∷◌, ◌∙◌, ap, arith, drop, map, sym}
use Rattle.std.proofs.lemmas.List.{append-nil, drop_all, drop_more}
use Rattle.cyc_tree.specs.View.{member_tree}
use Rattle.cyc_types.specs.Tags.{members_of}
use Rattle.cyc_types.specs.Types.{static_type}
use Rattle.source_typing.specs.Faults.{earliest}
use Rattle.source_typing.specs.Tags.{member_faults, parts_by}
use Rattle.check_faults.proofs.Earliest.{first_none}
use Rattle.check_faults.specs.Faults.{faults_of, first_of}
use Rattle.check_faults.specs.Verdicts.{short_of}
use Rattle.check_structs.specs.Members.{scoped}
use Rattle.check_structs.proofs.Judging.{fault_next, parts_next}
use Rattle.check_structs.proofs.structure.judged_members.Goals as goal

pub each-preserved : goal.each-preserved
each-preserved c g i stands =
    let u = c.args.is_union in
    let e = scoped g i c.args.names.now in
    let all = c.args.members.now in
    let at = c.each.member-index in
    let m = member_tree c.member-item.result in
    let rest = map member_tree (drop (at + 1) all) in
    let of = short_of static_type c.in_ok-of.of in
    let is = c.in_ok-of.ensures g i stands in
    let more = ap (map member_tree)
    (drop_more all at c.member-item.result c.each-test.true ∙ ap (λ y. y ∷ drop (at + 1) all) (sym c.member-item.is)) in
    let so_far = c.each.invariant g i stands in (
      ap (λ ps. ps ++ parts_by e u rest) c.in_ok-add.ensures.parts
          ∙ parts_next e u m rest of is c.deref.result.now (members_of c.each.judged.members.items) (parts_by e u (map member_tree all))
          c.deref.ensures.value (sym (ap (λ ms. members_of c.each.judged.members.items ++ parts_by e u ms) more) ∙ so_far.0),
      fault_next e u m rest of is (faults_of c.each.judged.fault) (faults_of c.add.new.self.fault)
          (earliest (member_faults e u (map member_tree all))) c.in_ok-add.ensures.fault
          (sym (ap (λ ms. first_of (faults_of c.each.judged.fault) (earliest (member_faults e u ms))) more) ∙ so_far.1),
    )

pub returns-clause-parts : goal.returns-clause-parts
returns-clause-parts c g i stands =
    let u = c.args.is_union in
    let e = scoped g i c.args.names.now in
    let all = c.args.members.now in
    let before = members_of c.each.judged.members.items in
    sym (append-nil before)
    ∙ sym (ap (λ ms. before ++ parts_by e u (map member_tree ms)) (drop_all c.each.member-index all (omega (arith, c.each-test.false))))
    ∙ (c.each.invariant g i stands).0

pub returns-clause-fault : goal.returns-clause-fault
returns-clause-fault c g i stands =
    let u = c.args.is_union in
    let e = scoped g i c.args.names.now in
    let all = c.args.members.now in
    let found = faults_of c.each.judged.fault in
    sym (first_none found)
    ∙ sym (ap (λ ms. first_of found (earliest (member_faults e u (map member_tree ms))))
    (drop_all c.each.member-index all (omega (arith, c.each-test.false))))
    ∙ (c.each.invariant g i stands).1
