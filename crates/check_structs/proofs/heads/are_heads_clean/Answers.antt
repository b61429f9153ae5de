use Rattle.std.proofs.Common.{◌+◌, ◌∷◌, ◌∙◌, ap, arith, drop, map, sym}
use Rattle.std.specs.Prelude.{◌&&◌}
use Rattle.std.proofs.lemmas.List.{drop_all, drop_more}
use Rattle.cyc_tree.specs.View.{member_tree, type_tree}
use Rattle.source_typing.specs.Faults.{is_clean}
use Rattle.source_typing.specs.Tags.{head_faults, head_type}
use Rattle.source_typing.specs.Verdicts.{faults_of}
use Rattle.check_structs.proofs.HeadTypes.{and_true, clean_next}
use Rattle.check_structs.specs.Members.{scoped}
use Rattle.check_structs.proofs.heads.are_heads_clean.Goals as goal

pub each-preserved : goal.each-preserved
each-preserved c g i heads =
    let e = scoped g i c.args.names.now in
    let all = c.args.members.now in
    let at = c.each.member-index in
    let m = c.member-item.result in
    ap (λ b. b && is_clean (head_faults e c.args.is_union (map member_tree (drop (at + 1) all)))) c.are_both-clean.ensures
    ∙ clean_next c.each.clean c.in_ok-own.own (faults_of (head_type e c.args.is_union (type_tree m.of)))
    (head_faults e c.args.is_union (map member_tree (drop (at + 1) all))) (c.in_ok-own.ensures g i heads)
    ∙ sym (ap (λ ms. c.each.clean && is_clean (head_faults e c.args.is_union (map member_tree ms)))
    (drop_more all at m c.each-test.true ∙ ap (λ y. y ∷ drop (at + 1) all) (sym c.member-item.is)))
    ∙ c.each.invariant g i heads

pub returns : goal.returns
returns c g i heads =
    let e = scoped g i c.args.names.now in
    let all = c.args.members.now in
    sym (and_true c.each.clean)
    ∙ sym (ap (λ ms. c.each.clean && is_clean (head_faults e c.args.is_union (map member_tree ms)))
    (drop_all c.each.member-index all (omega (arith, c.each-test.false))))
    ∙ c.each.invariant g i heads
