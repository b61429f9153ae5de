use Rattle.std.proofs.Common.{◌≡◌, ap, sym, subst, ◌∙◌}
use Rattle.std.specs.Prelude.{MatchOption}
use Rattle.cyc_tree.specs.View.{name_tree}
use Rattle.cyc_types.specs.Bases.{base_type}
use Rattle.cyc_types.specs.Layers.{pointer_to}
use Rattle.cyc_types.specs.Types.{static_type}
use Rattle.check_operators.specs.StructMembers.{arrow_on}
use Rattle.check_faults.specs.Verdicts.{shortened}
use Rattle.check_operators.proofs.MembersFound.{arrow_to_plain, arrow_to_pointer}
use Rattle.check_operators.proofs.members.arrow.Goals as goal

pub returns-in-Some-outer : goal.returns-in-Some-outer
returns-in-Some-outer c g k h =
    let e = c.args.operand in
    let l = c.in-Some.pointer in
    let t = static_type e.of in
    let u = static_type c.into_pointee-to.result in
    let led : t ≡ pointer_to l u = subst (λ o. MatchOption o (u ≡ t) (λ l. t ≡ pointer_to l u)) (sym c.in-Some.ensures) c.into_pointee-to.ensures in
    c.refused.ensures
    ∙ ap (λ v. shortened v) (arrow_to_pointer g (name_tree c.args.field.now) e.at l e.of c.into_pointee-to.result led c.in-Some-outer.field-0
    (sym c.in-Some-outer.ensures))

pub returns-in-Some : goal.returns-in-Some
returns-in-Some c g k h =
    let e = c.args.operand in
    let f = name_tree c.args.field.now in
    let l = c.in-Some.pointer in
    let to = c.into_pointee-to.result in
    let t = static_type e.of in
    let u = static_type to in
    let led : t ≡ pointer_to l u = subst (λ o. MatchOption o (u ≡ t) (λ l. t ≡ pointer_to l u)) (sym c.in-Some.ensures) c.into_pointee-to.ensures in
    c.in_ok-part-in-None-outer.ensures g h
    ∙ ap (λ b. shortened (arrow_on g f e.at l b (base_type to.base))) (c.is_reached-is_live.ensures g k)
    ∙ ap (λ v. shortened v) (arrow_to_plain g f e.at l e.of to led (sym c.in-None-outer.ensures))
