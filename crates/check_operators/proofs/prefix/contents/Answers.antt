use Rattle.std.proofs.Common.{◌≡◌, ap, sym, subst, ◌∙◌}
use Rattle.std.specs.Prelude.{MatchOption}
use Rattle.cyc_types.specs.Layers.{pointer_to}
use Rattle.cyc_types.specs.Types.{static_type}
use Rattle.source_typing.specs.Places.{contents_of}
use Rattle.check_faults.specs.Verdicts.{shortened}
use Rattle.check_operators.specs.Pointers.{followed}
use Rattle.check_operators.proofs.Following.{pointer_led}
use Rattle.check_operators.proofs.prefix.contents.Goals as goal

pub returns-in-Some : goal.returns-in-Some
returns-in-Some c g h =
    let at = c.args.at in
    let l = c.in-Some.pointer in
    let t = static_type c.args.operand.of in
    let u = static_type c.into_pointee.result in
    let led : t ≡ pointer_to l u = subst (λ o. MatchOption o (u ≡ t) (λ l. t ≡ pointer_to l u)) (sym c.in-Some.ensures) c.into_pointee.ensures in
    c.followed.ensures
    ∙ ap (λ b. shortened (followed at l b u)) (c.is_reached-is_live.ensures g h)
    ∙ ap (λ v. shortened v) (sym (ap (contents_of g at) led ∙ pointer_led g at l u))
