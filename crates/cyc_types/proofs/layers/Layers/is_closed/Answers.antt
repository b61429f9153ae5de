use Rattle.std.proofs.Common.{ap, ◌∙◌, sym, subst, take}
use Rattle.std.specs.List.{list_all}
use Rattle.cyc_types.specs.Pointers.{is_closed}
use Rattle.cyc_types.specs.Shared.{IsHeld, held_items}
use Rattle.cyc_types.proofs.Runs.{all_taken}
use Rattle.cyc_types.proofs.TwoParts.{all_both}
use Rattle.cyc_types.proofs.layers.Layers.is_closed.Goals as goal

pub returns-then-deref : goal.returns-then-deref
returns-then-deref c h =
    let all = c.in-Shared.all.value in
    let inner = take c.in-Shared.field-1 all.all.items in
    let kept = subst IsHeld c.in-Shared.is c.self.invariant in
    let closed = kept.closed (ap (λ s. s.is_closed) (sym c.deref.ensures) ∙ c.if-deref.true) in
    let outer = ap (list_all is_closed) (sym c.as_slice-then-deref.ensures) ∙ sym c.are_closed-then-deref.ensures ∙ h in
    let items = sym (ap (λ p. p.items) c.self.view_is) ∙ ap held_items c.in-Shared.is in
    ap (list_all is_closed) items
    ∙ all_both is_closed inner c.in-Shared.outer.items (all_taken is_closed c.in-Shared.field-1 all.all.items closed) outer
