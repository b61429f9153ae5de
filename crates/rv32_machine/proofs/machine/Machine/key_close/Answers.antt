use Rattle.std.proofs.Common.{false, refl}
use Rattle.arena_laws.specs.Asked.{KeyClose}
use Rattle.rv32_machine.proofs.Asking.{concluded}
use Rattle.rv32_machine.proofs.Served.{served, never_full, never_lacks}
use Rattle.rv32_machine.proofs.machine.Machine.key_close.Goals as goal

pub returns-clause-step : goal.returns-clause-step
returns-clause-step g c = rw (← c.self.view_is)
    (concluded (KeyClose c.args.key) _ _ _ _ _ _ c.key_close-done.ensures.does c.key_close-done.ensures.bytes c.finished.ensures)

pub returns-clause-served : goal.returns-clause-served
returns-clause-served g c =
    let held = g.S.BlockStore.holdings c.self.inside.store in
    let does = c.key_close-done.ensures.does in
    served false _ _ _ _ _ _ c.finished.ensures (never_full (KeyClose c.args.key) _ held _ refl does) (never_lacks (KeyClose c.args.key) _ held _ refl does)
