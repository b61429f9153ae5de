use Rattle.std.proofs.Common.{true, refl}
use Rattle.arena_laws.specs.Asked.{KeyOpen}
use Rattle.rv32_machine.proofs.Asking.{concluded}
use Rattle.rv32_machine.proofs.Served.{served, never_full, never_lacks}
use Rattle.rv32_machine.proofs.machine.Machine.key_open.Goals as goal

pub returns-clause-step : goal.returns-clause-step
returns-clause-step g c = rw (← c.self.view_is)
    (concluded (KeyOpen c.args.key) _ _ _ _ _ _ c.key_open-opened.ensures.does c.key_open-opened.ensures.bytes c.numbered.ensures)

pub returns-clause-served : goal.returns-clause-served
returns-clause-served g c =
    let held = g.S.BlockStore.holdings c.self.inside.store in
    let does = c.key_open-opened.ensures.does in
    served true _ _ _ _ _ _ c.numbered.ensures (never_full (KeyOpen c.args.key) _ held _ refl does) (never_lacks (KeyOpen c.args.key) _ held _ refl does)
