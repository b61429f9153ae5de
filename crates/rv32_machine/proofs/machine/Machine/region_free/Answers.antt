use Rattle.std.proofs.Common.{false, refl}
use Rattle.arena_laws.specs.Asked.{RegionFree}
use Rattle.rv32_machine.proofs.Asking.{concluded}
use Rattle.rv32_machine.proofs.Served.{served, never_full, never_lacks}
use Rattle.rv32_machine.proofs.machine.Machine.region_free.Goals as goal

pub returns-clause-step : goal.returns-clause-step
returns-clause-step g c = rw (← c.self.view_is)
    (concluded (RegionFree c.args.handle) _ _ _ _ _ _ c.region_free-done.ensures.does c.region_free-done.ensures.bytes c.finished.ensures)

pub returns-clause-served : goal.returns-clause-served
returns-clause-served g c =
    let held = g.S.BlockStore.holdings c.self.inside.store in
    let does = c.region_free-done.ensures.does in
    served false _ _ _ _ _ _ c.finished.ensures (never_full (RegionFree c.args.handle) _ held _ refl does)
    (never_lacks (RegionFree c.args.handle) _ held _ refl does)
