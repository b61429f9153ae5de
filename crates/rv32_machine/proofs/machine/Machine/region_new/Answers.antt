use Rattle.std.proofs.Common.{true}
use Rattle.arena_laws.specs.Asked.{RegionNew}
use Rattle.rv32_machine.proofs.Asking.{concluded}
use Rattle.rv32_machine.proofs.Served.{served}
use Rattle.rv32_machine.proofs.machine.Machine.region_new.Goals as goal

pub returns-clause-step : goal.returns-clause-step
returns-clause-step g c = rw (← c.self.view_is)
    (concluded RegionNew _ _ _ _ _ _ c.region_new-made.ensures.does c.region_new-made.ensures.bytes c.numbered.ensures)

pub returns-clause-served : goal.returns-clause-served
returns-clause-served g c = rw (← c.self.view_is)
    (served true _ _ _ _ _ _ c.numbered.ensures c.region_new-made.ensures.full c.region_new-made.ensures.memory)
