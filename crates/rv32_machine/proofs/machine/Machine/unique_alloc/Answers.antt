use Rattle.std.proofs.Common.{true}
use Rattle.arena_laws.specs.Asked.{UniqueAlloc}
use Rattle.rv32_machine.proofs.Asking.{concluded}
use Rattle.rv32_machine.proofs.Served.{served}
use Rattle.rv32_machine.proofs.machine.Machine.unique_alloc.Goals as goal

pub returns-clause-step : goal.returns-clause-step
returns-clause-step g c = rw (← c.self.view_is)
    (concluded (UniqueAlloc c.args.bytes) _ _ _ _ _ _ c.unique_alloc-made.ensures.does c.unique_alloc-made.ensures.bytes c.numbered.ensures)

pub returns-clause-served : goal.returns-clause-served
returns-clause-served g c = rw (← c.self.view_is)
    (served true _ _ _ _ _ _ c.numbered.ensures c.unique_alloc-made.ensures.full c.unique_alloc-made.ensures.memory)
