use Rattle.std.proofs.Common.{true}
use Rattle.arena_laws.specs.Asked.{KeyNew}
use Rattle.rv32_machine.proofs.Asking.{concluded}
use Rattle.rv32_machine.proofs.Served.{served}
use Rattle.rv32_machine.proofs.machine.Machine.key_new.Goals as goal

pub returns-clause-step : goal.returns-clause-step
returns-clause-step g c = rw (← c.self.view_is) (concluded KeyNew _ _ _ _ _ _ c.key_new-made.ensures.does c.key_new-made.ensures.bytes c.numbered.ensures)

pub returns-clause-served : goal.returns-clause-served
returns-clause-served g c = rw (← c.self.view_is)
    (served true _ _ _ _ _ _ c.numbered.ensures c.key_new-made.ensures.full c.key_new-made.ensures.memory)
