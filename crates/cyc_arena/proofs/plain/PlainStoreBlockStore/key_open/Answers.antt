use Rattle.arena_laws.specs.Lawful.{key_open}
use Rattle.cyc_arena.specs.contracts.plain.PlainStore.{the_view}
use Rattle.cyc_arena.proofs.Along.{does_along}
use Rattle.cyc_arena.proofs.Keys.{opened_does}
use Rattle.cyc_arena.proofs.plain.PlainStoreBlockStore.key_open.Goals as goal

pub returns-in-Some-Closed-clause-does : goal.returns-in-Some-Closed-clause-does
returns-in-Some-Closed-clause-does c =
    does_along (key_open c.args.key) _ _ _ _ c.self.view_is
    (opened_does (the_view c.self.inside) c.args.key (rw c.in-Some-Closed.field-0-is at c.in-Some-Closed.ensures))
