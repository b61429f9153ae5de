use Rattle.arena_laws.specs.Lawful.{key_close}
use Rattle.cyc_arena.specs.contracts.plain.PlainStore.{the_view}
use Rattle.cyc_arena.proofs.Along.{does_along}
use Rattle.cyc_arena.proofs.Keys.{closed_does}
use Rattle.cyc_arena.proofs.plain.PlainStoreBlockStore.key_close.Goals as goal

pub returns-in-Some-Opened-clause-does : goal.returns-in-Some-Opened-clause-does
returns-in-Some-Opened-clause-does c =
    does_along (key_close c.args.key) _ _ _ _ c.self.view_is
    (closed_does (the_view c.self.inside) c.args.key (rw c.in-Some-Opened.field-0-is at c.in-Some-Opened.ensures))
