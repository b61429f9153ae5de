use Rattle.arena_laws.specs.Lawful.{without_number}
use Rattle.cyc_arena.proofs.Along.{holds_along, there_before}
use Rattle.cyc_arena.proofs.Released.{released_sound, released_holds}
use Rattle.cyc_arena.proofs.plain.PlainStore.release.Goals as goal

pub invariant_of-self : goal.invariant_of-self
invariant_of-self c =
    released_sound _ c.args.number _ c.self.invariant (there_before c.args.number _ _ c.self.view_is c.requires) c.clear.ensures

pub returns-clause-holds : goal.returns-clause-holds
returns-clause-holds c =
    holds_along (without_number c.args.number) _ _ _ c.self.view_is
    (released_holds _ c.args.number _ c.self.invariant (there_before c.args.number _ _ c.self.view_is c.requires) c.clear.ensures)
