use Rattle.cyc_arena.specs.contracts.plain.PlainStore.{the_view}
use Rattle.cyc_arena.proofs.Extended.{extended_sound, extended_holds}
use Rattle.cyc_arena.proofs.plain.PlainStore.extend.Goals as goal

pub invariant_of-self : goal.invariant_of-self
invariant_of-self c =
    extended_sound (the_view c.self.inside) c.args.self.now c.self.view_is c.self.invariant c.args.number c.args.room c.requires.takes c.requires.eights
    c.requires.most c.requires.page

pub returns-clause-holds : goal.returns-clause-holds
returns-clause-holds c =
    extended_holds (the_view c.self.inside) c.args.self.now c.self.view_is c.self.invariant c.args.number c.args.room c.requires.takes c.requires.eights
    c.requires.most c.requires.page
