use Rattle.cyc_arena.proofs.Extended.{IsRunning}
use Rattle.cyc_arena.proofs.plain.PlainStore.run.Given as goal

abbrev pub invariant-pages : goal.invariant-pages
invariant-pages l = IsRunning l.fn.self l.self l.fn.number l.fn.room l.left

abbrev pub decreases-pages : goal.decreases-pages
decreases-pages l = l.left
