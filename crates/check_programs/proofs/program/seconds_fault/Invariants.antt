use Rattle.std.proofs.Common.{◌∷◌, [], drop}
use Rattle.std.specs.Prelude.{codes}
use Rattle.cyc_tree.specs.View.{program_tree}
use Rattle.check_programs.specs.Programs.{SecondsLeft}
use Rattle.check_programs.proofs.program.seconds_fault.Given as goal

-- what was found, and the earliest fault of the rest, is the earliest of all
abbrev pub invariant-each : goal.invariant-each
invariant-each l =
    SecondsLeft (codes "getchar" ∷ codes "putchar" ∷ []) (program_tree l.items) l.found (program_tree (drop l.item-index l.items)) l.seen
