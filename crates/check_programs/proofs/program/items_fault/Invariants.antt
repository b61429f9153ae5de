use Rattle.std.proofs.Common.{◌≡◌, drop}
use Rattle.cyc_tree.specs.View.{program_tree}
use Rattle.check_heads.specs.Bodies.{KnowsNames}
use Rattle.source_typing.specs.Faults.{earliest}
use Rattle.source_typing.specs.Programs.{items_from}
use Rattle.source_typing.specs.Tables.{Tables}
use Rattle.check_faults.specs.Faults.{faults_of, first_of}
use Rattle.check_programs.proofs.program.items_fault.Given as goal

-- what was found, and the earliest fault of the rest, is the earliest of all
abbrev pub invariant-each : goal.invariant-each
invariant-each l =
    (g : Tables) → KnowsNames l.names g
    → first_of (faults_of l.found) (earliest (items_from l.lenient g l.index (program_tree (drop l.item-index l.items))))
    ≡ earliest (items_from l.lenient g 0 (program_tree l.items))
