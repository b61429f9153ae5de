use Rattle.std.proofs.Common.{drop, ◌≡◌}
use Rattle.cyc_tree.specs.View.{program_tree}
use Rattle.check_heads.specs.Bodies.{KnowsNames}
use Rattle.flow_summaries.specs.Statements.{fault_from}
use Rattle.source_typing.specs.Tables.{Tables}
use Rattle.check_faults.specs.Faults.{sooner_found}
use Rattle.flow_check.proofs.program.items_flow.Given as goal

-- what was found, and the earliest fault of the rest, is the earliest of all
abbrev pub invariant-each : goal.invariant-each
invariant-each l =
    (g : Tables) → KnowsNames l.names g
    → sooner_found l.found (fault_from g l.index (program_tree (drop l.item-index l.items)))
    ≡ fault_from g 0 (program_tree l.items)
