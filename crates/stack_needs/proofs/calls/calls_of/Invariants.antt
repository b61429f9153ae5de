use Rattle.std.proofs.Common.{◌≡◌, ◌++◌, drop}
use Rattle.cyc_tree.specs.View.{program_tree}
use Rattle.source_meaning.specs.Programs.{functions_of}
use Rattle.stack_needs.specs.Graph.{rows_of}
use Rattle.stack_needs.specs.Numbers.{calls_among}
use Rattle.stack_needs.proofs.calls.calls_of.Given as goal

-- those so far and those of the rest are all
abbrev pub invariant-each : goal.invariant-each
invariant-each l =
    let fs = functions_of l.functions in
    rows_of l.calls.items ++ calls_among fs (functions_of (program_tree (drop l.item-index l.items)))
    ≡ calls_among fs (functions_of (program_tree l.items))
