use Rattle.std.proofs.Common.{◌≡◌, ◌++◌, drop, map}
use Rattle.source_meaning.specs.Programs.{functions_of}
use Rattle.stack_needs.specs.Numbers.{numbers_among}
use Rattle.stack_needs.proofs.calls.numbers_among.Given as goal
use Rattle.tree_walk.specs.Listing.{name_of}

-- those so far and the rest are all
abbrev pub invariant-each : goal.invariant-each
invariant-each l =
    let fs = functions_of l.functions in
    l.found.items ++ numbers_among fs (map name_of (drop l.callee-index l.callees)) ≡ numbers_among fs (map name_of l.callees)
