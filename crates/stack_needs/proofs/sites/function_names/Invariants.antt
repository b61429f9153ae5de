use Rattle.std.proofs.Common.{◌≡◌, ◌++◌, drop, map}
use Rattle.cyc_tree.specs.View.{program_tree}
use Rattle.source_meaning.specs.Programs.{functions_of}
use Rattle.stack_needs.proofs.sites.function_names.Given as goal

-- those so far and those of the rest are all
abbrev pub invariant-each : goal.invariant-each
invariant-each l =
    map (λ name. name.items) l.names.items ++ map (λ f. f.name) (functions_of (program_tree (drop l.item-index l.items)))
    ≡ map (λ f. f.name) (functions_of (program_tree l.items))
