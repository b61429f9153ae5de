use Rattle.std.proofs.Common.{◌≡◌, drop}
use Rattle.cyc_tree.specs.View.{program_tree}
use Rattle.source_typing.specs.Programs.{main_found}
use Rattle.check_programs.proofs.program.main_found.Given as goal

-- none of the items so far is `main`
abbrev pub invariant-each : goal.invariant-each
invariant-each l = main_found (program_tree (drop l.item-index l.items)) ≡ main_found (program_tree l.items)
