-- View of code: what a failed check raises, as the definition of code has it.
use Rattle.std.specs.Prelude.{ℕ, List, [], ◌∷◌}
use Rattle.core_lines.specs.Checks as lines
use Rattle.core_lines.specs.Held.{Holding}
use Rattle.core_lines.specs.Loaded.{unknown_in}
use Rattle.cyc_core.specs.declared.statement.Failure.{Failure}
use Rattle.cyc_core.specs.declared.statement.Failure.TheVariants as failure

abbrev pub failure_tree : Failure → lines.Failure
failure_tree (failure.Always kind) = lines.Always kind
failure_tree (failure.ByTest t first second) = lines.ByTest t.0 first second

-- how many labels are kept for its check, which places none
abbrev pub labels_kept : lines.Failure → ℕ
labels_kept (lines.Always kind) = 2
labels_kept (lines.ByTest t first second) = 4

-- what it loads, beside what its check tests
abbrev pub failure_loads : List Holding → Failure → List ℕ
failure_loads hs (failure.Always kind) = []
failure_loads hs (failure.ByTest t first second) = unknown_in hs (t.0 ∷ [])
