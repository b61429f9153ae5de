-- Believed: how many bytes of stack a function's calls may take, said without a run.
use Rattle.std.specs.Prelude.{◌≡◌, ℕ, ◌+◌, ◌≤◌, Some, List, codes}
use Rattle.std.specs.List.{Contains}
use Rattle.cyc_tree.specs.Tree.{Program}
use Rattle.source_meaning.specs.Steps.{World, Routine}
use Rattle.source_meaning.specs.Calls.{function_of}
use Rattle.source_meaning.specs.Programs.{world_of}
use Rattle.source_meaning.specs.Callees.{items_callees}

-- A function fits so many bytes: its own frame, and beside it what each function that its body calls fits. `bound` says how many bytes a function's frame may
-- take. This is a finite tree, so a function from which a recursion is reached fits nothing.
pub data Fits (bound : List ℕ → ℕ) (w : World) : Routine → ℕ → Type 0 where
  Leaves : {f : Routine} {n : ℕ} (others : ℕ) → bound f.name + others ≤ n
      → ((name : List ℕ) (g : Routine) → Contains (items_callees f.body) name → function_of w.functions name ≡ Some g → Fits bound w g others)
      → Fits bound w f n

-- `main`, with which each run begins, fits
pub record ProgramFits (bound : List ℕ → ℕ) (p : Program) (n : ℕ) : Type 0 where
  pub main : Routine
  pub found : function_of (world_of p).functions (codes "main") ≡ Some main
  pub fits : Fits bound (world_of p) main n
