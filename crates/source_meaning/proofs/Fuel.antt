-- More fuel changes nothing of a run that is over, and what was seen with less fuel is seen with more.
use Rattle.std.proofs.Common.{◌≡◌, ℕ, ◌≤◌, List}
use Rattle.cyc_tree.specs.Tree.{Program}
use Rattle.step_trees.specs.Trees.{IsOver, IsBeginning}
use Rattle.step_trees.proofs.Fuel.{run_stays, run_grows}
use Rattle.source_meaning.specs.Programs.{source, source_bodies, start}

pub stays_over : (p : Program) (input : List ℕ) (n m : ℕ) → n ≤ m → IsOver (source p input n).ending → source p input m ≡ source p input n
stays_over p input = run_stays source_bodies (start p) input

pub only_grows : (p : Program) (input : List ℕ) (n m : ℕ) → n ≤ m → IsBeginning (source p input n) (source p input m)
only_grows p input = run_grows source_bodies (start p) input
