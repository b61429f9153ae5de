-- Believed: what holds of all runs.
use Rattle.std.specs.Prelude.{◌≡◌, ℕ, ◌≤◌, List, []}
use Rattle.cyc_tree.specs.Tree.{Program}
use Rattle.cyc_words.specs.declared.faults.Kind.{Kind}
use Rattle.cyc_words.specs.Events.{SourceEnding}
use Rattle.step_trees.specs.Trees.{IsOver, IsBeginning, run}
use Rattle.source_meaning.specs.Memory.{Memory}
use Rattle.source_meaning.specs.Steps.{Flow, Step, SourceBodies, Act, raise, finally}
use Rattle.source_meaning.specs.Programs.{source}

-- more fuel changes no run that was over
abbrev pub StaysOver : Type 0
StaysOver = (p : Program) (input : List ℕ) (n m : ℕ) → n ≤ m → IsOver (source p input n).ending → source p input m ≡ source p input n

-- with more fuel, what was seen with less is seen first
abbrev pub OnlyGrows : Type 0
OnlyGrows = (p : Program) (input : List ℕ) (n m : ℕ) → n ≤ m → IsBeginning (source p input n) (source p input m)

-- a raise ends a run at once, without the exits of regions or anything else that was to come
abbrev pub EndsAtOnce : Type 0
EndsAtOnce =
    (kind : Kind) (exit : Act (Unit {0})) (next : Flow → Memory → Step) (m : Memory) (bodies : SourceBodies) (n : ℕ) (input : List ℕ) →
    run bodies n (finally (raise kind) exit next m) input ≡ record { events = []; ending = SourceEnding.Raised kind }
