-- A struct is copied over a place.
use Rattle.std.proofs.Common.{◌≡◌, ℕ, suc, List, [], ◌∷◌, length, true, false, refl, ap}
use Rattle.source_meaning.specs.Shapes.{Shape}
use Rattle.source_meaning.specs.Memory as source
use Rattle.source_meaning.specs.Memory.{Scalar, Spot, is_live}
use Rattle.source_meaning.specs.Steps as steps
use Rattle.source_meaning.specs.Steps.{World}
use Rattle.source_meaning.specs.Values.{write_cells}
use Rattle.core_meaning.specs.Memory as core
use Rattle.core_meaning.specs.Memory.{Pointer, Layout}
use Rattle.core_meaning.specs.Core.{Program, Copy}
use Rattle.core_meaning.specs.Steps as core_steps
use Rattle.core_meaning.specs.Steps.{Config, with_memory}
use Rattle.core_meaning.specs.Operations.{does, are_laid, same_object, copied}
use Rattle.source_lowering.specs.Simulation.{Same}
use Rattle.source_lowering.proofs.Runs.{stuck_same}
use Rattle.source_lowering.proofs.memory.Copying.{AllShown}

pub shown_count : (w : World) (m : source.Memory) (c : core.Memory) (t : core.Spot) (xs : List Shape) (vs : List Scalar) → AllShown w m c t xs vs
    → length vs ≡ length xs
shown_count w m c t [] [] h = refl
shown_count w m c t [] (v ∷ vs) h = absurd h
shown_count w m c t (x ∷ xs) [] h = absurd h
shown_count w m c t (x ∷ xs) (v ∷ vs) h = ap suc (shown_count w m c (core.beyond t 1) xs vs h.1)

-- nothing is written through a region that isn't live
pub dead_stuck : (w : World) (fs : Program) (n : ℕ) (x : Shape) (xs : List Shape) (vs : List Scalar) (m : source.Memory) (t : Spot)
    (s : Unit {0} → source.Memory → steps.Step) (k : core_steps.Step) → length vs ≡ suc (length xs) → is_live m t.region ≡ false
    → Same w fs n (write_cells t vs s m) k
dead_stuck w fs n x xs [] m t s k count dead = absurd (cc count)
dead_stuck w fs n x xs (v ∷ vs) m t s k count dead = rw dead (stuck_same w fs n k)

pub copy_over : (c : Config) (d e : ℕ) (t from : core.Spot) (byte : ℕ) (l : Layout) (next : Config → core_steps.Step) → c.temps d ≡ Pointer t byte
    → c.temps e ≡ Pointer from 0 → core.is_live (c.memory.standing t.region) ≡ true → core.is_live (c.memory.standing from.region) ≡ true
    → are_laid c.memory t byte l.cells ≡ true → are_laid c.memory from 0 l.cells ≡ true → same_object t from ≡ false
    → does (Copy d e l) next c ≡ next (with_memory (copied l t from c.memory) c)
copy_over c d e t from byte l next temp temp_from live live_from laid laid_from apart = rw (temp, temp_from, live, laid, live_from, laid_from, apart) refl
