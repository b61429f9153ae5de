-- The source reads all cells of an object.
use Rattle.std.proofs.Common.{◌≡◌, ℕ, suc, List, [], ◌∷◌, length, Bool, true, false, Some, refl}
use Rattle.source_meaning.specs.Shapes.{Shape}
use Rattle.source_meaning.specs.Memory as source
use Rattle.source_meaning.specs.Memory.{Scalar, Spot, Holds, is_live, is_moved, any_moved}
use Rattle.source_meaning.specs.Steps as steps
use Rattle.source_meaning.specs.Steps.{World}
use Rattle.source_meaning.specs.Values.{read_cells, value_held}
use Rattle.core_meaning.specs.Core.{Program}
use Rattle.core_meaning.specs.Steps as core_steps
use Rattle.source_lowering.specs.Simulation.{AreCells, Same}
use Rattle.source_lowering.proofs.Runs.{stuck_same}

-- what the cells from a spot on hold
abbrev pub AllHeld : source.Memory → Spot → List Shape → List Scalar → Type 0
AllHeld m s [] [] = Unit {0}
AllHeld m s (x ∷ xs) (v ∷ vs) = (m.cells s ≡ Some (record { shape = x; content = Holds v })) × AllHeld m (source.beyond s 1) xs vs
AllHeld m s [] (v ∷ vs) = ⊥
AllHeld m s (x ∷ xs) [] = ⊥

-- and that their region is live, if there are any
abbrev pub IsLiveFor : source.Memory → Spot → List Shape → Type 0
IsLiveFor m s [] = Unit {0}
IsLiveFor m s (x ∷ xs) = (is_live m s.region ≡ true)

pub read_all : (w : World) (fs : Program) (n : ℕ) (xs : List Shape) (m : source.Memory) (t : Spot) (s : List Scalar → source.Memory → steps.Step)
    (k : core_steps.Step) → AreCells m t xs → ((vs : List Scalar) → AllHeld m t xs vs → IsLiveFor m t xs → Same w fs n (s vs m) k)
    → Same w fs n (read_cells (length xs) t s m) k
read_all w fs n [] m t s k cells go = go [] tt tt
read_all w fs n (x ∷ xs) m t s k cells go = by (is_live m t.region) refl
    (λ v live is. read_all w fs n xs m (source.beyond t 1) (λ vs. s (v ∷ vs)) k cells.1 (λ vs held rest. go (v ∷ vs) (is, held) live))
  where
    after : Scalar → source.Memory → steps.Step
    after v = read_cells (length xs) (source.beyond t 1) (λ vs. s (v ∷ vs))

    held : (is_live m t.region ≡ true) → (y : source.Content) → m.cells t ≡ Some (record { shape = x; content = y })
        → ((v : Scalar) → is_live m t.region ≡ true → m.cells t ≡ Some (record { shape = x; content = Holds v }) → Same w fs n (after v m) k)
        → Same w fs n (value_held y after m) k
    held live source.Blank is next = stuck_same w fs n k
    held live source.Gone is next = stuck_same w fs n k
    held live (source.Lent x) is next = stuck_same w fs n k
    held live (Holds v) is next = next v live is

    by : (b : Bool) → is_live m t.region ≡ b
        → ((v : Scalar) → is_live m t.region ≡ true → m.cells t ≡ Some (record { shape = x; content = Holds v }) → Same w fs n (after v m) k)
        → Same w fs n (read_cells (suc (length xs)) t s m) k
    by false e next = rw e (stuck_same w fs n k)
    by true e next = rw (e, cells.0.is) (held e cells.0.content cells.0.is next)
