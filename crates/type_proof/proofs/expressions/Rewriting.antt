-- Cells that hold a value before and after: the locals stand as they did.
use Rattle.std.proofs.Common.{◌≡◌, ◌⊎◌, inl, inr, Some, List, [], ◌∷◌, refl, ◌∙◌}
use Rattle.source_meaning.specs.Memory as memory
use Rattle.source_meaning.specs.Memory.{Region, Spot, Scalar, Memory, beyond}
use Rattle.source_meaning.specs.Steps.{Binding, Entity, Variable}
use Rattle.source_typing.specs.Scope.{Local}
use Rattle.source_typing.specs.States.{State, Plain, Held, Gone, Lent, States}
use Rattle.source_typing.specs.Tables as typing
use Rattle.source_typing.specs.Tables.{What, Stored, Arrayed, Counter, Unknown}
use Rattle.type_proof.specs.Flat.{Tables}
use Rattle.type_proof.proofs.invariant.Invariant.{RunType, Kept, Private, Ghost}
use Rattle.type_proof.proofs.invariant.Cells.{cell}
use Rattle.type_proof.proofs.invariant.Names.{NameOf}
use Rattle.type_proof.proofs.invariant.Rights.{HeldAt}
use Rattle.type_proof.proofs.invariant.LocalCells.{Unlent, Whole, FreeAt, PrivateAt, CellsStand}
use Rattle.type_proof.proofs.invariant.Standing.{LocalStands, AllStand}

pub record Rewritten (m m' : Memory) (y : Spot) (t : RunType) : Type 0 where
  pub before : Scalar
  pub after : Scalar
  pub had : m.cells y ≡ Some (cell t (memory.Holds before))
  pub has : m'.cells y ≡ Some (cell t (memory.Holds after))

pub record Rewrites (w : Ghost) (m : Memory) (w' : Ghost) (m' : Memory) : Type 0 where
  pub types : (y : Spot) (k : Kept) → w.types y ≡ Some k → w'.types y ≡ Some k
  pub cells : (y : Spot) (t : RunType) → w.types y ≡ Some (Private t) → (m'.cells y ≡ m.cells y) ⊎ Rewritten m m' y t

module _ (w : Ghost) (m : Memory) (w' : Ghost) (m' : Memory) (r : Rewrites w m w' m') where
  pub held_again : (s : Spot) (ts : List RunType) (vs : List Scalar) → HeldAt w m s ts vs → Whole w' m' s ts
  held_again s [] [] h = record { values = []; held = tt }
  held_again s (t ∷ ts) (v ∷ vs) h =
      let others : Whole w' m' (beyond s 1) ts = held_again (beyond s 1) ts vs h.2 in by others (r.cells s t h.0)
    where
      by : Whole w' m' (beyond s 1) ts → (m'.cells s ≡ m.cells s) ⊎ Rewritten m m' s t → Whole w' m' s (t ∷ ts)
      by others (inl e) = record { values = v ∷ others.values; held = (r.types s (Private t) h.0, e ∙ h.1, others.held) }
      by others (inr e) = record { values = e.after ∷ others.values; held = (r.types s (Private t) h.0, e.has, others.held) }
  held_again s [] (v ∷ vs) h = absurd h
  held_again s (t ∷ ts) [] h = absurd h

  free_again : (s : Spot) (ts : List RunType) → FreeAt w m s ts → FreeAt w' m' s ts
  free_again s [] h = tt
  free_again s (t ∷ ts) h = (r.types s (Private t) h.0, by (r.cells s t h.0), free_again (beyond s 1) ts h.2)
    where
      by : (m'.cells s ≡ m.cells s) ⊎ Rewritten m m' s t → Unlent m' s t
      by (inl e) = record { content = h.1.content; there = e ∙ h.1.there; unlent = h.1.unlent }
      by (inr e) = record { content = memory.Holds e.after; there = e.has; unlent = refl }

  private_again : (s : Spot) (ts : List RunType) → PrivateAt w s ts → PrivateAt w' s ts
  private_again s [] h = tt
  private_again s (t ∷ ts) h = (r.types s (Private t) h.0, private_again (beyond s 1) ts h.1)

  pub cells_again : (a : State) (s : Spot) (ts : List RunType) → CellsStand a w m s ts → CellsStand a w' m' s ts
  cells_again Plain s ts h = h
  cells_again Held s ts h = held_again s ts h.values h.held
  cells_again Gone s ts h = free_again s ts h
  cells_again Lent s ts h = private_again s ts h

  module _ (tables : typing.Tables) (d : Tables) (f : NameOf → Region) where
    local_again : (v : What) (e : Entity) (a : State) → LocalStands tables d f v e a w m
        → LocalStands tables d f v e a w' m'
    local_again (Stored t q) (Variable sh at) a h = λ c. cells_again a at _ (h c)
    local_again (Arrayed t q) e a h = tt
    local_again Counter e a h = tt
    local_again (Unknown sound) e a h = tt

    -- what stores values where values were leaves all locals in their states
    pub all_again : (ls : List Local) (bs : List Binding) (s : States) → AllStand tables d f ls bs s w m → AllStand tables d f ls bs s w' m'
    all_again [] [] [] h = tt
    all_again (l ∷ ls) (y ∷ bs) (a ∷ s) h = (local_again l.what y.entity a h.0, all_again ls bs s h.1)
    all_again [] [] (a ∷ s) h = absurd h
    all_again [] (y ∷ bs) s h = absurd h
    all_again (l ∷ ls) [] s h = absurd h
    all_again (l ∷ ls) (y ∷ bs) [] h = absurd h
