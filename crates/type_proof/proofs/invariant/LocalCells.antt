-- How the cells of one local that can't be copied stand, by the state that the rules of flow have of it.
use Rattle.std.proofs.Common.{◌≡◌, false, Some, List, [], ◌∷◌, refl, ◌∙◌}
use Rattle.source_meaning.specs.Memory.{Spot, Scalar, Content, Memory, beyond}
use Rattle.source_meaning.specs.Memory as memory
use Rattle.source_meaning.specs.Values.{is_lent}
use Rattle.source_typing.specs.States.{State, Plain, Held, Gone, Lent, meet}
use Rattle.type_proof.proofs.invariant.Invariant.{RunType, Kept, Private, Ghost}
use Rattle.type_proof.proofs.invariant.Cells.{cell}
use Rattle.type_proof.proofs.invariant.Rights.{HeldAt, GoneAt}

-- ---- the cells of one local

-- no pointer reaches them
abbrev pub PrivateAt : Ghost → Spot → List RunType → Type 0
PrivateAt w s [] = Unit {0}
PrivateAt w s (t ∷ ts) = (w.types s ≡ Some (Private t)) × PrivateAt w (beyond s 1) ts

pub record Unlent (m : Memory) (s : Spot) (t : RunType) : Type 0 where
  pub content : Content
  pub there : m.cells s ≡ Some (cell t content)
  pub unlent : is_lent content ≡ false

-- and none of them is lent
abbrev pub FreeAt : Ghost → Memory → Spot → List RunType → Type 0
FreeAt w m s [] = Unit {0}
FreeAt w m s (t ∷ ts) = (w.types s ≡ Some (Private t)) × Unlent m s t × FreeAt w m (beyond s 1) ts

-- and each holds a value
pub record Whole (w : Ghost) (m : Memory) (s : Spot) (ts : List RunType) : Type 0 where
  pub values : List Scalar
  pub held : HeldAt w m s ts values

-- what is held may be gone, and what is gone may be lent: each says less than the one before
abbrev pub CellsStand : State → Ghost → Memory → Spot → List RunType → Type 0
CellsStand Plain w m s ts = ⊥
CellsStand Held w m s ts = Whole w m s ts
CellsStand Gone w m s ts = FreeAt w m s ts
CellsStand Lent w m s ts = PrivateAt w s ts

pub held_free : (w : Ghost) (m : Memory) (s : Spot) (ts : List RunType) (vs : List Scalar) → HeldAt w m s ts vs → FreeAt w m s ts
held_free w m s [] [] h = tt
held_free w m s (t ∷ ts) (v ∷ vs) h = (h.0, record { content = memory.Holds v; there = h.1; unlent = refl }, held_free w m (beyond s 1) ts vs h.2)
held_free w m s [] (v ∷ vs) h = absurd h
held_free w m s (t ∷ ts) [] h = absurd h

pub free_private : (w : Ghost) (m : Memory) (s : Spot) (ts : List RunType) → FreeAt w m s ts → PrivateAt w s ts
free_private w m s [] h = tt
free_private w m s (t ∷ ts) h = (h.0, free_private w m (beyond s 1) ts h.2)

pub gone_free : (w : Ghost) (m : Memory) (s : Spot) (ts : List RunType) → GoneAt w m s ts → FreeAt w m s ts
gone_free w m s [] h = tt
gone_free w m s (t ∷ ts) h = (h.0, record { content = Rattle.source_meaning.specs.Memory.Gone; there = h.1; unlent = refl }, gone_free w m (beyond s 1) ts h.2)

-- ---- where ways meet

-- from the first way
pub met_first : (a b : State) (w : Ghost) (m : Memory) (s : Spot) (ts : List RunType) → (b ≡ Plain → ⊥) → CellsStand a w m s ts → CellsStand (meet a b) w m s ts
met_first Plain b w m s ts n h = absurd h
met_first Lent b w m s ts n h = h
met_first Held Plain w m s ts n h = absurd (n refl)
met_first Held Held w m s ts n h = h
met_first Held Gone w m s ts n h = held_free w m s ts h.values h.held
met_first Held Lent w m s ts n h = free_private w m s ts (held_free w m s ts h.values h.held)
met_first Gone Plain w m s ts n h = h
met_first Gone Held w m s ts n h = h
met_first Gone Gone w m s ts n h = h
met_first Gone Lent w m s ts n h = free_private w m s ts h

-- from the second one
pub met_second : (a b : State) (w : Ghost) (m : Memory) (s : Spot) (ts : List RunType) → (a ≡ Plain → ⊥) → CellsStand b w m s ts
    → CellsStand (meet a b) w m s ts
met_second Plain b w m s ts n h = absurd (n refl)
met_second Lent Plain w m s ts n h = absurd h
met_second Lent Held w m s ts n h = free_private w m s ts (held_free w m s ts h.values h.held)
met_second Lent Gone w m s ts n h = free_private w m s ts h
met_second Lent Lent w m s ts n h = h
met_second Held b w m s ts n h = h
met_second Gone Plain w m s ts n h = absurd h
met_second Gone Held w m s ts n h = held_free w m s ts h.values h.held
met_second Gone Gone w m s ts n h = h
met_second Gone Lent w m s ts n h = h

-- ---- cells that are as they were

-- the types of cells, and the cells of this object, are as they were
pub record Same (w : Ghost) (m : Memory) (w' : Ghost) (m' : Memory) (s : Spot) : Type 0 where
  pub types : (y : Spot) (k : Kept) → w.types y ≡ Some k → w'.types y ≡ Some k
  pub cells : (y : Spot) (t : RunType) → y.region ≡ s.region → y.object ≡ s.object → w.types y ≡ Some (Private t) → m'.cells y ≡ m.cells y

same_next : (w : Ghost) (m : Memory) (w' : Ghost) (m' : Memory) (s : Spot) → Same w m w' m' s → Same w m w' m' (beyond s 1)
same_next w m w' m' s h = record { types = h.types; cells = λ y t e o p. h.cells y t e o p }

held_same : (w : Ghost) (m : Memory) (w' : Ghost) (m' : Memory) (s : Spot) (ts : List RunType) (vs : List Scalar) → Same w m w' m' s → HeldAt w m s ts vs
    → HeldAt w' m' s ts vs
held_same w m w' m' s [] [] k h = tt
held_same w m w' m' s (t ∷ ts) (v ∷ vs) k h = (
  k.types s (Private t) h.0,
  k.cells s t refl refl h.0
      ∙ h.1,
  held_same w m w' m' (beyond s 1) ts vs (same_next w m w' m' s k) h.2,
)
held_same w m w' m' s [] (v ∷ vs) k h = absurd h
held_same w m w' m' s (t ∷ ts) [] k h = absurd h

free_same : (w : Ghost) (m : Memory) (w' : Ghost) (m' : Memory) (s : Spot) (ts : List RunType) → Same w m w' m' s → FreeAt w m s ts → FreeAt w' m' s ts
free_same w m w' m' s [] k h = tt
free_same w m w' m' s (t ∷ ts) k h = (
  k.types s (Private t) h.0,
  record { content = h.1.content; there = k.cells s t refl refl h.0 ∙ h.1.there; unlent = h.1.unlent },
  free_same w m w' m' (beyond s 1) ts (same_next w m w' m' s k) h.2,
)

private_same : (w : Ghost) (m : Memory) (w' : Ghost) (m' : Memory) (s : Spot) (ts : List RunType) → Same w m w' m' s → PrivateAt w s ts → PrivateAt w' s ts
private_same w m w' m' s [] k h = tt
private_same w m w' m' s (t ∷ ts) k h = (k.types s (Private t) h.0, private_same w m w' m' (beyond s 1) ts (same_next w m w' m' s k) h.1)

pub cells_same : (a : State) (w : Ghost) (m : Memory) (w' : Ghost) (m' : Memory) (s : Spot) (ts : List RunType) → Same w m w' m' s → CellsStand a w m s ts
    → CellsStand a w' m' s ts
cells_same Plain w m w' m' s ts k h = h
cells_same Held w m w' m' s ts k h = record { values = h.values; held = held_same w m w' m' s ts h.values k h.held }
cells_same Gone w m w' m' s ts k h = free_same w m w' m' s ts k h
cells_same Lent w m w' m' s ts k h = private_same w m w' m' s ts k h
