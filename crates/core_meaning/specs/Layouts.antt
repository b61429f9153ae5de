-- Believed: when the parts of a layout lie as they have to: each within the layout's bytes, at a multiple of its width, and no two of them meeting; when they
-- leave no byte out; and when they begin with nothing.
use Rattle.std.specs.Prelude.{◌≡◌, ℕ, ◌+◌, ◌%◌, ◌≤◌, ◌<◌, ◌⊎◌, ◌&&◌, false, nat_eq, List, [], ◌∷◌, Some, slice_get}
use Rattle.core_meaning.specs.Memory.{Content, Blank, Word, Null, Pointer, Birth, PartShape, Layout, shape_in}

-- two ranges of bytes, each given by its first byte and its width, don't overlap
abbrev pub Apart : ℕ → ℕ → ℕ → ℕ → Type 0
Apart at width at' width' = (at + width ≤ at') ⊎ (at' + width' ≤ at)

-- the layout's cell has this part
pub record HasPart (l : Layout) (cell part : ℕ) (shape : PartShape) : Type 0 where
  pub is : shape_in (slice_get l.cells cell) part ≡ Some shape

-- a byte, or a word at a multiple of 4; elements behind one another keep words at multiples of 4
abbrev pub IsEven : Layout → PartShape → Type 0
IsEven l s = (s.width ≡ 1) ⊎ ((s.width ≡ 4) × (s.offset % 4 ≡ 0) × (l.bytes % 4 ≡ 0))

pub record IsLayout (l : Layout) : Type 0 where
  pub within : (cell part : ℕ) (s : PartShape) → HasPart l cell part s → s.offset + s.width ≤ l.bytes
  pub even : (cell part : ℕ) (s : PartShape) → HasPart l cell part s → IsEven l s
  pub apart : (cell part cell' part' : ℕ) (s s' : PartShape) → (nat_eq cell cell' && nat_eq part part') ≡ false → HasPart l cell part s
      → HasPart l cell' part' s'
      → Apart s.offset s.width s'.offset s'.width

-- a byte of a layout lies in one of its parts
pub record LiesIn (l : Layout) (at : ℕ) : Type 0 where
  pub cell : ℕ
  pub part : ℕ
  pub shape : PartShape
  pub has : HasPart l cell part shape
  pub low : shape.offset ≤ at
  pub high : at < shape.offset + shape.width

-- each does
pub record IsFull (l : Layout) : Type 0 where
  pub full : (at : ℕ) → at < l.bytes → LiesIn l at

-- bytes of 0 show it
abbrev pub IsNothing : Content → Type 0
IsNothing (Word n) = n ≡ 0
IsNothing Null = Unit {0}
IsNothing Blank = Unit {0}
IsNothing (Pointer s b) = ⊥
IsNothing (Birth d) = ⊥

-- all parts begin with such
pub record IsZero (l : Layout) : Type 0 where
  pub nothing : (cell part : ℕ) (s : PartShape) → HasPart l cell part s → IsNothing s.first

-- one cell of one part, which fills it
abbrev pub one_part : ℕ → Content → Layout
one_part width first = record { cells = (record { offset = 0; width = width; first = first } ∷ []) ∷ []; bytes = width }

-- ---- adjacent parts

-- Bytes and words that lie one after the other without a gap, the first at an offset; where the last one ends.
abbrev pub AreJoined : ℕ → List PartShape → Type 0
AreJoined at [] = Unit {0}
AreJoined at (s ∷ ss) = (s.offset ≡ at) × ((s.width ≡ 1) ⊎ (s.width ≡ 4)) × AreJoined (at + s.width) ss

abbrev pub parts_end : ℕ → List PartShape → ℕ
parts_end at [] = at
parts_end at (s ∷ ss) = parts_end (at + s.width) ss

-- so the parts of all cells
abbrev pub AreCellsJoined : ℕ → List (List PartShape) → Type 0
AreCellsJoined at [] = Unit {0}
AreCellsJoined at (c ∷ cs) = AreJoined at c × AreCellsJoined (parts_end at c) cs

abbrev pub cells_end : ℕ → List (List PartShape) → ℕ
cells_end at [] = at
cells_end at (c ∷ cs) = cells_end (parts_end at c) cs
