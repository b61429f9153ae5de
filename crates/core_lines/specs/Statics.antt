-- Believed: the bytes of a program's data: globals and strings whose parts are words or bytes, in order. A pointer to one of them is its address.
use Rattle.std.specs.Prelude.{◌≡◌, ℕ, zero, suc, ◌+◌, ◌-◌, ◌*◌, ◌/◌, ◌%◌, ◌^◌, ◌<◌, List, [], ◌∷◌, ◌++◌, nat_eq, if◌then◌else◌, length}
use Rattle.rv32_machine.specs.State.{data_base}
use Rattle.core_meaning.specs.Memory.{Content, Blank, Word, Null, Pointer, Birth, Born, Spot, PartShape}
use Rattle.core_meaning.specs.Core.{Datum}
use Rattle.core_meaning.specs.Layouts.{HasPart, AreCellsJoined, cells_end}
use Rattle.core_lines.specs.Selected.{rounded, nth}

-- a number's byte, or its four bytes, the lowest first
abbrev pub number_bytes : ℕ → ℕ → List ℕ
number_bytes width n =
    (if nat_eq width 1 then n % 2 ^ 8 ∷ [] else n % 2 ^ 8 ∷ n / 2 ^ 8 % 2 ^ 8 ∷ n / 2 ^ 16 % 2 ^ 8 ∷ n / 2 ^ 24 % 2 ^ 8 ∷ [])

-- where an object of the data begins, by the offsets of all of them
abbrev pub address_of : List ℕ → Spot → ℕ
address_of offsets s = data_base + nth offsets s.object

-- what the bytes of a word, of NULL or of a pointer into the data say; what has no value may be anything, and so is 0
abbrev pub number_in : List ℕ → Content → ℕ
number_in offsets (Word n) = n
number_in offsets Blank = 0
number_in offsets Null = 0
number_in offsets (Pointer s b) = address_of offsets s + b
number_in offsets (Birth d) = 0

-- the bytes of parts, in order, where the first is its cell's j-th
abbrev pub parts_bytes : List ℕ → (ℕ → Content) → ℕ → List PartShape → List ℕ
parts_bytes offsets first j [] = []
parts_bytes offsets first j (s ∷ ss) = number_bytes s.width (number_in offsets (first j)) ++ parts_bytes offsets first (j + 1) ss

-- of cells, from the object's k-th on
abbrev pub cells_bytes : List ℕ → (ℕ → ℕ → Content) → ℕ → List (List PartShape) → List ℕ
cells_bytes offsets first k [] = []
cells_bytes offsets first k (c ∷ cs) = parts_bytes offsets (first k) 0 c ++ cells_bytes offsets first (k + 1) cs

-- of a number of elements, each with these cells
abbrev pub element_bytes : List ℕ → List (List PartShape) → (ℕ → ℕ → Content) → ℕ → ℕ → List ℕ
element_bytes offsets cells first k zero = []
element_bytes offsets cells first k (suc count) = cells_bytes offsets first k cells ++ element_bytes offsets cells first (k + length cells) count

abbrev pub datum_bytes : List ℕ → Datum → List ℕ
datum_bytes offsets d = element_bytes offsets d.layout.cells d.first 0 d.count

abbrev pub zeros : ℕ → List ℕ
zeros zero = []
zeros (suc n) = 0 ∷ zeros n

-- the data's bytes from an offset on: each object at a multiple of 4, behind the bytes of the one before it
abbrev pub data_bytes : List ℕ → ℕ → List Datum → List ℕ
data_bytes offsets low [] = []
data_bytes offsets low (d ∷ ds) =
    zeros (rounded low - low) ++ (datum_bytes offsets d ++ data_bytes offsets (rounded low + length (datum_bytes offsets d)) ds)

-- a pointer into the data, to an object that has a place, as a word
pub record IsPlaced (offsets : List ℕ) (width : ℕ) (s : Spot) (b : ℕ) : Type 0 where
  pub wide : width ≡ 4
  pub heap : s.region ≡ Born 0
  pub has : s.object < length offsets
  pub small : address_of offsets s + b < 2 ^ 32

-- a number that fits, nothing, or such a pointer
abbrev pub IsPlain : List ℕ → ℕ → Content → Type 0
IsPlain offsets width (Word n) = n < 2 ^ (8 * width)
IsPlain offsets width Blank = Unit {0}
IsPlain offsets width Null = Unit {0}
IsPlain offsets width (Pointer s b) = IsPlaced offsets width s b
IsPlain offsets width (Birth d) = ⊥

-- an object whose parts are all its bytes, in their order, and hold numbers that fit, nothing, or pointers into the data
pub record IsPlainDatum (offsets : List ℕ) (d : Datum) : Type 0 where
  pub joined : AreCellsJoined 0 d.layout.cells
  pub whole : cells_end 0 d.layout.cells ≡ d.layout.bytes
  pub plain : (cell part : ℕ) (s : PartShape) → HasPart d.layout (cell % length d.layout.cells) part s → IsPlain offsets s.width (d.first cell part)

abbrev pub ArePlainData : List ℕ → List Datum → Type 0
ArePlainData offsets [] = Unit {0}
ArePlainData offsets (d ∷ ds) = IsPlainDatum offsets d × ArePlainData offsets ds

-- the bytes from an address on are these
abbrev pub HasBytes : (ℕ → ℕ) → ℕ → List ℕ → Type 0
HasBytes bytes at [] = Unit {0}
HasBytes bytes at (b ∷ bs) = (bytes at ≡ b) × HasBytes bytes (at + 1) bs
