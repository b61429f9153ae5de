-- Believed: values, cells, and memory by regions.
use Rattle.std.specs.Prelude.{ℕ, ◌+◌, Bool, true, false, ◌&&◌, Option, Some, None, List, [], ◌∷◌, map, slice_get, nat_eq, nat_lt, ◌*◌, ◌%◌, length}
use Rattle.std.specs.Prelude.{if◌then◌else◌}
use Rattle.source_meaning.specs.Shapes.{Owner, Shared, Alone, Unsaid, Shape, IntShape, UnsignedShape, CharShape, MayBeNull, NeverNull, ThinShape, FatShape}
use Rattle.source_meaning.specs.Shapes.{HandleShape, KeyShape, UnionShape}

-- ---- values

pub data IntegerType : Type 0 where
  AsInt : IntegerType
  AsUnsigned : IntegerType
  AsChar : IntegerType

-- The region of an activation of a block, for its locals, or one that was born. Births are one count, and the heap is the first of them, 0.
pub data Region : Type 0 where
  Frame : ℕ → Region
  Born : ℕ → Region

-- one cell of an object of a region
pub record Spot : Type 0 where
  pub region : Region
  pub object : ℕ
  pub cell : ℕ

-- what a fat pointer has: the first element, the count of elements, and the index
pub record Span : Type 0 where
  pub first : Spot
  pub count : ℕ
  pub index : ℕ

-- the value of one cell
pub data Scalar : Type 0 where
  -- an integer of a type: its word
  Integer : IntegerType → ℕ → Scalar
  -- a thin pointer, which may be NULL
  Thin : Option Spot → Scalar
  -- a fat pointer, which may be NULL
  Wide : Option Span → Scalar
  -- a handle and a key: the number of the region's birth
  HandleOf : ℕ → Scalar
  KeyOf : ℕ → Scalar
  -- a tagged union: which member it holds, by its position, and the member's value
  Tagged : ℕ → Scalar → Scalar

-- ---- cells

pub data Content : Type 0 where
  Holds : Scalar → Content
  -- nothing was stored yet
  Blank : Content
  -- the value was moved away
  Gone : Content
  -- the value is lent to the end of a block, where the cell holds it again
  Lent : Scalar → Content

-- a typed cell
pub record Cell : Type 0 where
  pub shape : Shape
  pub content : Content

-- an object: its cells, from 0 on
abbrev pub Object : Type 0
Object = ℕ → Option Cell

-- an object of these cells
abbrev pub object_of : List Cell → Object
object_of cells = λ k. slice_get cells k

-- these cells, repeated `count` times
abbrev pub array_of : ℕ → List Cell → Object
array_of count cells = λ k. if nat_lt k (count * length cells) then slice_get cells (k % length cells) else None

-- ---- memory

pub data State : Type 0 where
  Live : State
  -- a dynamic region that isn't open
  Closed : State
  -- not born yet, or ended
  Dead : State

-- Memory: which regions are live, how many objects each has, and what each cell holds.
pub record Memory : Type 0 where
  -- how many activations of blocks there were
  pub activations : ℕ
  -- how many regions, keys and unique blocks were born, the heap among them
  pub births : ℕ
  pub state : Region → State
  -- how many objects each region has
  pub objects : Region → ℕ
  -- what each cell holds
  pub cells : Spot → Option Cell

-- two regions are the same by their kind and number
abbrev pub same_region : Region → Region → Bool
same_region (Frame j) (Frame k) = nat_eq j k
same_region (Born j) (Born k) = nat_eq j k
same_region (Frame j) (Born k) = false
same_region (Born j) (Frame k) = false

-- two spots are the same by region, object and cell
abbrev pub same_spot : Spot → Spot → Bool
same_spot s t = same_region s.region t.region && (nat_eq s.object t.object && nat_eq s.cell t.cell)

-- only a live region is read, written and allocated in
abbrev pub state_is_live : State → Bool
state_is_live Live = true
state_is_live Closed = false
state_is_live Dead = false

-- only a closed region is opened, or freed by its key
abbrev pub state_is_closed : State → Bool
state_is_closed Closed = true
state_is_closed Live = false
state_is_closed Dead = false

-- whether a region is live
abbrev pub is_live : Memory → Region → Bool
is_live m r = state_is_live (m.state r)

-- whether a region is closed
abbrev pub is_closed : Memory → Region → Bool
is_closed m r = state_is_closed (m.state r)

-- a cell is seen through its region, which has to be live
abbrev pub cell_at : Memory → Spot → Option Cell
cell_at m s = (if is_live m s.region then m.cells s else None)

-- a region in another state
abbrev pub with_state : Memory → Region → State → Memory
with_state m r state = record m { state = λ q. if same_region q r then state else m.state q }

-- a cell in place of the one at a spot
abbrev pub with_cell : Memory → Spot → Cell → Memory
with_cell m s c = record m { cells = λ t. if same_spot t s then Some c else m.cells t }

-- the spot of the next object of a region
abbrev pub next_spot : Memory → Region → Spot
next_spot m r = record { region = r; object = m.objects r; cell = 0 }

-- one more object of a region
abbrev pub with_object : Memory → Region → Object → Memory
with_object m r o = record m {
  objects = λ q. if same_region q r then m.objects r + 1 else m.objects q;
  cells = λ t. if same_region t.region r && nat_eq t.object (m.objects r) then o t.cell else m.cells t;
}

-- the spot n cells on
abbrev pub beyond : Spot → ℕ → Spot
beyond s n = record s { cell = s.cell + n }

-- ---- values and cells of a shape

abbrev pub is_alone : Owner → Bool
is_alone Alone = true
is_alone Shared = false
is_alone Unsaid = false

-- a unique pointer and a key can't be copied: reading one moves it
abbrev pub is_moved : Shape → Bool
is_moved (ThinShape bound owner to) = is_alone owner
is_moved KeyShape = true
is_moved s = false

-- a struct that has such a cell can't be copied either
abbrev pub any_moved : List Shape → Bool
any_moved [] = false
any_moved (s ∷ ss) = (if is_moved s then true else any_moved ss)

-- whether a value is of a cell's type, as far as that shows in the value
abbrev pub is_of : Shape → Scalar → Bool
is_of IntShape (Integer AsInt n) = true
is_of UnsignedShape (Integer AsUnsigned n) = true
is_of CharShape (Integer AsChar n) = true
is_of (ThinShape (MayBeNull count) owner to) (Thin p) = true
is_of (ThinShape (NeverNull count) owner to) (Thin (Some p)) = true
is_of (FatShape to) (Wide p) = true
is_of HandleShape (HandleOf r) = true
is_of KeyShape (KeyOf r) = true
is_of (UnionShape tag) (Tagged k v) = true
is_of s v = false

-- without an initializer an integer begins as 0, and a nullable or fat pointer as NULL; nothing else has a beginning
abbrev pub first_content : Shape → Content
first_content IntShape = Holds (Integer AsInt 0)
first_content UnsignedShape = Holds (Integer AsUnsigned 0)
first_content CharShape = Holds (Integer AsChar 0)
first_content (ThinShape (MayBeNull count) owner to) = Holds (Thin None)
first_content (FatShape to) = Holds (Wide None)
first_content s = Blank

-- a cell as it begins
abbrev pub first_cell : Shape → Cell
first_cell s = record { shape = s; content = first_content s }

-- a cell to which nothing was stored yet
abbrev pub blank_cell : Shape → Cell
blank_cell s = record { shape = s; content = Blank }

-- an object of these cells, to which nothing was stored yet
abbrev pub blank_object : List Shape → Object
blank_object shapes = object_of (map blank_cell shapes)
