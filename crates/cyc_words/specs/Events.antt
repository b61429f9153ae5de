-- Believed: what a run of a source, or of an image, shows to the world, and how it ends. Both meanings speak of these.
use Rattle.std.specs.Prelude.{ℕ, ◌<◌, List, [], ◌∷◌, Option, Some, None}
use Rattle.cyc_words.specs.declared.faults.Kind.{Kind}
use Rattle.cyc_words.specs.declared.faults.MachineFault.{MachineFault}

-- A visible event. Regions, keys and unique blocks are named by one count of births, from 1 on; the heap is 0.
pub data Event : Type 0 where
  -- `getchar`: the byte that was read, or the end of the input
  ByteRead : (byte : Option ℕ) → Event
  -- `putchar`: the byte that was written
  ByteWritten : (byte : ℕ) → Event
  -- a region is born
  RegionNew : (region : ℕ) → Event
  -- a block with a number of bytes in a region
  RegionAlloc : (region bytes : ℕ) → Event
  -- a region ends, with all its blocks
  RegionFree : (region : ℕ) → Event
  -- a unique block with a number of bytes is born
  UniqueAlloc : (block bytes : ℕ) → Event
  -- a unique block ends
  UniqueFree : (block : ℕ) → Event
  -- a dynamic region is born, closed, with its key
  KeyNew : (key : ℕ) → Event
  -- a dynamic region is opened
  KeyOpen : (key : ℕ) → Event
  -- and closed again
  KeyClose : (key : ℕ) → Event
  -- a dynamic region ends, with all its blocks
  KeyFree : (key : ℕ) → Event

-- An event of a source: a visible one, or a call of one of the program's own functions or its return. `name` is the function's.
pub data SourceEvent : Type 0 where
  Visible : (event : Event) → SourceEvent
  Called : (name : List ℕ) → SourceEvent
  Returned : (name : List ℕ) → SourceEvent

-- the visible ones of a source's events
abbrev pub visible : List SourceEvent → List Event
visible [] = []
visible (Visible e ∷ es) = e ∷ visible es
visible (Called f ∷ es) = visible es
visible (Returned f ∷ es) = visible es

-- the bytes that were written
abbrev pub output : List Event → List ℕ
output [] = []
output (ByteWritten b ∷ es) = b ∷ output es
output (ByteRead b ∷ es) = output es
output (RegionNew r ∷ es) = output es
output (RegionAlloc r n ∷ es) = output es
output (RegionFree r ∷ es) = output es
output (UniqueAlloc b n ∷ es) = output es
output (UniqueFree b ∷ es) = output es
output (KeyNew k ∷ es) = output es
output (KeyOpen k ∷ es) = output es
output (KeyClose k ∷ es) = output es
output (KeyFree k ∷ es) = output es

-- an input is of bytes
abbrev pub AreBytes : List ℕ → Type 0
AreBytes [] = Unit {0}
AreBytes (byte ∷ rest) = (byte < 256) × AreBytes rest

-- the bytes that were read
abbrev pub bytes_read : List Event → List ℕ
bytes_read [] = []
bytes_read (ByteRead (Some b) ∷ es) = b ∷ bytes_read es
bytes_read (ByteRead None ∷ es) = bytes_read es
bytes_read (ByteWritten b ∷ es) = bytes_read es
bytes_read (RegionNew r ∷ es) = bytes_read es
bytes_read (RegionAlloc r n ∷ es) = bytes_read es
bytes_read (RegionFree r ∷ es) = bytes_read es
bytes_read (UniqueAlloc b n ∷ es) = bytes_read es
bytes_read (UniqueFree b ∷ es) = bytes_read es
bytes_read (KeyNew k ∷ es) = bytes_read es
bytes_read (KeyOpen k ∷ es) = bytes_read es
bytes_read (KeyClose k ∷ es) = bytes_read es
bytes_read (KeyFree k ∷ es) = bytes_read es

-- How a source's run ends at an amount of fuel. A status is a word, read as a signed number.
pub data SourceEnding : Type 0 where
  Ended : (status : ℕ) → SourceEnding
  Raised : (kind : Kind) → SourceEnding
  -- the fuel is used up
  Running : SourceEnding
  -- it does what no rule gives a meaning
  Stuck : SourceEnding

-- What a run of an image asks of the store, which may refuse it.
pub data Request : Type 0 where
  NewRegion : Request
  BlockIn : (region bytes : ℕ) → Request
  UniqueBlock : (bytes : ℕ) → Request
  NewKey : Request

-- How a run of an image ends after a number of instructions.
pub data MachineEnding : Type 0 where
  Ended : (status : ℕ) → MachineEnding
  Raised : (kind : Kind) → MachineEnding
  -- the store refused this request
  Refused : (request : Request) → MachineEnding
  -- the stack has no room for a frame
  NoStack : MachineEnding
  -- the store lacked host memory
  Lacking : MachineEnding
  Fault : (fault : MachineFault) → MachineEnding
  -- it goes on
  Running : MachineEnding
