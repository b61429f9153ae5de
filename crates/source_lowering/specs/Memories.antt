-- View of two runs side by side: the relation between a source's memory and Core's, and how both grow.
use Rattle.std.proofs.Common.{◌≡◌, ℕ, suc, ◌+◌, ◌*◌, ◌^◌, ◌<◌, ◌≤◌, ◌⊎◌, List, [], ◌∷◌, length, true, Option, Some, None}
use Rattle.std.specs.Prelude.{slice_get}
use Rattle.source_meaning.specs.Shapes.{
  Owner,
  Shared,
  Alone,
  Unsaid,
  Shape,
  IntShape,
  UnsignedShape,
  CharShape,
  VoidShape,
  ThinShape,
  FatShape,
  HandleShape,
  KeyShape,
}
use Rattle.source_meaning.specs.Shapes.{Reach, count_of, may_be_null, StructShape, UnionShape, ArrayShape, part_shapes, parts_of}
use Rattle.source_meaning.specs.Memory as source
use Rattle.source_meaning.specs.Memory.{
  IntegerType,
  AsInt,
  AsUnsigned,
  AsChar,
  Scalar,
  Integer,
  Thin,
  Wide,
  Tagged,
  HandleOf,
  KeyOf,
  Spot,
  Span,
  Holds,
  state_is_live,
  state_is_closed,
}
use Rattle.source_meaning.specs.Steps.{World}
use Rattle.source_meaning.specs.Conversions.{cells_of, size_of}
use Rattle.core_meaning.specs.Memory as core
use Rattle.core_meaning.specs.Memory.{Content, Word, Null, Pointer, Birth, Part}
use Rattle.source_lowering.specs.Layouts.{layout_of}
use Rattle.source_lowering.specs.Lowerable.{IsObject}
use Rattle.source_lowering.specs.ObjectCells.{HasCells}
use Rattle.source_lowering.specs.Kinds.{IsSingle, StaysAs}

-- ---- contents

-- the first of these, or else this one
abbrev pub first_in : Content → List Content → Content
first_in x [] = x
first_in x (y ∷ ys) = y

-- ---- spots are equal, number for number

abbrev pub region_at : source.Region → core.Region
region_at (source.Frame k) = core.Frame k
region_at (source.Born d) = core.Born d

abbrev pub at : Spot → core.Spot
at s = record { region = region_at s.region; object = s.object; cell = s.cell }

-- ---- layouts: facts that no step ends

-- a source's cell has this shape; what it holds doesn't matter
pub record HasShape (m : source.Memory) (s : Spot) (shape : Shape) : Type 0 where
  pub content : source.Content
  pub is : m.cells s ≡ Some (record { shape = shape; content = content })

-- a part has this offset and width in bytes; what it holds doesn't matter
pub record PartIs (c : core.Memory) (t : core.Spot) (j offset width : ℕ) : Type 0 where
  pub content : Content
  pub is : c.parts t j ≡ Some (record { offset = offset; width = width; content = content })

-- the parts of a cell, from one on, lie as a layout has them, from a byte on
abbrev pub AreShaped : core.Memory → core.Spot → ℕ → ℕ → List core.PartShape → Type 0
AreShaped c t byte j [] = Unit {0}
AreShaped c t byte j (x ∷ xs) = PartIs c t j (byte + x.offset) x.width × AreShaped c t byte (suc j) xs

-- so do the cells from a spot on
abbrev pub AreMade : core.Memory → core.Spot → ℕ → List (List core.PartShape) → Type 0
AreMade c t byte [] = Unit {0}
AreMade c t byte (x ∷ xs) = AreShaped c t byte 0 x × AreMade c (core.beyond t 1) byte xs

-- the source's cells from a spot on have these shapes
abbrev pub AreCells : source.Memory → Spot → List Shape → Type 0
AreCells m s [] = Unit {0}
AreCells m s (x ∷ xs) = HasShape m s x × AreCells m (source.beyond s 1) xs

-- from a spot and a byte on there is an object of the shape
abbrev pub Leads : World → source.Memory → core.Memory → Shape → Spot → ℕ → Type 0
Leads w m c shape s byte = AreCells m s (cells_of w shape) × AreMade c (at s) byte (layout_of w shape).cells

-- there are `count` of them, one after the other
abbrev pub LeadsAll : World → source.Memory → core.Memory → Shape → ℕ → Spot → ℕ → Type 0
LeadsAll w m c of count s byte = (k : ℕ) → k < count → Leads w m c of (source.beyond s (k * length (cells_of w of))) (byte + k * size_of w of)

-- a variable's: an array's elements, or one object
abbrev pub VariableLeads : World → source.Memory → core.Memory → Shape → Spot → Type 0
VariableLeads w m c (ArrayShape count of) s = LeadsAll w m c of count s 0
VariableLeads w m c shape s = Leads w m c shape s 0

-- an object as Core has made it; an array has `count` elements
abbrev pub LocalMade : World → core.Memory → core.Region → ℕ → Shape → Type 0
LocalMade w c r index (ArrayShape count of) = (k : ℕ) → k < count
    → AreMade c (record { region = r; object = index; cell = k * length (layout_of w of).cells }) (k * size_of w of) (layout_of w of).cells
LocalMade w c r index s = AreMade c (record { region = r; object = index; cell = 0 }) 0 (layout_of w s).cells

-- the objects of a region, from a number on, as Core has made them: those of a block that the source makes later, and a function's temporary objects
abbrev pub ArePending : World → core.Memory → core.Region → ℕ → List Shape → Type 0
ArePending w c r index [] = Unit {0}
ArePending w c r index (s ∷ ss) = LocalMade w c r index s × ArePending w c r (suc index) ss

-- ---- values: a scalar of a static shape, and the words that stand for it

pub record AnInteger (t : IntegerType) (below : ℕ) (v : Scalar) (cs : List Content) : Type 0 where
  pub word : ℕ
  pub value : v ≡ Integer t word
  pub shown : cs ≡ Word word ∷ []
  pub small : word < below

pub record ANull (bound : Reach) (v : Scalar) (cs : List Content) : Type 0 where
  pub allowed : may_be_null bound ≡ true
  pub value : v ≡ Thin None
  pub shown : cs ≡ Null ∷ []

-- an object of a shape that is taken
pub record IsTakenObject (w : World) (shape : Shape) : Type 0 where
  pub object : IsObject w.unions w.structs shape
  pub cells : HasCells w.unions w.structs shape

-- where a unique block begins, which may have been freed
pub record IsBlock (c : core.Memory) (s : Spot) (byte : ℕ) : Type 0 where
  pub birth : ℕ
  pub first : s ≡ record { region = source.Born birth; object = 0; cell = 0 }
  pub start : byte ≡ 0
  pub born : birth < c.births
  pub single : IsSingle (c.standing (core.Born birth))

-- a unique pointer leads to the beginning of a unique block
abbrev pub IsOwned : Owner → core.Memory → Spot → ℕ → Type 0
IsOwned Alone c s byte = IsBlock c s byte
IsOwned Shared c s byte = Unit {0}
IsOwned Unsaid c s byte = Unit {0}

-- a thin pointer leads to its object, and to `count` elements from there on
pub record APointer (w : World) (m : source.Memory) (c : core.Memory) (count : ℕ) (owner : Owner) (to : Shape) (v : Scalar) (cs : List Content) : Type 0 where
  pub spot : Spot
  pub byte : ℕ
  pub value : v ≡ Thin (Some spot)
  pub shown : cs ≡ Pointer (at spot) byte ∷ []
  pub lies : IsTakenObject w to
  pub leads : Leads w m c to spot byte
  pub few : count < 2 ^ 32
  pub elements : LeadsAll w m c to count spot byte
  pub owned : IsOwned owner c spot byte

-- NULL has the count 0, and any index
pub record AFatNull (v : Scalar) (cs : List Content) : Type 0 where
  pub word : ℕ
  pub value : v ≡ Wide None
  pub shown : cs ≡ Null ∷ Word 0 ∷ Word word ∷ []
  pub small : word < 2 ^ 32

pub record AFat (w : World) (m : source.Memory) (c : core.Memory) (to : Shape) (size : ℕ) (v : Scalar) (cs : List Content) : Type 0 where
  pub span : Span
  pub byte : ℕ
  pub value : v ≡ Wide (Some span)
  pub shown : cs ≡ Pointer (at span.first) byte ∷ Word span.count ∷ Word span.index ∷ []
  pub small : span.index < 2 ^ 32
  pub few : span.count < 2 ^ 32
  pub lies : IsTakenObject w to
  pub leads : (k : ℕ) → k < span.count → Leads w m c to (source.beyond span.first (k * length (cells_of w to))) (byte + k * size)

pub record ABirth (which : ℕ → Scalar) (v : Scalar) (cs : List Content) : Type 0 where
  pub birth : ℕ
  pub value : v ≡ which birth
  pub shown : cs ≡ Birth birth ∷ []

-- what a union holds
abbrev pub ShownMember : World → source.Memory → core.Memory → Shape → Scalar → List Content → Type 0
ShownMember w m c IntShape v cs = AnInteger AsInt (2 ^ 32) v cs
ShownMember w m c UnsignedShape v cs = AnInteger AsUnsigned (2 ^ 32) v cs
ShownMember w m c CharShape v cs = AnInteger AsChar 256 v cs
ShownMember w m c VoidShape v cs = ⊥
ShownMember w m c (ThinShape bound owner to) v cs = ANull bound v cs ⊎ APointer w m c (count_of bound) owner to v cs
ShownMember w m c (FatShape to) v cs = AFatNull v cs ⊎ AFat w m c to (size_of w to) v cs
ShownMember w m c HandleShape v cs = ABirth HandleOf v cs
ShownMember w m c KeyShape v cs = ABirth KeyOf v cs
ShownMember w m c (StructShape tag) v cs = ⊥
ShownMember w m c (UnionShape tag) v cs = ⊥
ShownMember w m c (ArrayShape count of) v cs = ⊥

-- a union's value: its tag, the words of the member that it holds, and behind them words with any content
pub record AUnion (w : World) (m : source.Memory) (c : core.Memory) (tag : List ℕ) (v : Scalar) (cs : List Content) : Type 0 where
  pub number : ℕ
  pub shape : Shape
  pub held : Scalar
  pub words : List Content
  pub value : v ≡ Tagged number held
  pub known : slice_get (part_shapes (parts_of w.unions tag)) number ≡ Some shape
  pub member : ShownMember w m c shape held words
  pub shown : cs ≡ Word number ∷ words

abbrev pub Shown : World → source.Memory → core.Memory → Shape → Scalar → List Content → Type 0
Shown w m c (UnionShape tag) v cs = AUnion w m c tag v cs
Shown w m c s v cs = ShownMember w m c s v cs

-- ---- memories agree

-- parts, from one on, hold contents
abbrev pub HoldsFrom : (ℕ → Option Part) → ℕ → List Content → Type 0
HoldsFrom parts j [] = Unit {0}
HoldsFrom parts j (x ∷ xs) = ((p : Part) × ((parts j ≡ Some p) × (p.content ≡ x))) × HoldsFrom parts (suc j) xs

-- those of a cell
abbrev pub PartsHold : core.Memory → core.Spot → ℕ → List Content → Type 0
PartsHold c t j xs = HoldsFrom (c.parts t) j xs

pub record IsShown (w : World) (m : source.Memory) (c : core.Memory) (s : Spot) (shape : Shape) (v : Scalar) : Type 0 where
  pub contents : List Content
  pub shown : Shown w m c shape v contents
  pub held : PartsHold c (at s) 0 contents

-- the value that a cell keeps: what it holds, or what it held when it was lent
abbrev pub kept_in : source.Content → Option Scalar
kept_in (Holds v) = Some v
kept_in source.Blank = None
kept_in source.Gone = None
kept_in (source.Lent v) = Some v

-- Cells agree with parts where they keep a value; Blank and Gone are free.
pub record SameMemory (w : World) (m : source.Memory) (c : core.Memory) : Type 0 where
  pub cells : (s : Spot) (shape : Shape) (x : source.Content) (v : Scalar) → kept_in x ≡ Some v → m.cells s ≡ Some (record { shape = shape; content = x })
      → IsShown w m c s shape v
  pub live : (r : source.Region) → state_is_live (m.state r) ≡ core.is_live (c.standing (region_at r))
  pub activations : m.activations ≡ c.activations
  -- what wasn't made yet has no cells and no parts: the numbers are fresh
  pub unmade : (s : Spot) → m.objects s.region ≤ s.object → m.cells s ≡ None
  pub unentered : (k : ℕ) (t : core.Spot) (j : ℕ) → c.activations ≤ k → t.region ≡ core.Frame k → c.parts t j ≡ None
  pub unbegun : (k : ℕ) → m.activations ≤ k → (m.objects (source.Frame k) ≡ 0) × (c.objects (core.Frame k) ≡ 0)
  pub uncalled : (k : ℕ) (t : core.Spot) (j : ℕ) → c.calls ≤ k → t.region ≡ core.Own k → c.parts t j ≡ None
  pub unowned : (k : ℕ) → c.calls ≤ k → c.objects (core.Own k) ≡ 0
  -- regions are born in both at once, the heap first, and have as many objects
  pub births : m.births ≡ c.births
  pub heap : 0 < m.births
  pub closed : (r : source.Region) → state_is_closed (m.state r) ≡ core.is_closed (c.standing (region_at r))
  pub blocks : (d : ℕ) → m.objects (source.Born d) ≡ c.objects (core.Born d)
  pub unborn : (d : ℕ) → m.births ≤ d → (m.objects (source.Born d) ≡ 0) × (m.state (source.Born d) ≡ source.Dead)
  pub ungranted : (d : ℕ) (t : core.Spot) (j : ℕ) → t.region ≡ core.Born d → c.objects (core.Born d) ≤ t.object → c.parts t j ≡ None

-- What stays as it was: how many locals the blocks before one have, how the functions' own regions before one stand, and what the own regions before one hold,
-- and how many values of that one.
pub record Bound : Type 0 where
  pub frames : ℕ
  pub standing : ℕ
  pub own : ℕ
  pub values : ℕ

abbrev pub nothing : Bound
nothing = record { frames = 0; standing = 0; own = 0; values = 0 }

-- a value of an own region stays as it was
abbrev pub IsKept : Bound → (own value : ℕ) → Type 0
IsKept b k i = (k ≤ b.own) × (k ≡ b.own → i < b.values)

-- what is no such value
abbrev pub IsFree : Bound → core.Spot → Type 0
IsFree b t = (k : ℕ) → t.region ≡ core.Own k → IsKept b k t.object → ⊥

-- Grown memories have the layouts of earlier ones, and this much stays as it was.
pub record Grown (b : Bound) (m : source.Memory) (c : core.Memory) (m' : source.Memory) (c' : core.Memory) : Type 0 where
  pub shapes : (s : Spot) (shape : Shape) → HasShape m s shape → HasShape m' s shape
  -- what is lent stays so
  pub lent : (s : Spot) (shape : Shape) (v : Scalar) → m.cells s ≡ Some (record { shape = shape; content = source.Lent v })
      → m'.cells s ≡ Some (record { shape = shape; content = source.Lent v })
  pub parts : (t : core.Spot) (j offset width : ℕ) → PartIs c t j offset width → PartIs c' t j offset width
  pub objects : (k : ℕ) → k < b.frames → m'.objects (source.Frame k) ≡ m.objects (source.Frame k)
  pub begun : m.activations ≤ m'.activations
  pub called : c.calls ≤ c'.calls
  pub births : c.births ≤ c'.births
  pub stays : (d : ℕ) → d < c.births → StaysAs (c.standing (core.Born d)) (c'.standing (core.Born d))
  pub stands : (k : ℕ) → k < b.standing → c'.standing (core.Own k) ≡ c.standing (core.Own k)
  pub owned : (k : ℕ) (t : core.Spot) (j : ℕ) → t.region ≡ core.Own k → IsKept b k t.object → c'.parts t j ≡ c.parts t j
