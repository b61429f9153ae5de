-- Well-formed memories: each cell holds a value of its type, and each right is held once.
use Rattle.std.proofs.Common.{◌≡◌, ℕ, suc, ◌<◌, ◌≤◌, Bool, true, false, ◌⊎◌, Option, Some, None, List, [], ◌∷◌}
use Rattle.std.specs.Prelude.{slice_get, ◌*◌, length}
use Rattle.source_meaning.specs.Shapes.{count_of, may_be_null}
use Rattle.source_meaning.specs.Memory.{IntegerType, AsInt, AsUnsigned, AsChar, Region, Frame, Born, Spot, Span, Scalar, Integer, Thin, Wide, HandleOf, KeyOf}
use Rattle.source_meaning.specs.Memory.{Tagged, Content, Holds, Cell, State, Live, Closed, Dead, Memory, beyond, is_moved}
use Rattle.source_typing.specs.Types as types
use Rattle.source_typing.specs.Types.{TypeIn, Int, Unsigned, Char, Void, Null, Fat, Unique, Handle, Key, Struct, Union, shape_of}
use Rattle.type_proof.specs.Flat.{Tables, flat, union_parts}

-- a type of a run
abbrev pub RunType : Type 0
RunType = TypeIn Region

abbrev pub heap : Region
heap = Born 0

-- ---- what no run computes

-- Who has a region's right. No one needs it where the region is left with its scope; else a value that is on its way has it, or a loan, or a cell.
pub data Owner : Type 0 where
  Nobody : Owner
  Flying : (flight cell : ℕ) → Owner
  -- a cell of a function's result, while blocks are left
  Returned : (cell : ℕ) → Owner
  Pinned : (loan : ℕ) → Owner
  InCell : Spot → Owner
  Freed : Owner

-- a cell that a pointer may reach always holds a value; one that is a part of a noncopyable local may be without
pub data Kept : Type 0 where
  Reached : RunType → Kept
  Private : RunType → Kept

abbrev pub type_of : Kept → RunType
type_of (Reached t) = t
type_of (Private t) = t

pub record Ghost : Type 0 where
  -- each cell's type
  pub types : Spot → Option Kept
  -- which region outlives which
  pub above : Region → Region → Bool
  pub owner : Region → Owner
  -- the regions that keys open
  pub keyed : Region → Bool

-- ---- values

-- the cells from a spot on are of these types, and pointers may reach them
abbrev pub Laid : Ghost → Spot → List RunType → Type 0
Laid w s [] = Unit {0}
Laid w s (t ∷ ts) = (w.types s ≡ Some (Reached t)) × Laid w (beyond s 1) ts

-- the cells of so many elements, one after another
abbrev pub AllLaid : Ghost → Spot → ℕ → List RunType → Type 0
AllLaid w s count ts = (i : ℕ) → i < count → Laid w (beyond s (i * length ts)) ts

-- where a pointer points: all cells of its type are there, and their region outlives the pointer's
pub record Reaches (d : Tables) (w : Ghost) (at : Spot) (r : Region) (t : RunType) : Type 0 where
  pub typed : Laid w at (flat heap d t)
  pub above : w.above at.region r ≡ true

pub record IsInteger (v : Scalar) (t : IntegerType) : Type 0 where
  pub word : ℕ
  pub is : v ≡ Integer t word

pub record IsNull (allows : Bool) (v : Scalar) : Type 0 where
  pub allowed : allows ≡ true
  pub is : v ≡ Thin None

-- from a cell on so many elements lie in its object
abbrev pub ReachesOn : Tables → Ghost → ℕ → Spot → Region → RunType → Type 0
ReachesOn d w count at r t = (i : ℕ) → i < count → Reaches d w (beyond at (i * length (flat heap d t))) r t

-- a thin pointer leads to its object, and to so many elements from there on
pub record PointsTo (d : Tables) (w : Ghost) (count : ℕ) (v : Scalar) (r : Region) (t : RunType) : Type 0 where
  pub at : Spot
  pub is : v ≡ Thin (Some at)
  pub reaches : Reaches d w at r t
  pub elements : ReachesOn d w count at r t

-- each element of a fat pointer
pub record Spans (d : Tables) (w : Ghost) (v : Scalar) (r : Region) (t : RunType) : Type 0 where
  pub span : Span
  pub is : v ≡ Wide (Some span)
  pub reaches : (i : ℕ) → i < span.count → Reaches d w (beyond span.first (i * length (flat heap d t))) r t

-- a unique block is a region of one object, and its right is held by the pointer
pub record Owns (d : Tables) (w : Ghost) (by : Owner) (v : Scalar) (t : RunType) : Type 0 where
  pub block : ℕ
  pub is : v ≡ Thin (Some (record { region = Born block; object = 0; cell = 0 }))
  pub reaches : Reaches d w (record { region = Born block; object = 0; cell = 0 }) (Born block) t
  pub owner : w.owner (Born block) ≡ by
  pub unkeyed : w.keyed (Born block) ≡ false

pub record Opens (v : Scalar) (r : Region) : Type 0 where
  pub birth : ℕ
  pub is : v ≡ HandleOf birth
  pub region : r ≡ Born birth

pub record Locks (w : Ghost) (by : Owner) (v : Scalar) (r : Region) : Type 0 where
  pub birth : ℕ
  pub is : v ≡ KeyOf birth
  pub region : r ≡ Born birth
  pub owner : w.owner (Born birth) ≡ by
  pub keyed : w.keyed (Born birth) ≡ true

-- a value of one cell that is no union
abbrev pub HasPlain : Tables → Ghost → Owner → Scalar → RunType → Type 0
HasPlain d w by v Int = IsInteger v AsInt
HasPlain d w by v Unsigned = IsInteger v AsUnsigned
HasPlain d w by v Char = IsInteger v AsChar
HasPlain d w by v Void = ⊥
HasPlain d w by v Null = v ≡ Thin None
HasPlain d w by v (types.Thin n r t) = IsNull (may_be_null n) v ⊎ PointsTo d w (count_of n) v r t
HasPlain d w by v (Fat r t) = (v ≡ Wide None) ⊎ Spans d w v r t
HasPlain d w by v (Unique n t) = IsNull n v ⊎ Owns d w by v t
HasPlain d w by v (Handle r) = Opens v r
HasPlain d w by v (Key r) = Locks w by v r
HasPlain d w by v (Struct tag rs) = ⊥
HasPlain d w by v (Union tag rs) = ⊥

-- a union holds a copyable scalar
pub record Member (d : Tables) (w : Ghost) (v : Scalar) (tag : List ℕ) (rs : List Region) : Type 0 where
  pub position : ℕ
  pub type : RunType
  pub value : Scalar
  pub is : v ≡ Tagged position value
  pub part : slice_get (union_parts heap d.unions tag rs) position ≡ Some type
  pub copied : is_moved (shape_of type) ≡ false
  pub typed : HasPlain d w Nobody value type

-- a value of one cell is of a type, and the right that it may carry is held by `by`
abbrev pub HasType : Tables → Ghost → Owner → Scalar → RunType → Type 0
HasType d w by v (Union tag rs) = Member d w v tag rs
HasType d w by v Int = HasPlain d w by v Int
HasType d w by v Unsigned = HasPlain d w by v Unsigned
HasType d w by v Char = HasPlain d w by v Char
HasType d w by v Void = HasPlain d w by v Void
HasType d w by v Null = HasPlain d w by v Null
HasType d w by v (types.Thin n r t) = HasPlain d w by v (types.Thin n r t)
HasType d w by v (Fat r t) = HasPlain d w by v (Fat r t)
HasType d w by v (Unique n t) = HasPlain d w by v (Unique n t)
HasType d w by v (Handle r) = HasPlain d w by v (Handle r)
HasType d w by v (Key r) = HasPlain d w by v (Key r)
HasType d w by v (Struct tag rs) = HasPlain d w by v (Struct tag rs)

-- a value of several cells; the rights of the k-th cell are held by `by k`
abbrev pub HaveTypes : Tables → Ghost → (ℕ → Owner) → List Scalar → List RunType → Type 0
HaveTypes d w by [] [] = Unit {0}
HaveTypes d w by (v ∷ vs) (t ∷ ts) = HasType d w (by 0) v t × HaveTypes d w (λ k. by (suc k)) vs ts
HaveTypes d w by [] (t ∷ ts) = ⊥
HaveTypes d w by (v ∷ vs) [] = ⊥

-- ---- cells

pub record Full (c : Content) (P : Scalar → Type 0) : Type 0 where
  pub value : Scalar
  pub is : c ≡ Holds value
  pub typed : P value

-- what a cell holds is its own
abbrev pub ContentOk : Tables → Ghost → Spot → Content → Kept → Type 0
ContentOk d w s c (Reached t) = Full c (λ v. HasType d w (InCell s) v t)
ContentOk d w s c (Private t) = (v : Scalar) → c ≡ Holds v → HasType d w (InCell s) v t

pub record CellOk (d : Tables) (w : Ghost) (s : Spot) (o : Option Cell) (k : Kept) : Type 0 where
  pub content : Content
  pub is : o ≡ Some (record { shape = shape_of (type_of k); content = content })
  pub ok : ContentOk d w s content k

-- ---- regions

-- a region that others may rest on
pub data Steady : Owner → Type 0 where
  ByScope : Steady Nobody
  ByLoan : {i : ℕ} → Steady (Pinned i)

-- a region whose right is held and not lent: that of a key is closed, and a unique block is live
abbrev pub Resting : Bool → State → Type 0
Resting true state = state ≡ Closed
Resting false state = state ≡ Live

-- a region's state by its right
abbrev pub StateOk : Owner → Bool → State → Type 0
StateOk Nobody keyed state = state ≡ Closed → ⊥
StateOk (Flying i k) keyed state = Resting keyed state
StateOk (Returned k) keyed state = Resting keyed state
StateOk (InCell s) keyed state = Resting keyed state
StateOk (Pinned i) keyed state = state ≡ Live
StateOk Freed keyed state = state ≡ Dead

-- a region that was born
abbrev pub Counted : ℕ → ℕ → Region → Type 0
Counted activations births (Frame k) = k < activations
Counted activations births (Born k) = k < births

abbrev pub Known : Memory → Region → Type 0
Known m r = Counted m.activations m.births r

pub record Inv (d : Tables) (w : Ghost) (m : Memory) : Type 0 where
  pub cells : (s : Spot) (k : Kept) → w.types s ≡ Some k → CellOk d w s (m.cells s) k
  pub counted : (s : Spot) (k : Kept) → w.types s ≡ Some k → s.object < m.objects s.region
  pub states : (r : Region) → StateOk (w.owner r) (w.keyed r) (m.state r)
  -- what outlives a live region is live
  pub closed : (r q : Region) → m.state r ≡ Live → w.above q r ≡ true → m.state q ≡ Live
  -- what outlives another live region is steady
  pub rests : (r q : Region) → m.state r ≡ Live → w.above q r ≡ true → (q ≡ r → ⊥) → Steady (w.owner q)
  -- only itself and the heap outlive a region with a right
  pub sole : (r q : Region) → (w.owner r ≡ Nobody → ⊥) → w.above q r ≡ true → (q ≡ r → ⊥) → q ≡ heap
  pub itself : (r : Region) → Known m r → w.above r r ≡ true
  pub under_heap : (r : Region) → Known m r → w.above heap r ≡ true
  pub top : (q : Region) → w.above q heap ≡ true → q ≡ heap
  pub heap_lives : m.state heap ≡ Live
  pub heap_is_free : w.owner heap ≡ Nobody
  -- a block is left with its scope
  pub frames : (j : ℕ) → w.owner (Frame j) ≡ Nobody
  pub unborn : (r : Region) → (Known m r → ⊥) → m.state r ≡ Dead
  pub unowned : (r : Region) → (Known m r → ⊥) → w.owner r ≡ Nobody
  pub empty : (r : Region) → (Known m r → ⊥) → m.objects r ≡ 0
  pub born_upper : (q r : Region) → w.above q r ≡ true → Known m q
  pub born_lower : (q r : Region) → w.above q r ≡ true → Known m r
  pub along : (p q r : Region) → w.above p q ≡ true → w.above q r ≡ true → w.above p r ≡ true

-- ---- what later memories keep

-- where `flights` values are on their way or lent, and the function's blocks are the activations from `base` on
pub record Grows (flights base : ℕ) (w : Ghost) (m : Memory) (w' : Ghost) (m' : Memory) : Type 0 where
  pub types : (s : Spot) (k : Kept) → w.types s ≡ Some k → w'.types s ≡ Some k
  pub above : (q r : Region) → w.above q r ≡ true → w'.above q r ≡ true
  -- nothing new outlives a region that was there
  pub old : (q r : Region) → Known m r → w'.above q r ≡ true → w.above q r ≡ true
  pub known : (r : Region) → Known m r → Known m' r
  pub keyed : (r : Region) → Known m r → w'.keyed r ≡ w.keyed r
  pub scoped : (r : Region) → Known m r → w.owner r ≡ Nobody → w'.owner r ≡ Nobody
  pub nobody : (r : Region) → w'.owner r ≡ Nobody → w.owner r ≡ Nobody
  -- what is left with its scope is as it was
  pub state : (r : Region) → w'.owner r ≡ Nobody → m'.state r ≡ m.state r
  pub flying : (r : Region) (i c : ℕ) → i < flights → w.owner r ≡ Flying i c → w'.owner r ≡ Flying i c
  pub pinned : (r : Region) (i : ℕ) → i < flights → w.owner r ≡ Pinned i → w'.owner r ≡ Pinned i
  -- the callers' noncopyable locals are as they were
  pub kept : (s : Spot) (t : RunType) (j : ℕ) → s.region ≡ Frame j → j < base → w.types s ≡ Some (Private t) → m'.cells s ≡ m.cells s
  -- the cells of an object that is being made are touched by no one else
  pub bare : (s : Spot) → w.types s ≡ None → s.object < m.objects s.region → w'.types s ≡ None
  pub blank : (s : Spot) → w.types s ≡ None → s.object < m.objects s.region → m'.cells s ≡ m.cells s
  pub objects : (r : Region) → m.objects r ≤ m'.objects r
