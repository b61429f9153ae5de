-- Believed: how a memory lies in a machine: where each thing that holds something stands, and what its bytes show.
use Rattle.std.specs.Prelude.{◌≡◌, ℕ, zero, suc, ◌+◌, ◌*◌, ◌%◌, ◌^◌, ◌≤◌, ◌<◌, ◌⊎◌, ◌&&◌, Bool, true, false, nat_eq, if◌then◌else◌, Option, Some, None, List}
use Rattle.std.specs.Prelude.{[], ◌∷◌}
use Rattle.arena_laws.specs.Holdings.{arena_base, is_some}
use Rattle.arena_laws.specs.Blocks.{Block}
use Rattle.arena_laws.specs.declared.owner.Owner.{Owner}
use Rattle.arena_laws.specs.declared.owner.Owner.TheVariants as owner
use Rattle.arena_laws.specs.declared.standing.Standing.{Standing as Tag}
use Rattle.arena_laws.specs.declared.standing.Standing.TheVariants as tag
use Rattle.rv32_machine.specs.State.{Areas, data_base, stack_base, stack_end, word_at}
use Rattle.rv32_machine.specs.Ledger.{Ledger}
use Rattle.core_meaning.specs.Memory.{
  Region,
  Frame,
  Own,
  Born,
  Standing,
  Live,
  Opened,
  Single,
  Closed,
  Dead,
  Spot,
  Content,
  Blank,
  Word,
  Null,
  Pointer,
  Birth,
  Part,
  Memory,
  same_spot,
}
use Rattle.core_meaning.specs.Layouts.{Apart}
use Rattle.core_meaning.specs.Operations.{too_far}
use Rattle.core_lines.specs.Machines.{Store}
use Rattle.core_lines.specs.Homes.{is_home}

-- ---- maps

-- the address of each object that ever was, and the number of each region and key that was born
pub record Maps : Type 0 where
  pub base : Region → ℕ → Option ℕ
  pub number : ℕ → Option ℕ

pub record Extends (m n : Maps) : Type 0 where
  pub base : (r : Region) (o x : ℕ) → m.base r o ≡ Some x → n.base r o ≡ Some x
  pub number : (d h : ℕ) → m.number d ≡ Some h → n.number d ≡ Some h

-- ---- what bytes show

pub record Points (m : Maps) (s : Spot) (b x : ℕ) : Type 0 where
  pub base : ℕ
  pub known : m.base s.region s.object ≡ Some base
  pub at : x ≡ base + b
  pub positive : 0 < x

abbrev pub Shows : Maps → Content → ℕ → Type 0
Shows m Blank x = Unit {0}
Shows m (Word n) x = x ≡ n
Shows m Null x = x ≡ 0
Shows m (Pointer s b) x = Points m s b x
Shows m (Birth d) x = m.number d ≡ Some x

-- a byte, or a word
abbrev pub read : (ℕ → ℕ) → ℕ → ℕ → ℕ
read bytes at width = (if nat_eq width 1 then bytes at else word_at bytes at)

-- ---- frames

-- the bytes of a frame that a block's locals have, counted from the frame's first on
pub record Zone : Type 0 where
  pub region : ℕ
  pub low : ℕ
  pub high : ℕ

-- An activation's frame: its function, where its bytes are, what its slots hold, where its temporary objects end, the zones of the blocks that it is in, the
-- innermost first, and its number. The slots come first, then the temporary objects, then the zones, each behind that of the block around it. Some of its
-- locals are in registers: `homes` has them by block and number. It has saved some of its caller's registers, and `callers` has their words at the call.
pub record Activation : Type 0 where
  pub function : ℕ
  pub at : ℕ
  pub bytes : ℕ
  pub size : ℕ
  pub slots : ℕ → Content
  pub own_high : ℕ
  pub zones : List Zone
  pub own : ℕ
  pub homes : ℕ → ℕ → Option ℕ
  pub saves : ℕ → Bool
  pub callers : ℕ → ℕ

-- ---- names: all that holds something

pub data Name : Type 0 where
  -- slot k of a frame, the innermost first
  Slot : (frame k : ℕ) → Name
  -- a part of a cell
  Cell : Spot → ℕ → Name

abbrev pub same_name : Name → Name → Bool
same_name (Slot f k) (Slot g j) = nat_eq f g && nat_eq k j
same_name (Slot f k) (Cell s j) = false
same_name (Cell s j) (Slot f k) = false
same_name (Cell s i) (Cell t j) = same_spot s t && nat_eq i j

pub record SlotLies (a : Activation) (k at width : ℕ) (v : Content) : Type 0 where
  pub within : k < a.size
  pub there : at ≡ a.at + 4 * k
  pub wide : width ≡ 4
  pub value : a.slots k ≡ v

abbrev pub SlotsLie : List Activation → ℕ → ℕ → ℕ → ℕ → Content → Type 0
SlotsLie [] f k at width v = ⊥
SlotsLie (a ∷ fs) zero k at width v = SlotLies a k at width v
SlotsLie (a ∷ fs) (suc f) k at width v = SlotsLie fs f k at width v

-- a part of a region that isn't dead
pub record PartLies (m : Maps) (mem : Memory) (s : Spot) (j at width : ℕ) (v : Content) : Type 0 where
  pub base : ℕ
  pub offset : ℕ
  pub known : m.base s.region s.object ≡ Some base
  pub there : at ≡ base + offset
  pub has : mem.parts s j ≡ Some (record { offset = offset; width = width; content = v })
  pub lasts : mem.standing s.region ≡ Dead → ⊥

abbrev pub Lies : Maps → List Activation → Memory → Name → ℕ → ℕ → Content → Type 0
Lies m fs mem (Slot f k) at width v = SlotsLie fs f k at width v
Lies m fs mem (Cell s j) at width v = PartLies m mem s j at width v

-- ---- where names may stand

abbrev pub Among : {A : Type 0} → A → List A → Type 0
Among x [] = ⊥
Among x (y ∷ ys) = (x ≡ y) ⊎ Among x ys

-- in a frame, and so at or above x2
pub record InFrame (fs : List Activation) (a : Activation) (at width : ℕ) : Type 0 where
  pub among : Among a fs
  pub low : a.at ≤ at
  pub high : at + width ≤ a.at + a.bytes

-- in the zone of a block's activation, or among the temporary objects of a function's
pub record InBlockOf (fs : List Activation) (k at width : ℕ) : Type 0 where
  pub frame : Activation
  pub inside : InFrame fs frame at width
  pub zone : Zone
  pub among : Among zone frame.zones
  pub holds : zone.region ≡ k
  pub low : frame.at + zone.low ≤ at
  pub high : at + width ≤ frame.at + zone.high

pub record InOwn (fs : List Activation) (k at width : ℕ) : Type 0 where
  pub frame : Activation
  pub inside : InFrame fs frame at width
  pub holds : frame.own ≡ k
  pub low : frame.at + 4 * frame.size ≤ at
  pub high : at + width ≤ frame.at + frame.own_high

-- the birth of the region or key that a block was granted in, or the block's own
abbrev pub birth_in : Ledger → Owner → ℕ
birth_in l (owner.Region h) = l.birth_of h
birth_in l (owner.Alone at room) = l.alone_birth at

-- in the bytes asked for of a live block of this birth
pub record InGranted (n : Areas) (st : Store) (d at width : ℕ) : Type 0 where
  pub block : Block
  pub among : Among block st.ledger.blocks
  pub owner : birth_in st.ledger block.who ≡ d
  pub low : block.from ≤ at
  pub high : at + width ≤ block.from + block.bytes
  pub bottom : arena_base ≤ at
  pub top : at + width ≤ arena_base + n.pages * 4096

-- globals and strings are in the data, and what the heap was given later in its blocks
pub record InData (n : Areas) (at width : ℕ) : Type 0 where
  pub low : data_base ≤ at
  pub high : at + width ≤ data_base + n.statics

abbrev pub CellGround : Areas → List Activation → Store → Region → ℕ → ℕ → Type 0
CellGround n fs st (Frame k) at width = InBlockOf fs k at width
CellGround n fs st (Own k) at width = InOwn fs k at width
CellGround n fs st (Born d) at width = InData n at width ⊎ InGranted n st d at width

pub record SlotGround (fs : List Activation) (at width : ℕ) : Type 0 where
  pub frame : Activation
  pub inside : InFrame fs frame at width

abbrev pub Ground : Areas → List Activation → Store → Name → ℕ → ℕ → Type 0
Ground n fs st (Slot f k) at width = SlotGround fs at width
Ground n fs st (Cell s j) at width = CellGround n fs st s.region at width

-- the bytes show what each name holds, no two names meet, and each stands where it may
pub record Fits (n : Areas) (m : Maps) (fs : List Activation) (mem : Memory) (bytes : ℕ → ℕ) (st : Store) : Type 0 where
  pub shows : (x : Name) (at width : ℕ) (v : Content) → Lies m fs mem x at width v → Shows m v (read bytes at width)
  pub apart : (x y : Name) (at width at' width' : ℕ) (v v' : Content) → same_name x y ≡ false
      → Lies m fs mem x at width v → Lies m fs mem y at' width' v' → Apart at width at' width'
  pub ground : (x : Name) (at width : ℕ) (v : Content) → Lies m fs mem x at width v → Ground n fs st x at width
  pub aligned : (x : Name) (at width : ℕ) (v : Content) → Lies m fs mem x at width v → ((width ≡ 1) ⊎ (width ≡ 4)) × (at % width ≡ 0)

-- ---- homes

-- where a local of the block's activation k begins
abbrev pub local_at : ℕ → ℕ → Spot
local_at k o = record { region = Frame k; object = o; cell = 0 }

-- A local that is in a register has no address, so no pointer leads to it; the register shows what it holds.
pub record HomeLies (m : Maps) (mem : Memory) (k o value : ℕ) : Type 0 where
  pub unbased : m.base (Frame k) o ≡ None
  pub made : o < mem.objects (Frame k)
  pub shows : (p : Part) → mem.parts (local_at k o) 0 ≡ Some p → Shows m p.content value

-- The locals of an activation that are in registers, where these are the registers as it has them, and as its caller had them. No two share one; each of
-- their registers is saved, and what isn't saved is still the caller's.
pub record HomesShow (m : Maps) (mem : Memory) (homes : ℕ → ℕ → Option ℕ) (saves : ℕ → Bool) (callers registers : ℕ → ℕ) : Type 0 where
  pub small : (q : ℕ) → is_home q ≡ true → registers q < 2 ^ 32
  pub lie : (k o r : ℕ) → homes k o ≡ Some r → HomeLies m mem k o (registers r)
  pub apart : (k o k' o' r : ℕ) → homes k o ≡ Some r → homes k' o' ≡ Some r → (k ≡ k') × (o ≡ o')
  pub saved : (k o r : ℕ) → homes k o ≡ Some r → (is_home r ≡ true) × (saves r ≡ true)
  pub others : (q : ℕ) → is_home q ≡ true → saves q ≡ false → registers q ≡ callers q

-- no local of the block's activation k has a home in these frames
abbrev pub HasNone : ℕ → List Activation → Type 0
HasNone k [] = Unit {0}
HasNone k (a ∷ fs) = ((o r : ℕ) → a.homes k o ≡ Some r → ⊥) × HasNone k fs

abbrev pub AreAlone : (ℕ → ℕ → Option ℕ) → List Activation → Type 0
AreAlone homes fs = (k o r : ℕ) → homes k o ≡ Some r → HasNone k fs

-- those of all activations, the innermost first: each finds the registers as the one that it called had them at its beginning
abbrev pub HomesLie : Maps → Memory → List Activation → (ℕ → ℕ) → Type 0
HomesLie m mem [] registers = (q : ℕ) → is_home q ≡ true → registers q < 2 ^ 32
HomesLie m mem (a ∷ fs) registers = HomesShow m mem a.homes a.saves a.callers registers × AreAlone a.homes fs × HomesLie m mem fs a.callers

-- ---- what is known of what was born

-- a number's standing in the store, and the region's in the memory
abbrev pub TagOf : Tag → Standing → Type 0
TagOf tag.Lexical now = now ≡ Live
TagOf tag.Opened now = now ≡ Opened
TagOf tag.Closed now = now ≡ Closed

-- a number that stands for a birth which isn't dead
pub record Held (m : Maps) (mem : Memory) (st : Store) (h : ℕ) (x : Tag) : Type 0 where
  pub known : m.number (st.ledger.birth_of h) ≡ Some h
  pub stands : TagOf x (mem.standing (Born (st.ledger.birth_of h)))

-- the number stands for the birth
pub record IsNumber (st : Store) (d h : ℕ) : Type 0 where
  pub tag : Tag
  pub held : st.holdings.standing h ≡ Some tag
  pub birth : st.ledger.birth_of h ≡ d

-- a unique block begins at an address, and is the birth's
pub record IsBlock (st : Store) (d at : ℕ) : Type 0 where
  pub room : ℕ
  pub owned : st.holdings.owner at ≡ Some (owner.Alone at room)
  pub birth : st.ledger.alone_birth at ≡ d

pub record Known (m : Maps) (mem : Memory) (st : Store) : Type 0 where
  pub births : st.ledger.births + 1 ≡ mem.births
  pub heap : mem.standing (Born 0) ≡ Live
  -- numbers, and what they stand for; 0 is the heap's
  pub no_zero : st.holdings.standing 0 ≡ None
  pub held : (h : ℕ) (x : Tag) → st.holdings.standing h ≡ Some x → Held m mem st h x
  pub numbered : (d h : ℕ) → m.number d ≡ Some h → (mem.standing (Born d) ≡ Dead → ⊥) → (d ≡ 0) ⊎ IsNumber st d h
  pub zero_is_heap : m.number 0 ≡ Some 0
  pub heap_is_zero : st.ledger.birth_of 0 ≡ 0
  -- what lies in a unique block's region begins where the block does
  pub single : (d o at : ℕ) → mem.standing (Born d) ≡ Single → m.base (Born d) o ≡ Some at → IsBlock st d at
  -- parts are those of objects that were made
  pub made : (s : Spot) (j : ℕ) (p : Part) → mem.parts s j ≡ Some p → s.object < mem.objects s.region
  -- and none of them lies too far on, whatever its region's standing is
  pub near : (s : Spot) (j : ℕ) (p : Part) → mem.parts s j ≡ Some p → p.offset < too_far
  -- no object begins in the upper half of all addresses
  pub low : (r : Region) (o x : ℕ) → m.base r o ≡ Some x → x < 2 ^ 31
  -- what is to come has none
  pub unmade : (r : Region) (o : ℕ) → mem.objects r ≤ o → m.base r o ≡ None
  pub unborn : (d : ℕ) → mem.births ≤ d → (mem.standing (Born d) ≡ Dead) × (mem.objects (Born d) ≡ 0) × (m.number d ≡ None)
  pub unentered : (k : ℕ) → mem.activations ≤ k → (mem.standing (Frame k) ≡ Dead) × (mem.objects (Frame k) ≡ 0)
  pub uncalled : (k : ℕ) → mem.calls ≤ k → (mem.standing (Own k) ≡ Dead) × (mem.objects (Own k) ≡ 0)

-- ---- what is known of the store alone

-- whose a block from an address on is: the heap's, a live number's, or its own
abbrev pub IsNamed : Store → ℕ → Owner → Type 0
IsNamed st from (owner.Region h) = (h ≡ 0) ⊎ (is_some (st.holdings.standing h) ≡ true)
IsNamed st from (owner.Alone at room) = at ≡ from

-- the store holds a live block: its room has the bytes asked for, and each address of the room is its owner's
pub record HoldsBlock (st : Store) (b : Block) : Type 0 where
  pub within : b.bytes ≤ b.room
  pub some : 1 ≤ b.room
  pub owned : (q : ℕ) → b.from ≤ q → q < b.from + b.room → st.holdings.owner q ≡ Some b.who
  pub named : IsNamed st b.from b.who

-- the store has the arena's pages, and holds each block that the run counts as live
pub record HoldsBlocks (n : Areas) (st : Store) : Type 0 where
  pub pages : st.holdings.pages ≡ n.pages
  pub blocks : (b : Block) → Among b st.ledger.blocks → HoldsBlock st b

-- ---- the stack

-- zones, each behind the next one, between two offsets
abbrev pub Zoned : ℕ → ℕ → List Zone → Type 0
Zoned bottom top [] = bottom ≤ top
Zoned bottom top (z ∷ zs) = (z.high ≤ top) × (z.low ≤ z.high) × Zoned bottom z.low zs

-- a frame begins at an address, and has room for all that it holds
pub record Laid (at : ℕ) (a : Activation) : Type 0 where
  pub there : a.at ≡ at
  pub even : at % 4 ≡ 0
  pub low : stack_base ≤ at
  pub room : 4 * a.size ≤ a.bytes
  pub own_room : 4 * a.size ≤ a.own_high
  pub zoned : Zoned a.own_high a.bytes a.zones

-- each frame begins where the next inner one ends, and the outermost ends with the stack
abbrev pub Stacked : Areas → ℕ → List Activation → Type 0
Stacked n at [] = at ≡ stack_end n
Stacked n at (a ∷ fs) = Laid at a × Stacked n (a.at + a.bytes) fs
