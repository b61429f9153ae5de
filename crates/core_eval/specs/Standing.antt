-- View of code: when an evaluator's state stands for a step of Core.
use Rattle.std.specs.Prelude.{◌≡◌, ℕ, suc, ◌<◌, ◌≤◌, Bool, true, false, Option, Some, None, List, [], ◌∷◌, length, map, drop, nat_lt}
use Rattle.cyc_words.specs.Events.{ByteRead, ByteWritten}
use Rattle.step_trees.specs.Trees.{Says}
use Rattle.core_meaning.specs.Memory as memory
use Rattle.core_meaning.specs.Memory.{Region, Born, Live, Single, Opened, Closed, Dead, Memory, Content, is_live}
use Rattle.core_meaning.specs.Steps.{Config, set_temp, Event, Visible, Step}
use Rattle.core_meaning.specs.Core.{Function}
use Rattle.core_meaning.specs.Operations.{too_far, lies_at}
use Rattle.core_meaning.specs.Meaning.{called}
use Rattle.cyc_core.specs.declared.program.Datum.{Datum}
use Rattle.cyc_core.specs.declared.layout.Local.{Local}
use Rattle.core_eval.specs.declared.value.Value.{Value}
use Rattle.core_eval.specs.declared.value.Slot.{Slot}
use Rattle.core_eval.specs.declared.frame.Frame.{Frame}
use Rattle.core_eval.specs.declared.memory.Memory as code
use Rattle.core_eval.specs.declared.region.Standing as code_standing
use Rattle.core_eval.specs.declared.region.Standing.TheVariants as standing
use Rattle.core_eval.specs.Values.{spot_of, temp_of, HasParts, Shows}
use Rattle.core_eval.specs.Elements.{blank_object, first_object, cells_of}
use Rattle.core_eval.specs.Regions.{Kept, Regions, regions_of, region_at}
use Rattle.core_eval.specs.LongBlocks.{LongBlock, long_block_of}
use Rattle.core_eval.specs.Blocks.{Activation, activation_of, position_of}
use Rattle.core_eval.specs.Leading.{lies_among}
use Rattle.core_eval.specs.Pendings.{Wait, Block, Caller, Next, Mark, rest_of, returned_to, coming}

-- these temporaries hold these values
abbrev pub Holds : (ℕ → Content) → List Value → Type 0
Holds temps values = (k : ℕ) → temps k ≡ temp_of values k

-- blocks that were not entered, and functions that were not called as yet, have no objects
pub record IsFresh (m : Memory) : Type 0 where
  pub no_values : (k : ℕ) → m.calls ≤ k → m.objects (memory.Own k) ≡ 0
  pub no_value : (k i cell j : ℕ) → m.calls ≤ k → m.parts (spot_of (memory.Own k) i cell) j ≡ None
  pub empty : (k : ℕ) → m.activations ≤ k → m.objects (memory.Frame k) ≡ 0
  pub missing : (k i cell j : ℕ) → m.activations ≤ k → m.parts (spot_of (memory.Frame k) i cell) j ≡ None

-- Each block that is to be left shows its locals, and has a number below those of the blocks inside of it; outside of each function there are so many blocks as
-- it knows of; and each caller's temporaries hold what was saved.
abbrev pub AreNested : Memory → ℕ → List ℕ → ℕ → List Activation → List Wait → List Mark → Type 0
AreNested m bound numbers base blocks [] marks = (numbers ≡ []) × (base ≡ 0) × (blocks ≡ [])
AreNested m bound numbers base blocks (Block ∷ ws) [] = ⊥
AreNested m bound numbers base [] (Block ∷ ws) (mark ∷ marks) = ⊥
AreNested m bound numbers base (b ∷ blocks) (Block ∷ ws) (mark ∷ marks) =
    (numbers ≡ mark.number ∷ mark.outside.blocks) × (mark.number ≡ b.number) × (mark.number < bound) × Shows m (memory.Frame mark.number) b.objects
    × AreNested m mark.number mark.outside.blocks base blocks ws marks
AreNested m bound numbers base blocks (Caller results f saved ∷ ws) [] = ⊥
AreNested m bound numbers base blocks (Caller results f saved ∷ ws) (mark ∷ marks) =
    (numbers ≡ []) × (base ≡ length blocks) × Holds mark.outside.temps saved.temps × AreNested m bound mark.outside.blocks saved.base blocks ws marks
AreNested m bound numbers base blocks (w ∷ ws) marks = AreNested m bound numbers base blocks ws marks

-- Each function that is active shows its temporary objects, and has a number below that of the one that it called; `main` has the number 0.
abbrev pub AreOwned : Memory → ℕ → ℕ → List Activation → List Wait → List Mark → Type 0
AreOwned m bound own owns [] marks =
    (o : Activation) × (owns ≡ o ∷ []) × (own ≡ 0) × (own ≡ o.number) × (own < bound) × Shows m (memory.Own own) o.objects
AreOwned m bound own owns (Block ∷ ws) [] = ⊥
AreOwned m bound own owns (Block ∷ ws) (mark ∷ marks) = AreOwned m bound own owns ws marks
AreOwned m bound own owns (Caller results f saved ∷ ws) [] = ⊥
AreOwned m bound own [] (Caller results f saved ∷ ws) (mark ∷ marks) = ⊥
AreOwned m bound own (o ∷ owns) (Caller results f saved ∷ ws) (mark ∷ marks) =
    (own ≡ mark.number) × (own ≡ o.number) × (own < bound) × Shows m (memory.Own own) o.objects × AreOwned m own mark.outside.own owns ws marks
AreOwned m bound own owns (w ∷ ws) marks = AreOwned m bound own owns ws marks

-- What an evaluator knows: the temporaries of the function that it is in, and how many blocks there are outside of that; the blocks of all functions that are
-- active, the innermost first; how many blocks were entered so far; the temporary objects of all functions that are active, the innermost first; how many
-- functions were
-- called so far; the globals, with the heap's blocks behind them; the blocks of regions, and where the cells of long ones lie.
pub record Known : Type 0 where
  pub temps : List Value
  pub base : ℕ
  pub blocks : List Activation
  pub entered : ℕ
  pub owns : List Activation
  pub called : ℕ
  pub globals : List (List Slot)
  pub regions : Regions
  pub long_blocks : List LongBlock

-- a block that isn't among these is over, or was not entered as yet
abbrev pub AreAllLive : Memory → List Activation → Type 0
AreAllLive m blocks = (k : ℕ) → position_of blocks k ≡ None → is_live (m.standing (memory.Frame k)) ≡ false

-- nor are those of a function that isn't among these
abbrev pub AreAllOwned : Memory → List Activation → Type 0
AreAllOwned m owns = (k : ℕ) → position_of owns k ≡ None → is_live (m.standing (memory.Own k)) ≡ false

-- what a region is, as Core has it
abbrev pub standing_of : code_standing.Standing → memory.Standing
standing_of standing.Lexical = Live
standing_of standing.Single = Single
standing_of standing.Opened = Opened
standing_of standing.Closed = Closed

-- a region is this, and has these blocks, and so many
pub record ShowsKept (m : Memory) (r : Region) (kept : Kept) : Type 0 where
  pub standing : m.standing r ≡ standing_of kept.standing
  pub holds : HasParts m r kept.objects
  pub counted : m.objects r ≡ length kept.objects

-- or it is freed, or was not born as yet
abbrev pub ShowsBlocks : Memory → Region → Option Kept → Type 0
ShowsBlocks m r None = m.standing r ≡ Dead
ShowsBlocks m r (Some kept) = ShowsKept m r kept

-- The cells of long blocks lie as they are kept, also where a region is closed or freed, and no other block has a cell so far on.
abbrev pub AreKept : Memory → List LongBlock → Type 0
AreKept m long_blocks =
    (n i k byte : ℕ) → nat_lt byte too_far ≡ false
    → lies_at (m.parts (spot_of (Born (suc n)) i k) 0) byte ≡ lies_among long_blocks n i k byte

-- The heap is born first, and then as many regions as are known, each with its blocks. What was not born as yet has none.
pub record AreBorn (m : Memory) (globals : List (List Slot)) (regions : Regions) (long_blocks : List LongBlock) : Type 0 where
  pub births : m.births ≡ suc (length regions)
  pub lexical : m.standing (Born 0) ≡ Live
  pub heap : m.objects (Born 0) ≡ length globals
  pub each : (n : ℕ) → ShowsBlocks m (Born (suc n)) (region_at regions n)
  pub empty : (n : ℕ) → length regions ≤ n → m.objects (Born (suc n)) ≡ 0
  pub missing : (n i cell j : ℕ) → length regions ≤ n → m.parts (spot_of (Born (suc n)) i cell) j ≡ None
  pub kept : AreKept m long_blocks

-- a state of Core is as the evaluator knows it
pub record Agrees (known : Known) (ws : List Wait) (marks : List Mark) (c : Config) : Type 0 where
  pub temps : Holds c.temps known.temps
  pub fresh : IsFresh c.memory
  pub globals : Shows c.memory (Born 0) known.globals
  pub nested : AreNested c.memory c.memory.activations c.blocks known.base known.blocks ws marks
  pub entered : known.entered ≡ c.memory.activations
  pub live : AreAllLive c.memory known.blocks
  pub owned : AreOwned c.memory c.memory.calls c.own known.owns ws marks
  pub called : known.called ≡ c.memory.calls
  pub values_live : AreAllOwned c.memory known.owns
  pub born : AreBorn c.memory known.globals known.regions known.long_blocks

-- events that were said, and then a step
abbrev pub saying : List Event → Step → Step
saying [] s = s
saying (e ∷ es) s = Says e (saying es s)

-- an event that is no byte
abbrev pub IsSilent : Event → Type 0
IsSilent (Visible (ByteRead byte)) = ⊥
IsSilent (Visible (ByteWritten byte)) = ⊥
IsSilent _ = Unit {0}

-- only calls and returns, requests and frees
abbrev pub AreAllSilent : List Event → Type 0
AreAllSilent [] = Unit {0}
AreAllSilent (e ∷ es) = IsSilent e × AreAllSilent es

-- what is due, what waits, and what is known stand for a step: it is theirs from some state of Core on
pub record Stands (main : ℕ) (s : Step) (next : Next) (ws : List Wait) (known : Known) : Type 0 where
  pub said : List Event
  pub silent : AreAllSilent said
  pub marks : List Mark
  pub config : Config
  pub agrees : Agrees known ws marks config
  pub same : s ≡ saying said (coming next (rest_of main ws marks) config)

-- whatever step is stood for before, the same is stood for afterwards
abbrev pub StandsStill : Next → List Wait → Known → Next → List Wait → Known → Type 0
StandsStill next ws known next' ws' known' = (main : ℕ) (s : Step) → Stands main s next ws known → Stands main s next' ws' known'

-- ---- one move

-- a temporary got a content, and no other one changed
abbrev pub Gives : ℕ → Content → List Value → List Value → Type 0
Gives t v temps temps' = (k : ℕ) → temp_of temps' k ≡ set_temp t v (temp_of temps) k

-- whether there are as many temporaries as values
abbrev pub are_as_many : List ℕ → List Content → Bool
are_as_many [] [] = true
are_as_many [] (v ∷ vs) = false
are_as_many (t ∷ ts) [] = false
are_as_many (t ∷ ts) (v ∷ vs) = are_as_many ts vs

-- temporaries that are given values, one after the other
abbrev pub set_temps : List ℕ → List Content → (ℕ → Content) → ℕ → Content
set_temps [] vs temps = temps
set_temps (t ∷ ts) [] temps = temps
set_temps (t ∷ ts) (v ∷ vs) temps = set_temps ts vs (set_temp t v temps)

-- some temporaries got these values, and no other one changed
abbrev pub Takes : List ℕ → List Content → List Value → List Value → Type 0
Takes ts vs temps temps' = (k : ℕ) → temp_of temps' k ≡ set_temps ts vs (temp_of temps) k

-- what an activation and what is stored are known as
abbrev pub known_of : Frame → code.Memory → Known
known_of frame m = record {
  temps = frame.temps.items;
  base = frame.base;
  blocks = map activation_of m.blocks.items;
  entered = m.entered;
  owns = map activation_of m.owns.items;
  called = m.called;
  globals = map cells_of m.globals.items;
  regions = regions_of m.regions;
  long_blocks = map long_block_of m.long_blocks.items;
}

-- the innermost function is left, and nothing else changes
pub record LeavesCall (m m' : code.Memory) : Type 0 where
  pub blocks : m'.blocks ≡ m.blocks
  pub entered : m'.entered ≡ m.entered
  pub owns : map activation_of m'.owns.items ≡ drop 1 (map activation_of m.owns.items)
  pub called : m'.called ≡ m.called
  pub globals : m'.globals ≡ m.globals
  pub regions : m'.regions ≡ m.regions
  pub long_blocks : m'.long_blocks ≡ m.long_blocks

-- A call whose unit is paid: each state that is known so goes on thus.
abbrev pub IsCall : List Function → List ℕ → ℕ → List Content → List Wait → Known → Next → List Wait → Known → Type 0
IsCall functions results f arguments ws known next ws' known' =
    (main : ℕ) (marks : List Mark) (c : Config) → Agrees known ws marks c
    → Stands main (called functions (record { function = f; arguments = arguments }) (returned_to results c (rest_of main ws marks)) c.memory) next ws' known'

-- ---- the beginning

-- what is known at first, where `main` has these temporary objects
abbrev pub first_known : List Datum → List Local → Known
first_known ds own = record {
  temps = [];
  base = 0;
  blocks = [];
  entered = 0;
  owns = record { number = 0; objects = map blank_object own } ∷ [];
  called = 1;
  globals = map first_object ds;
  regions = [];
  long_blocks = [];
}
