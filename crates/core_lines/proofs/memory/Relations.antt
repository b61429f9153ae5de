-- When Core and the machine stand at the same point, and when they do the same from there on.
use Rattle.std.proofs.Common.{◌≡◌, ℕ, suc, ◌+◌, ◌*◌, ◌%◌, ◌≤◌, ◌<◌, ◌⊎◌, ◌^◌, List, [], ◌∷◌, ◌++◌, Option, Some, None, refl}
use Rattle.std.specs.Prelude.{Bool, zero, slice_get, length, true, false}
use Rattle.cyc_words.specs.Events.{AreBytes, SourceEnding, SourceEvent, Request, visible}
use Rattle.cyc_words.specs.Events as events
use Rattle.arena_laws.specs.Lawful.{Answer}
use Rattle.arena_laws.specs.Counts.{block_limit}
use Rattle.rv32_machine.specs.Arrays.{longest_stack}
use Rattle.rv32_machine.specs.State.{Areas, Stop, Mode, Runs, Over, code_base, data_base, stack_base}
use Rattle.rv32_machine.specs.Run.{Run, run_steps}
use Rattle.rv32_machine.specs.Implements.{IsCut, IsRefused, HasNoFrame, active_after}
use Rattle.rv32_machine.proofs.LongerRuns.{AreLawful}
use Rattle.step_trees.specs.Trees.{Outcome}
use Rattle.core_meaning.specs.Memory.{Content, Word, Memory, Frame, Own, Born}
use Rattle.core_meaning.specs.Core.{Function}
use Rattle.core_meaning.specs.Steps.{Config, Step, Event, Invocation}
use Rattle.core_lines.specs.declared.line.Line.{Line}
use Rattle.core_lines.specs.Lines.{HasLines, IsPlace}
use Rattle.core_lines.specs.Homes.{is_among, saved_slot, saved_by, flag_at}
use Rattle.core_lines.specs.Selected.{nth}
use Rattle.core_lines.specs.Frames.{epilogue_code, refusal_code}
use Rattle.core_lines.specs.Machines.{Machine, run_of, run_from}
use Rattle.core_lines.specs.Lies.{Maps, Shows, Zone, Activation, HomesLie, Fits, Known, HoldsBlocks, Stacked}
use Rattle.core_lines.specs.Running.{named, core_run}

-- ---- runs

-- by so many steps from one machine to another, whatever the store would answer, without any event
pub record Moves (n : Areas) (count : ℕ) (s t : Machine) : Type 0 where
  pub moved : (input : List ℕ) (answers : ℕ → Answer) (es : List events.Event) → run_steps n count (run_of s input answers es) ≡ run_of t input answers es
  pub lawful : (input : List ℕ) (answers : ℕ → Answer) (es : List events.Event) → AreLawful n count (run_of s input answers es)

-- the machine is at what an ending is
abbrev pub IsAt : SourceEnding → Mode → Type 0
IsAt (SourceEnding.Ended status) mode = mode ≡ Over (Stop.Ended status)
IsAt (SourceEnding.Raised kind) mode = mode ≡ Over (Stop.Raised kind)
IsAt SourceEnding.Running mode = mode ≡ Runs
IsAt SourceEnding.Stuck mode = Unit {0}

-- why a run was cut: the store refused a request, the stack had no room, or the store lacked host memory
pub data Cause : Type 0 where
  Refused : Request → Cause
  NoStack : Cause
  Lacked : Cause

abbrev pub stop_of : Cause → Stop
stop_of (Refused q) = Stop.Exhausted
stop_of NoStack = Stop.Exhausted
stop_of Lacked = Stop.Lacking

abbrev pub refused_of : Cause → Option Request
refused_of (Refused q) = Some q
refused_of NoStack = None
refused_of Lacked = None

-- what comes next is what there was no room for
abbrev pub IsNext : (List ℕ → ℕ) → ℕ → Cause → List (List ℕ) → SourceEvent → Type 0
IsNext bound stack (Refused q) active next = IsRefused q next
IsNext bound stack NoStack active next = HasNoFrame bound stack active next
IsNext bound stack Lacked active next = Unit {0}

-- ---- the world: what stays the same in a whole run

pub record World : Type 0 where
  pub areas : Areas
  -- the bytes of the code
  pub code : ℕ → ℕ
  pub places : ℕ → ℕ
  pub functions : List Function
  -- the name of each function, the bytes of its frame, and their bound by names
  pub names : ℕ → List ℕ
  pub frame_bytes : ℕ → ℕ
  pub bound : List ℕ → ℕ
  -- the label where each ends, and the labels that a branch may not reach
  pub exits : ℕ → ℕ
  pub wide : ℕ → Bool
  -- where the first call returns to, and the label where frames are refused
  pub stub : ℕ
  pub refused : ℕ
  -- the offset of each object of the data
  pub data_offsets : List ℕ

-- ---- what is led

-- a run has shown the same events and ends alike
pub record Led (w : World) (r : Run) (o : Outcome Event) : Type 0 where
  pub events : r.events ≡ visible (named w.names o.events)
  pub ends : IsAt o.ending r.state.mode

-- Or it is cut by four steps more, where these functions are active: a run that is refused the stack takes up to four more than one that enters a function.
pub record Cut (w : World) (active : List (List ℕ)) (r : Run) (o : Outcome Event) : Type 0 where
  pub last : Run
  pub soon : run_steps w.areas 4 r ≡ last
  pub lawful : AreLawful w.areas 4 r
  pub why : Cause
  pub over : last.state.mode ≡ Over (stop_of why)
  pub refused : last.refused ≡ refused_of why
  pub cut : IsCut last.events (named w.names o.events) (λ before next. IsNext w.bound w.areas.stack why (active_after active before) next)

-- From each machine in a relation: the number of steps comes before the machine and the answers. There are no fewer of them than units of fuel where these are
-- used up.
pub record Leads (w : World) (fuel : ℕ) (c : Step) (R : Machine → Type 0) (active : List (List ℕ)) (input : List ℕ) : Type 0 where
  pub count : ℕ
  pub leads : (s : Machine) (answers : ℕ → Answer) → R s →
      Led w (run_steps w.areas count (run_from s input answers)) (core_run w.functions fuel c input)
      ⊎ Cut w active (run_steps w.areas count (run_from s input answers)) (core_run w.functions fuel c input)
  pub paid : (core_run w.functions fuel c input).ending ≡ SourceEnding.Running → fuel ≤ count
  pub lawful : (s : Machine) (answers : ℕ → Answer) → R s → AreLawful w.areas count (run_from s input answers)

-- the same at each amount of fuel up to one, on each input of bytes
pub record Goes (w : World) (most : ℕ) (c : Step) (R : Machine → Type 0) (active : List (List ℕ)) : Type 0 where
  pub at : (fuel : ℕ) → fuel ≤ most → (input : List ℕ) → AreBytes input → Leads w fuel c R active input

-- a call of a function, by its number
abbrev pub invoke : ℕ → List Content → Invocation
invoke f arguments = record { function = f; arguments = arguments }

-- ---- standing at a place

-- where a block's locals are: its zone, and the offset of each, or its register, where it isn't 0
pub record Place : Type 0 where
  pub low : ℕ
  pub high : ℕ
  pub offsets : List ℕ
  pub homes : List ℕ

-- What a frame has of its caller's registers: some are saved, and the code saves more; all that the function changes are; or the code restores them, and these
-- are left.
pub data Phase : Type 0 where
  Saving : List ℕ → Phase
  Inside : Phase
  Restoring : List ℕ → Phase

-- an activation as Core has it, and where its code goes on when what it called returns; its blocks' locals' offsets from its frame on, as those of its unnamed
-- values; and of which temporaries the slots show the words, as flags
pub record Waiting : Type 0 where
  pub function : ℕ
  pub fn : Function
  pub phase : Phase
  pub nest : List Place
  pub unnamed : List ℕ
  pub own_high : ℕ
  pub config : Config
  pub kept : List Bool
  pub behind : ℕ

-- with others of whose temporaries the slots show the words
abbrev pub keeping : List Bool → Waiting → Waiting
keeping flags x = record x { kept = flags }

-- what is flagged in the second is in the first
abbrev pub Covers : List Bool → List Bool → Type 0
Covers more less = (u : ℕ) → flag_at less u ≡ true → flag_at more u ≡ true

-- Behind what gives these temporaries words, and saves them or not: what is flagged is one of them that is saved, or another one that was flagged before.
abbrev pub Follows : Bool → List ℕ → List Bool → List Bool → Type 0
Follows keeps ts before after =
    (u : ℕ) → flag_at after u ≡ true → ((is_among u ts ≡ true) × (keeps ≡ true)) ⊎ ((is_among u ts ≡ false) × (flag_at before u ≡ true))

-- all of these are flagged
abbrev pub AreFlagged : List Bool → List ℕ → Type 0
AreFlagged flags [] = Unit {0}
AreFlagged flags (t ∷ ts) = (flag_at flags t ≡ true) × AreFlagged flags ts

pub flagged_first : (flags : List Bool) (ts us : List ℕ) → AreFlagged flags (ts ++ us) → AreFlagged flags ts
flagged_first flags [] us are = tt
flagged_first flags (t ∷ ts) us are = (are.0, flagged_first flags ts us are.1)

pub flagged_second : (flags : List Bool) (ts us : List ℕ) → AreFlagged flags (ts ++ us) → AreFlagged flags us
flagged_second flags [] us are = are
flagged_second flags (t ∷ ts) us are = flagged_second flags ts us are.1

-- the slot of a temporary shows its word, or those of all of these
abbrev pub IsKept : World → Waiting → ℕ → Type 0
IsKept w x t = flag_at x.kept t ≡ true

abbrev pub AreKept : World → Waiting → List ℕ → Type 0
AreKept w x ts = AreFlagged x.kept ts

abbrev pub slots_in : Function → ℕ
slots_in fn = saved_slot fn + length (saved_by fn)

abbrev pub back_of : World → List Waiting → ℕ
back_of w [] = w.stub
back_of w (x ∷ xs) = x.behind

-- the home of a local, where it has one
abbrev pub as_home : ℕ → Option ℕ
as_home zero = None
as_home (suc r) = Some (suc r)

abbrev pub home_of : List ℕ → ℕ → Option ℕ
home_of homes o = as_home (nth homes o)

-- each block's zone is where its place says, and its locals have their addresses
abbrev pub BlocksLie : Maps → ℕ → List Place → List ℕ → List Zone → Type 0
BlocksLie m at [] [] [] = Unit {0}
BlocksLie m at (p ∷ ps) (k ∷ ks) (z ∷ zs) =
    (z ≡ record { region = k; low = p.low; high = p.high })
    × ((o x : ℕ) → slice_get p.offsets o ≡ Some x → home_of p.homes o ≡ None → m.base (Frame k) o ≡ Some (at + x)) × BlocksLie m at ps ks zs
BlocksLie m at [] [] (z ∷ zs) = ⊥
BlocksLie m at [] (k ∷ ks) zs = ⊥
BlocksLie m at (p ∷ ps) [] zs = ⊥
BlocksLie m at (p ∷ ps) (k ∷ ks) [] = ⊥

pub no_zones : (m : Maps) (at : ℕ) (zs : List Zone) → BlocksLie m at [] [] zs → zs ≡ []
no_zones m at [] lie = refl
no_zones m at (z ∷ zs) lie = absurd lie

-- ---- the caller's registers, and homes

-- slots from one on have what the caller's registers were
abbrev pub HaveSaved : ℕ → List ℕ → (ℕ → Content) → (ℕ → ℕ) → Type 0
HaveSaved k [] slots callers = Unit {0}
HaveSaved k (r ∷ rs) slots callers = (slots k ≡ Word (callers r)) × HaveSaved (suc k) rs slots callers

abbrev pub kept_in : Phase → Function → List ℕ
kept_in (Saving done) fn = done
kept_in Inside fn = saved_by fn
kept_in (Restoring rest) fn = saved_by fn

-- the registers that may differ from the caller's
abbrev pub changed_in : Phase → Function → List ℕ
changed_in (Saving done) fn = []
changed_in Inside fn = saved_by fn
changed_in (Restoring rest) fn = rest

-- locals of the blocks have the homes that their places say
abbrev pub HaveHomes : List Place → List ℕ → (ℕ → ℕ → Option ℕ) → Type 0
HaveHomes [] ks homes = Unit {0}
HaveHomes (p ∷ ps) [] homes = Unit {0}
HaveHomes (p ∷ ps) (k ∷ ks) homes = ((o r : ℕ) → home_of p.homes o ≡ Some r → homes k o ≡ Some r) × HaveHomes ps ks homes

abbrev pub IsHomeIn : ℕ → List Place → Type 0
IsHomeIn r [] = ⊥
IsHomeIn r (p ∷ ps) = (is_among r p.homes ≡ true) ⊎ IsHomeIn r ps

-- and no other register is a home, and none at all where the code saves or restores them
abbrev pub AreHomes : Phase → List Place → List ℕ → (ℕ → ℕ → Option ℕ) → Type 0
AreHomes (Saving done) nest blocks homes = (k o : ℕ) → homes k o ≡ None
AreHomes Inside nest blocks homes = HaveHomes nest blocks homes × ((k o r : ℕ) → homes k o ≡ Some r → IsHomeIn r nest)
AreHomes (Restoring rest) nest blocks homes = (k o : ℕ) → homes k o ≡ None

-- a frame shows an activation
pub record FrameShows (w : World) (m : Maps) (x : Waiting) (back : ℕ) (a : Activation) : Type 0 where
  pub function : a.function ≡ x.function
  pub bytes : a.bytes ≡ w.frame_bytes x.function
  pub size : a.size ≡ slots_in x.fn
  pub is : slice_get w.functions x.function ≡ Some x.fn
  pub returns_to : a.slots 0 ≡ Word (code_base + back)
  pub back_place : IsPlace back
  pub temps : (t : ℕ) → t < x.fn.temporaries → flag_at x.kept t ≡ true → a.slots (1 + x.fn.passed + t) ≡ x.config.temps t
  pub blocks : BlocksLie m a.at x.nest x.config.blocks a.zones
  pub own : a.own ≡ x.config.own
  pub own_high : a.own_high ≡ x.own_high
  pub own_based : (o y : ℕ) → slice_get x.unnamed o ≡ Some y → m.base (Own x.config.own) o ≡ Some (a.at + y)
  pub saved : HaveSaved (saved_slot x.fn) (kept_in x.phase x.fn) a.slots a.callers
  pub changed : (q : ℕ) → a.saves q ≡ is_among q (changed_in x.phase x.fn)
  pub homes : AreHomes x.phase x.nest x.config.blocks a.homes

abbrev pub StackShows : World → Maps → List Waiting → List Activation → Type 0
StackShows w m [] [] = Unit {0}
StackShows w m [] (a ∷ fs) = ⊥
StackShows w m (x ∷ xs) [] = ⊥
StackShows w m (x ∷ xs) (a ∷ fs) = FrameShows w m x (back_of w xs) a × StackShows w m xs fs

-- the machine runs at a place, with its frames from `sp` on, x2 here, and x3 at the stack's start
pub record Stands (w : World) (mem : Memory) (place : ℕ) (m : Maps) (fs : List Activation) (sp x2 : ℕ) (s : Machine) : Type 0 where
  pub runs : s.mode ≡ Runs
  pub there : s.pc ≡ code_base + place
  pub aligned : place % 4 ≡ 0
  pub pointer : s.registers 2 ≡ x2
  pub stack_start : s.registers 3 ≡ stack_base
  pub small : (q : ℕ) → s.bytes q < 256
  pub kept : (q : ℕ) → q < data_base → s.bytes q ≡ w.code q
  pub stacked : Stacked w.areas sp fs
  pub fits : Fits w.areas m fs mem s.bytes s.store
  pub homes : HomesLie m mem fs s.registers
  pub known : Known m mem s.store
  pub holds_blocks : HoldsBlocks w.areas s.store
  pub data_based : (o y : ℕ) → slice_get w.data_offsets o ≡ Some y → m.base (Born 0) o ≡ Some (data_base + y)

-- in an activation
pub record At (w : World) (x : Waiting) (outer : List Waiting) (mem : Memory) (place : ℕ) (s : Machine) : Type 0 where
  pub maps : Maps
  pub frame : Activation
  pub others : List Activation
  pub sp : ℕ
  pub stands : Stands w mem place maps (frame ∷ others) sp sp s
  pub shows : FrameShows w maps x (back_of w outer) frame
  pub stack : StackShows w maps outer others

-- values in the registers behind one
abbrev pub InRegisters : Maps → ℕ → List Content → (ℕ → ℕ) → Type 0
InRegisters m r [] registers = Unit {0}
InRegisters m r (v ∷ vs) registers = Shows m v (registers (suc r)) × (registers (suc r) < 2 ^ 32) × InRegisters m (suc r) vs registers

-- one that has given its caller's registers back
abbrev pub restored : Waiting → Waiting
restored x = record x { phase = Restoring [] }

-- An activation returns: the machine is behind the call, and x2 and the homes are the caller's; what ends with the frame hasn't ended yet.
pub record Returning (w : World) (x : Waiting) (outer : List Waiting) (mem : Memory) (values : List Content) (s : Machine) : Type 0 where
  pub maps : Maps
  pub frame : Activation
  pub others : List Activation
  pub sp : ℕ
  pub pointer : ℕ
  pub above : pointer ≡ sp + w.frame_bytes x.function
  pub stands : Stands w mem (back_of w outer) maps (frame ∷ others) sp pointer s
  pub shows : FrameShows w maps (restored x) (back_of w outer) frame
  pub stack : StackShows w maps outer others
  pub results : InRegisters maps 9 values s.registers

-- What was called has returned: the frames are the callers'.
pub record Back (w : World) (outer : List Waiting) (mem : Memory) (values : List Content) (s : Machine) : Type 0 where
  pub maps : Maps
  pub frames : List Activation
  pub sp : ℕ
  pub stands : Stands w mem (back_of w outer) maps frames sp sp s
  pub stack : StackShows w maps outer frames
  pub results : InRegisters maps 9 values s.registers

-- A function's first line: the arguments are in the slots of the innermost frame, and x1 is where to return.
abbrev pub Passed : ℕ → List Content → List Activation → Type 0
Passed k [] fs = Unit {0}
Passed k (v ∷ vs) [] = ⊥
Passed k (v ∷ vs) (a ∷ fs) = (a.slots (1 + k) ≡ v) × (1 + k < a.size) × Passed (k + 1) vs (a ∷ fs)

pub record Calling (w : World) (f : ℕ) (outer : List Waiting) (mem : Memory) (arguments : List Content) (s : Machine) : Type 0 where
  pub maps : Maps
  pub frames : List Activation
  pub sp : ℕ
  pub stands : Stands w mem (w.places f) maps frames sp sp s
  pub stack : StackShows w maps outer frames
  pub back : s.registers 1 ≡ code_base + back_of w outer
  pub back_place : IsPlace (back_of w outer)
  pub passed : Passed 0 arguments frames

-- the names of the functions that are active, the innermost first
abbrev pub active_of : World → List Waiting → List (List ℕ)
active_of w [] = []
active_of w (x ∷ xs) = w.names x.function ∷ active_of w xs

abbrev pub Has : World → ℕ → List Line → Type 0
Has w place lines = HasLines w.areas w.code w.places place lines

-- a function ends at its label
abbrev pub EndsThere : World → ℕ → Function → Type 0
EndsThere w f fn = Has w (w.places (w.exits f)) (epilogue_code (w.frame_bytes f) (saved_slot fn) (saved_by fn))

pub record IsInOrder (w : World) : Type 0 where
  pub code_within : w.areas.code ≤ 2 ^ 20
  pub stack_within : w.areas.stack ≤ longest_stack
  pub stack_pages : w.areas.stack % 4096 ≡ 0
  pub blocks : w.areas.block_limit ≡ block_limit
  pub statics_within : w.areas.statics ≤ 2 ^ 20
  pub pages_within : w.areas.pages ≤ 4096
  pub labels : (label : ℕ) → IsPlace (w.places label)
  pub stub_place : IsPlace w.stub
  pub refusal : Has w (w.places w.refused) refusal_code
  -- a frame that is no larger than the longest stack has room for its slots
  pub frames : (f : ℕ) (fn : Function) → slice_get w.functions f ≡ Some fn → w.frame_bytes f ≤ longest_stack → 4 * slots_in fn ≤ w.frame_bytes f
  pub even : (f : ℕ) → w.frame_bytes f % 16 ≡ 0
  pub bounded : (f : ℕ) → w.frame_bytes f ≤ w.bound (w.names f)
  pub not_too_large : (f : ℕ) → w.frame_bytes f ≤ 2 ^ 25
