-- View of two runs side by side: when a source and its Core do the same from a point of both runs on.
use Rattle.std.proofs.Common.{◌≡◌, ℕ, suc, ◌+◌, ◌^◌, ◌<◌, ◌≤◌, ◌⊎◌, List, [], ◌∷◌, true, Option, Some, None}
use Rattle.cyc_words.specs.Events.{AreBytes, SourceEnding}
pub use Rattle.source_lowering.specs.Agreeing.{SameEvent, BothVisible, BothCalled, BothReturned, SameEvents, SameOutcome}
use Rattle.step_trees.specs.Trees.{run}
use Rattle.source_meaning.specs.Shapes.{Shape, CharShape, VoidShape, FatShape}
use Rattle.source_meaning.specs.Memory as source
use Rattle.source_meaning.specs.Memory.{Scalar}
use Rattle.source_meaning.specs.Steps as steps
use Rattle.source_meaning.specs.Steps.{Entity, World, Binding, Variable}
use Rattle.source_meaning.specs.Places.{span_at}
use Rattle.source_meaning.specs.Programs.{source_bodies, heap_spot}
use Rattle.core_meaning.specs.Memory as core
use Rattle.core_meaning.specs.Memory.{Content}
use Rattle.core_meaning.specs.Core.{Program, Statement, Statements}
use Rattle.core_meaning.specs.Steps as core_steps
use Rattle.core_meaning.specs.Steps.{Config, Exit}
use Rattle.core_meaning.specs.Meaning as meaning
use Rattle.source_lowering.specs.Lowered.{Named, put}
use Rattle.source_lowering.specs.Programs.{RegionsAround}
pub use Rattle.source_lowering.specs.Kinds.{IsLexical, IsSingle, IsDynamic, StaysAs}
pub use Rattle.source_lowering.specs.InScope.{IsVariableAt, StandsFor, IsLocal, AreLocals}
pub use Rattle.source_lowering.specs.Memories.{
  first_in,
  region_at,
  at,
  AreShaped,
  AreMade,
  AreCells,
  Leads,
  LeadsAll,
  VariableLeads,
  LocalMade,
  ArePending,
  IsOwned,
  ShownMember,
  Shown,
  HoldsFrom,
  PartsHold,
  kept_in,
  nothing,
  IsKept,
  IsFree,
  HasShape,
  PartIs,
  AnInteger,
  ANull,
  IsTakenObject,
  IsBlock,
  APointer,
  AFatNull,
  AFat,
  ABirth,
  AUnion,
  IsShown,
  SameMemory,
  Bound,
  Grown,
}

-- ---- names in scope

abbrev pub IsLed : World → source.Memory → core.Memory → Entity → Type 0
IsLed w m c (Variable shape s) = VariableLeads w m c shape s

-- the variables lie where their names say
abbrev pub AreLed : World → source.Memory → core.Memory → List Binding → Type 0
AreLed w m c [] = Unit {0}
AreLed w m c (b ∷ bs) = IsLed w m c b.entity × AreLed w m c bs

-- ---- strings

-- a string's value: a fat pointer to the first of its characters, which lie in both heaps; there is one at least
pub record IsText (w : World) (m : source.Memory) (c : core.Memory) (v : Scalar) : Type 0 where
  pub number : ℕ
  pub count : ℕ
  pub value : v ≡ span_at count (heap_spot number)
  pub some : 0 < count
  pub few : count < 2 ^ 32
  pub leads : LeadsAll w m c CharShape count (heap_spot number) 0

-- it holds of each string's value
abbrev pub AllStrings : (Scalar → Type 0) → List (ℕ × Scalar) → Type 0
AllStrings holds [] = Unit {0}
AllStrings holds (s ∷ ss) = holds s.1 × AllStrings holds ss

abbrev pub AreTexts : World → source.Memory → core.Memory → List (ℕ × Scalar) → Type 0
AreTexts w m c ss = AllStrings (λ v. IsText w m c v) ss

-- what a run has from its start: the globals lie where their names say, and the strings where their values say
pub record HasStatics (w : World) (m : source.Memory) (c : core.Memory) : Type 0 where
  pub globals : AreLed w m c w.globals
  pub strings : AreTexts w m c w.strings

-- ---- a point of both runs

-- What both have in common in a scope: the activation of its block, and those around it; how many locals it has, and the shapes of those to come; the number of
-- its function's activation, and the shapes of its temporary objects; how many of these an expression leaves as they are; and how many regions are in scope:
-- as many of the first temporaries are taken.
pub record Point : Type 0 where
  pub world : World
  pub program : Program
  pub locals : List Binding
  pub names : List Named
  pub frame : ℕ
  pub outer : List ℕ
  pub made : ℕ
  pub pending : List Shape
  pub own : ℕ
  pub owned : List Shape
  pub kept : ℕ
  pub regions : RegionsAround

pub record SameState (p : Point) (m : source.Memory) (c : Config) : Type 0 where
  pub agree : SameMemory p.world m c.memory
  pub blocks : c.blocks ≡ p.frame ∷ p.outer
  pub locals : AreLed p.world m c.memory p.locals
  pub statics : HasStatics p.world m c.memory
  pub begun : p.frame < m.activations
  pub made : m.objects (source.Frame p.frame) ≡ p.made
  pub pending : ArePending p.world c.memory (core.Frame p.frame) p.made p.pending
  pub own : c.own ≡ p.own
  pub called : p.own < c.memory.calls
  pub stands : core.is_live (c.memory.standing (core.Own p.own)) ≡ true
  pub owned : ArePending p.world c.memory (core.Own p.own) 0 p.owned

-- the same point, where the first `values` temporary objects are left as they are
abbrev pub keeping : Point → ℕ → Point
keeping p values = record p { kept = values }

-- ---- runs

abbrev pub IsByte : Option ℕ → Type 0
IsByte None = Unit {0}
IsByte (Some b) = b < 256

-- where the source isn't Stuck, both show the same and end alike
pub record Same (w : World) (fs : Program) (n : ℕ) (s : steps.Step) (c : core_steps.Step) : Type 0 where
  pub at : (k : ℕ) → k ≤ n → (input : List ℕ) → AreBytes input →
      ((run source_bodies k s input).ending ≡ SourceEnding.Stuck) ⊎ SameOutcome w (run source_bodies k s input) (run (meaning.bodies fs) k c input)

-- from a point on
abbrev pub SameAt : Point → ℕ → steps.Step → core_steps.Step → Type 0
SameAt p n s c = Same p.world p.program n s c

-- ---- forms

-- what comes after code of Core
abbrev pub Next : Type 0
Next = Exit → Config → core_steps.Step

abbrev pub AreKept : ℕ → Config → Config → Type 0
AreKept d old new = (k : ℕ) → k < d → new.temps k ≡ old.temps k

-- a function's activation, and those of the blocks that it is in
abbrev pub activation : Config → List ℕ
activation c = c.own ∷ c.blocks

-- what an expression keeps: nothing but locals of newer blocks and blocks of regions is made, and the first temporary objects stay
abbrev pub within : Point → Bound
within p = record { frames = suc p.frame; standing = suc p.own; own = p.own; values = p.kept }

-- what a statement keeps, where the blocks before one have no more locals then
abbrev pub around : Point → ℕ → Bound
around p b = record { frames = b; standing = suc p.own; own = p.own; values = 0 }

-- what an expression that is a struct keeps: temporary objects before one
abbrev pub before_value : Point → ℕ → Bound
before_value p value = record { frames = suc p.frame; standing = suc p.own; own = p.own; values = value }

abbrev pub GrownAt : Point → source.Memory → Config → source.Memory → Config → Type 0
GrownAt p m0 c0 m c = Grown (within p) m0 c0.memory m c.memory

-- the contents of the temporaries that a value of a shape takes, from one on
abbrev pub contents_in : ℕ → Shape → (ℕ → Content) → List Content
contents_in d (FatShape to) temps = temps d ∷ temps (d + 1) ∷ temps (d + 2) ∷ []
contents_in d s temps = temps d ∷ []

-- a value
pub record AValue (w : World) (m : source.Memory) (c : core.Memory) (shape : Shape) (vs : List Scalar) (cs : List Content) : Type 0 where
  pub value : Scalar
  pub alone : vs ≡ value ∷ []
  pub shown : Shown w m c shape value cs

-- no value
pub record ANothing (shape : Shape) (vs : List Scalar) : Type 0 where
  pub void : shape ≡ VoidShape
  pub none : vs ≡ []

abbrev pub Given : World → source.Memory → core.Memory → Shape → List Scalar → List Content → Type 0
Given w m c shape vs cs = AValue w m c shape vs cs ⊎ ANothing shape vs

-- A value is in the temporaries from one on, and those below are as they were; those that are taken are among them.
pub record GoesOn (p : Point) (n d : ℕ) (m0 : source.Memory) (c0 : Config) (shape : Shape) (s : List Scalar → source.Memory → steps.Step)
    (k : Config → core_steps.Step) : Type 0 where
  pub above : p.regions.all ≤ d
  pub go : (m : source.Memory) (c : Config) (vs : List Scalar) → SameState p m c → GrownAt p m0 c0 m c → AreKept d c0 c
      → Given p.world m c.memory shape vs (contents_in d shape c.temps) → SameAt p n (s vs m) (k c)

-- an act gives what its code leaves in the temporaries from one on
pub record GivesAs (p : Point) (n d : ℕ) (shape : Shape) (act : steps.Act (List Scalar)) (code : List Statement) : Type 0 where
  pub same : (m : source.Memory) (c : Config) (s : List Scalar → source.Memory → steps.Step) (rest : Statements) (next : Next) → SameState p m c
      → GoesOn p n d m c shape s (meaning.statements rest next) → SameAt p n (act s m) (meaning.statements (put code rest) next c)
