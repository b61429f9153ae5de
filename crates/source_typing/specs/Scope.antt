-- Believed: what is in scope where a phrase is judged, and what an expression is.
use Rattle.std.specs.Prelude.{Bool, List, None, Option, Some, bytes_eq, false, nat_eq, not, true, ℕ, ◌+◌, ◌&&◌, ◌||◌, if◌then◌else◌, [], ◌∷◌}
use Rattle.source_typing.specs.Faults.{Fault, name_rule, test}
use Rattle.source_typing.specs.Regions.{Level, Region, Regions, TheHeap, no_regions, with_scope}
use Rattle.source_typing.specs.Tables.{Entry, OfValue, Tables, What, find}
use Rattle.source_typing.specs.Types.{StaticType}
use Rattle.source_typing.specs.Verdicts.{Faulty, Of, Unjudged, Verdict}
use Rattle.source_typing.specs.Written.{RegionNamed}
use Rattle.cyc_tree.specs.Tree as tree

pub record Local : Type 0 where
  pub name : List ℕ
  pub what : What
  -- how many blocks are around its block
  pub block : ℕ

-- the region of the innermost `rnew` around
pub data Enclosing : Type 0 where
  InRegion : Region → Enclosing
  InUnique : Enclosing
  NotKnown : Enclosing

pub record Env : Type 0 where
  pub tables : Tables
  -- the latest first
  pub locals : List Local
  pub names : List RegionNamed
  pub regions : Regions
  -- the stack region of the innermost block
  pub frame : Region
  -- how many blocks are around
  pub block : ℕ
  -- without the rules on liveness
  pub lenient : Bool
  pub enclosing : Enclosing
  -- the result's type, where it is known
  pub result : Option StaticType
  pub in_loop : Bool
  pub in_switch : Bool
  -- how many items stand before this one
  pub item : ℕ

-- an item's scope
abbrev pub at_item : Bool → Tables → ℕ → Env
at_item lenient g i = record {
  tables = g;
  locals = [];
  names = [];
  regions = no_regions;
  frame = TheHeap;
  block = 0;
  lenient = lenient;
  enclosing = InRegion TheHeap;
  result = None;
  in_loop = false;
  in_switch = false;
  item = i;
}

-- ---- names

abbrev pub find_local : List Local → List ℕ → Option Local
find_local [] x = None
find_local (l ∷ ls) x = (if bytes_eq l.name x then Some l else find_local ls x)

-- a local hides tags, functions and globals of its name in every use
abbrev pub with_locals : List Local → Tables → Tables
with_locals [] g = g
with_locals (l ∷ ls) g = record { name = l.name; entry = OfValue l.what } ∷ with_locals ls g

abbrev pub in_scope : Env → Tables
in_scope g = with_locals g.locals g.tables

abbrev pub meant : Env → List ℕ → Option Entry
meant g x = find (in_scope g) x

-- a local that is declared already in this block
abbrev pub is_second : List Local → ℕ → List ℕ → Bool
is_second [] block x = false
is_second (l ∷ ls) block x = (nat_eq l.block block && bytes_eq l.name x) || is_second ls block x

-- A second declaration of a name in one block is Name at the name.
abbrev pub second : Env → tree.Name → List Fault
second g x = test (not (is_second g.locals g.block x.text)) name_rule x.at

-- a second declaration leaves the first one
abbrev pub with_local : tree.Name → What → Env → Env
with_local x w g =
    (if is_second g.locals g.block x.text then g else record g { locals = record { name = x.text; what = w; block = g.block } ∷ g.locals })

-- ---- regions

abbrev pub is_live : Env → Region → Bool
is_live g r = g.lenient || g.regions.live r

abbrev pub outlives : Env → Region → Region → Bool
outlives g a b = g.regions.order a b

-- the region that is declared next
abbrev pub next_region : Env → Region
next_region g = Level g.regions.count

-- a block begins: its stack region is a region of its own
abbrev pub block_entered : Env → Env
block_entered g = record g { regions = with_scope g.regions; frame = next_region g; block = g.block + 1 }

-- ---- what an expression is

-- Where a place is: in a region; in the block of a unique pointer; or the expression is no place.
pub data Seat : Type 0 where
  Nowhere : Seat
  In : Region → Seat
  InBlock : Seat

abbrev pub is_place : Seat → Bool
is_place Nowhere = false
is_place (In r) = true
is_place InBlock = true

-- an expression's first token, its type, and where it is a place
pub record Value : Type 0 where
  pub at : ℕ
  pub type : StaticType
  pub seat : Seat

abbrev pub value : ℕ → StaticType → Verdict Value
value at t = Of (record { at = at; type = t; seat = Nowhere })

abbrev pub seated : ℕ → StaticType → Seat → Verdict Value
seated at t s = Of (record { at = at; type = t; seat = s })

abbrev pub known_type : Verdict Value → Option StaticType
known_type (Of v) = Some v.type
known_type (Faulty f fs) = None
known_type Unjudged = None
