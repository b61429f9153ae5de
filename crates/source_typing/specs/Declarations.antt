-- Believed: how declarations are judged, and what is in scope after them.
use Rattle.std.specs.Prelude.{Bool, List, None, Option, Some, false, if◌then◌else◌, is_some, nat_lt, not, true, ℕ, ◌&&◌, ◌||◌, [], ◌∷◌, ◌++◌}
use Rattle.cyc_tree.specs.Places.{region_place}
use Rattle.cyc_tree.specs.Tree.{Initializer, TypeName}
use Rattle.source_typing.specs.Conversions.{converts}
use Rattle.source_typing.specs.Expressions.{judge}
use Rattle.source_typing.specs.Extents.{fits_bytes, variable_size}
use Rattle.source_typing.specs.Faults.{Fault, region_rule, size_rule, test}
use Rattle.source_typing.specs.Making.{inside}
use Rattle.source_typing.specs.Missing.{settled}
use Rattle.source_typing.specs.Places.{variable}
use Rattle.source_typing.specs.Regions.{Region, Regions, TheHeap, opened, same_id, with_name, with_scope}
use Rattle.source_typing.specs.Scope.{Env, Value, in_scope, meant, next_region, second, with_local}
use Rattle.source_typing.specs.Tables.{Arrayed, Entry, OfFunction, OfTag, OfValue, Stored, Tables, Tag, Unknown, What, has_beginning, tag_in}
use Rattle.source_meaning.specs.Shapes.{single}
use Rattle.source_typing.specs.Types.{Handle, Key, PartialType, StaticType, Struct, Thin, Union, Unique, is_element, is_key, is_same, is_unique, is_void}
use Rattle.source_typing.specs.Verdicts.{Faulty, Of, Unjudged, Verdict, after, faults_of, if_fits, refuse, unless_faulty}
use Rattle.source_typing.specs.Written.{RegionNamed, any_missing, find_region, spots_of, written}
use Rattle.cyc_tree.specs.Tree as tree

-- what a declaration gives: its faults, and what is in scope after it
pub record Declared : Type 0 where
  pub faults : List Fault
  pub scope : Env

abbrev pub declared : List Fault → Env → Declared
declared fs g = record { faults = fs; scope = g }

-- ---- types of variables

-- A struct or union that is used by value stands earlier in the file.
abbrev pub tag_earlier : ℕ → Option Tag → Bool
tag_earlier item None = true
tag_earlier item (Some t) = nat_lt t.order item

abbrev pub stands_earlier : Env → StaticType → Bool
stands_earlier g (Struct tag rs) = tag_earlier g.item (tag_in g.tables tag)
stands_earlier g (Union tag rs) = tag_earlier g.item (tag_in g.tables tag)
stands_earlier g t = true

-- `void` is no variable's type; an array has at least one element, and an element type that is a scalar other than a key, or a struct.
abbrev pub can_be : Env → Option ℕ → StaticType → Bool
can_be g None t = not (is_void t) && stands_earlier g t
can_be g (Some n) t = not (is_void t) && stands_earlier g t && nat_lt 0 n && is_element t

-- An array of more than 4,096 bytes is Size at its type.
abbrev pub if_sized : Bool → ℕ → StaticType → Verdict StaticType
if_sized true at t = Of t
if_sized false at t = refuse size_rule at

-- what a variable may be, else Type at the type
abbrev pub fitting : Env → ℕ → Option ℕ → Bool → StaticType → Verdict StaticType
fitting g at count fits t =
    after (if_fits (fits && can_be g count t) at t) (if_sized (fits_bytes (variable_size g.tables count t)) at)

-- The type of a local, with that of its initializer: what has no beginning needs an initializer.
abbrev pub fitting_local : Env → ℕ → Option ℕ → Bool → StaticType → Verdict StaticType
fitting_local g at count set t = fitting g at count (set || has_beginning g.tables t) t

abbrev pub local_type : Env → ℕ → Option ℕ → Bool → Option StaticType → PartialType → Verdict StaticType
local_type g at count set source p = after (settled at p source) (fitting_local g at count set)

abbrev pub what_of : Region → Option ℕ → Verdict StaticType → What
what_of r None (Of t) = Stored t r
what_of r (Some n) (Of t) = Arrayed t r
what_of r count (Faulty f fs) = Unknown false
what_of r count Unjudged = Unknown true

-- a declaration with a fault makes its name one of no known type, which isn't sound
abbrev pub what_after : List Fault → What → What
what_after [] w = w
what_after (f ∷ fs) w = Unknown false

-- ---- locals

-- the type that takes missing regions from an initializer; where that isn't known, it isn't either
abbrev pub taken_from : Env → ℕ → Bool → Verdict Value → PartialType → Verdict StaticType
taken_from g at true (Faulty f fs) p = Unjudged
taken_from g at true Unjudged p = Unjudged
taken_from g at true (Of v) p = local_type g at None true (Some v.type) p
taken_from g at false v p = local_type g at None true None p

abbrev pub converted_to : Env → Verdict Value → Verdict StaticType → List Fault
converted_to g (Of v) (Of t) = converts g v t
converted_to g v t = []

-- A use of a name whose declaration has a fault isn't checked, however it is used: where a tag is wanted, a global, a function or a local with a fault
-- counts as a struct or union with a fault.
abbrev pub faulty_tag : Entry
faulty_tag = OfTag (record { text = []; is_union = false; order = 0; regions = 0; parts = []; sound = false })

abbrev pub as_tagged : Entry → Entry
as_tagged (OfValue (Unknown false)) = faulty_tag
as_tagged (OfFunction f) = (if f.sound then OfFunction f else faulty_tag)
as_tagged e = e

abbrev pub tagged : Tables → Tables
tagged [] = []
tagged (n ∷ ns) = record { name = n.name; entry = as_tagged n.entry } ∷ tagged ns

abbrev pub tags_in_scope : Env → Tables
tags_in_scope g = tagged (in_scope g)

abbrev pub type_in_scope : Env → TypeName → Verdict PartialType
type_in_scope g t = written (tags_in_scope g) g.names t

abbrev pub misses_region : Env → TypeName → Bool
misses_region g t = any_missing (spots_of (tags_in_scope g) t)

abbrev pub set_type : Env → TypeName → Verdict Value → Verdict StaticType
set_type g t v = after (type_in_scope g t) (taken_from g t.at (misses_region g t) v)

abbrev pub set_faults : Env → Verdict Value → Verdict StaticType → List Fault
set_faults g v t = faults_of t ++ faults_of v ++ converted_to g v t

-- `T x = e;`: e is judged where x isn't visible yet, and converts to T.
abbrev pub local_set : Env → TypeName → tree.Name → Verdict Value → Declared
local_set g t x v =
    declared (set_faults g v (set_type g t v) ++ second g x)
    (with_local x (what_after (set_faults g v (set_type g t v)) (what_of g.frame None (set_type g t v))) g)

abbrev pub unset_type : Env → TypeName → Option ℕ → Verdict StaticType
unset_type g t count = after (type_in_scope g t) (local_type g t.at count false None)

-- `T x;` and `T x[n];`
abbrev pub local_unset : Env → TypeName → tree.Name → Option ℕ → Declared
local_unset g t x count = declared (faults_of (unset_type g t count) ++ second g x) (with_local x (what_of g.frame count (unset_type g t count)) g)

-- ---- region names

abbrev pub is_visible : Env → tree.RegionName → Bool
is_visible g (tree.Named n) = is_some (find_region g.names n.text)
is_visible g (tree.Heap at) = true
is_visible g (tree.Unique at) = true

-- A region name that is declared where one of that name is visible is Region at the name.
abbrev pub region_declared : Env → tree.RegionName → List Fault
region_declared g r = test (not (is_visible g r)) region_rule (region_place r)

abbrev pub name_added : Bool → tree.Name → Region → List RegionNamed → List RegionNamed
name_added true n r names = names
name_added false n r names = record { name = n.text; id = r } ∷ names

-- the name is that of the region that is next
abbrev pub with_region : tree.RegionName → (Regions → Regions) → Env → Env
with_region (tree.Named n) next g =
    record g { regions = next g.regions; names = name_added (is_some (find_region g.names n.text)) n (next_region g) g.names }
with_region r next g = record g { regions = next g.regions }

-- `region<r> h;` and ``let NewDynamicRegion{<r> k} = new_ukey();``: a handle, or a key, of the new region
abbrev pub region_of : Env → tree.RegionName → tree.Name → (Region → StaticType) → (Regions → Regions) → Declared
region_of g r x make next =
    declared (region_declared g r ++ second g x) (with_local x (Stored (make (next_region g)) g.frame) (with_region r next g))

-- ---- operands by name

-- A name that has to be of such a type, else Type at the name.
abbrev pub if_type : ℕ → (StaticType → Bool) → Value → Verdict Value
if_type at fits v = if_fits (fits v.type) at v

abbrev pub operand : Env → tree.Name → (StaticType → Bool) → Verdict Value
operand g x fits = after (variable x.at (meant g x.text)) (if_type x.at fits)

-- ---- `open`

abbrev pub key_region : StaticType → Region
key_region (Key r) = r
key_region t = TheHeap

-- which region a name is, the unique one apart
abbrev pub named_region : Env → tree.RegionName → Option Region
named_region g (tree.Heap at) = Some TheHeap
named_region g (tree.Unique at) = None
named_region g (tree.Named n) = find_region g.names n.text

abbrev pub if_own_region : Bool → ℕ → Region → Verdict Region
if_own_region true at r = Of r
if_own_region false at r = refuse region_rule at

-- The name is that of the key's region, else Region at the name.
abbrev pub opens : ℕ → Option Region → Value → Verdict Region
opens at None v = refuse region_rule at
opens at (Some r) v = if_own_region (same_id r (key_region v.type)) at r

-- an unknown name, which the heap's and the unique region's are not
abbrev pub unknown_region : Env → tree.RegionName → List Fault
unknown_region g (tree.Named n) = test (is_some (find_region g.names n.text)) region_rule n.at
unknown_region g (tree.Heap at) = []
unknown_region g (tree.Unique at) = []

-- the region that is opened
abbrev pub opened_region : Env → tree.RegionName → tree.Name → Verdict Region
opened_region g r k =
    unless_faulty (faults_of (operand g k is_key) ++ unknown_region g r) (after (operand g k is_key) (opens (region_place r) (named_region g r)))

-- `region<r> h = open(k);` declares no region name; the region is live from here on.
abbrev pub open_declared : Env → tree.Name → Verdict Region → Declared
open_declared g x (Of r) = declared (second g x) (with_local x (Stored (Handle r) g.frame) (record g { regions = opened r g.regions }))
open_declared g x (Faulty f fs) = declared ((f ∷ fs) ++ second g x) (with_local x (Unknown false) g)
open_declared g x Unjudged = declared (second g x) (with_local x (Unknown true) g)

-- ---- `alias`

-- a unique pointer's type, its outermost region apart
abbrev pub aliased : Region → StaticType → StaticType
aliased r (Unique n t) = Thin (single n) r t
aliased r t = t

abbrev pub alias_fits : ℕ → StaticType → StaticType → Verdict StaticType
alias_fits at wanted t = unless_faulty (test (is_same t wanted) region_rule at) (Of t)

-- The alias's type is its pointer's with the new region for the outermost unique one, else Region at the type.
abbrev pub alias_type : ℕ → Region → Bool → Verdict Value → PartialType → Verdict StaticType
alias_type at r missing (Of v) p = after (settled at p (Some v.type)) (alias_fits at (aliased r v.type))
alias_type at r true v p = Unjudged
alias_type at r false v p = settled at p None

abbrev pub type_of_alias : Env → Env → TypeName → tree.Name → Verdict StaticType
type_of_alias g inside t source =
    after (type_in_scope inside t) (alias_type t.at (next_region g) (misses_region g t) (operand g source is_unique))

-- `let alias<r> T x = p;`
abbrev pub alias_declared : Env → Env → tree.RegionName → TypeName → tree.Name → tree.Name → Declared
alias_declared g inside r t x source =
    declared (region_declared g r ++ faults_of (operand g source is_unique) ++ faults_of (type_of_alias g inside t source) ++ second g x)
    (with_local x (what_of g.frame None (type_of_alias g inside t source)) inside)

-- ---- all of them

abbrev pub declare : Env → tree.Declaration → Declared
declare g (tree.Local t x Initializer.Unset) = local_unset g t x None
declare g (tree.Local t x (Initializer.Elements n)) = local_unset g t x (Some n)
declare g (tree.Local t x (Initializer.Value e)) = local_set g t x (judge g e)
declare g (tree.Region at r x) = region_of g r x (λ a. Handle a) with_scope
declare g (tree.Open at r x k) = open_declared g x (opened_region g r k)
declare g (tree.Alias at r t x source) = alias_declared g (with_region r (with_name true) g) r t x source
declare g (tree.NewKey at r x) = region_of g r x (λ a. Key a) (with_name false)
