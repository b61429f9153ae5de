-- Believed: what the names of a program mean.
use Rattle.std.specs.Prelude.{Bool, List, None, Option, Some, bytes_eq, false, length, slice_get, suc, true, zero, ℕ, ◌&&◌, if◌then◌else◌, [], ◌∷◌}
use Rattle.source_typing.specs.Regions.{Level, Region, TheHeap}
use Rattle.source_meaning.specs.Shapes.{may_be_null}
use Rattle.source_typing.specs.Types.{Char, Fat, Int, Key, StaticType, Struct, Thin, Unique, Unsigned}

-- What a name of a value is: a variable or an array, with the region in which it lies; the index of `for`; or one whose type isn't known. That is sound
-- where its own declaration has no fault: a struct or union that it names has one then.
pub data What : Type 0 where
  Stored : StaticType → Region → What
  Arrayed : StaticType → Region → What
  Counter : What
  Unknown : Bool → What

-- a member of a struct or union; its type isn't known where it has a fault
pub record Part : Type 0 where
  pub name : List ℕ
  pub type : Option StaticType

-- A struct or union: how many items stand before it, its region parameters and its members. It is sound where its declaration has no fault.
pub record Tag : Type 0 where
  pub text : List ℕ
  pub is_union : Bool
  pub order : ℕ
  pub regions : ℕ
  pub parts : List Part
  pub sound : Bool

-- A function: its region variables are the first levels; a parameter or result with a fault has no known type.
pub record Signature : Type 0 where
  pub regions : ℕ
  pub parameters : List (Option StaticType)
  pub result : Option StaticType
  pub effect : List Region
  pub bounds : List (Region × Region)
  pub sound : Bool

pub data Entry : Type 0 where
  OfValue : What → Entry
  OfTag : Tag → Entry
  OfFunction : Signature → Entry
  -- a function that every program has, with its number of parameters
  OfBuiltin : ℕ → Entry
  -- a global or a function, while only structs and unions are known
  OfOther : Entry

pub record Named : Type 0 where
  pub name : List ℕ
  pub entry : Entry

-- Tags, functions and globals share one space of names; a local hides them.
abbrev pub Tables : Type 0
Tables = List Named

-- the first one of a name
abbrev pub find : Tables → List ℕ → Option Entry
find [] x = None
find (n ∷ ns) x = (if bytes_eq n.name x then Some n.entry else find ns x)

-- ---- structs and unions

abbrev pub as_tag : Option Entry → Option Tag
as_tag (Some (OfTag t)) = Some t
as_tag e = None

abbrev pub tag_in : Tables → List ℕ → Option Tag
tag_in g x = as_tag (find g x)

abbrev pub parts_of_tag : Option Tag → List Part
parts_of_tag None = []
parts_of_tag (Some t) = t.parts

abbrev pub parts_in : Tables → List ℕ → List Part
parts_in g x = parts_of_tag (tag_in g x)

-- the member of a name
abbrev pub part_in : List Part → List ℕ → Option Part
part_in [] x = None
part_in (p ∷ ps) x = (if bytes_eq p.name x then Some p else part_in ps x)

abbrev pub if_known : (StaticType → Bool) → Option StaticType → Bool
if_known holds None = true
if_known holds (Some t) = holds t

-- all members
abbrev pub each_part : (StaticType → Bool) → List Part → Bool
each_part holds [] = true
each_part holds (p ∷ ps) = if_known holds p.type && each_part holds ps

-- a region of a struct's or union's declaration or of a signature, where these are the arguments
abbrev pub or_heap : Option Region → Region
or_heap None = TheHeap
or_heap (Some r) = r

abbrev pub argument : List Region → Region → Region
argument rs TheHeap = TheHeap
argument rs (Level k) = or_heap (slice_get rs k)

-- ---- what is copied, and how a variable begins

-- A unique pointer, a key and a struct that holds a unique pointer are noncopyable; structs are looked into to a depth.
abbrev pub copies : ℕ → Tables → StaticType → Bool
copies n g (Unique m t) = false
copies n g (Key r) = false
copies zero g (Struct tag rs) = true
copies (suc n) g (Struct tag rs) = each_part (copies n g) (parts_in g tag)
copies n g t = true

abbrev pub is_copyable : Tables → StaticType → Bool
is_copyable g t = copies (length g) g t

-- An integer without initializer begins as 0, a nullable or fat pointer as NULL, and structs of such likewise. Nothing else has a beginning.
abbrev pub begins : ℕ → Tables → StaticType → Bool
begins n g Int = true
begins n g Unsigned = true
begins n g Char = true
begins n g (Thin b r t) = may_be_null b
begins n g (Unique b t) = b
begins n g (Fat r t) = true
begins zero g (Struct tag rs) = true
begins (suc n) g (Struct tag rs) = each_part (begins n g) (parts_in g tag)
begins n g t = false

abbrev pub has_beginning : Tables → StaticType → Bool
has_beginning g t = begins (length g) g t
