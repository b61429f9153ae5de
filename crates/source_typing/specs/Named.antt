-- Believed: which region names a type speaks of: the heap, and the names of the first levels.
use Rattle.std.specs.Prelude.{ℕ, ◌<◌, List, [], ◌∷◌}
use Rattle.source_typing.specs.Regions.{Region, TheHeap, Level}
use Rattle.source_typing.specs.Types.{StaticType, Int, Unsigned, Char, Void, Null, Thin, Fat, Unique, Handle, Key, Struct, Union}
use Rattle.source_typing.specs.Written.{RegionNamed}

-- a region whose level is below `count`, or the heap
abbrev pub Below : ℕ → Region → Type 0
Below count TheHeap = Unit {0}
Below count (Level k) = k < count

-- all of them were
abbrev pub AllBelow : ℕ → List Region → Type 0
AllBelow n [] = Unit {0}
AllBelow n (r ∷ rs) = Below n r × AllBelow n rs

-- so were those that names in scope are of
abbrev pub NamesBelow : ℕ → List RegionNamed → Type 0
NamesBelow n [] = Unit {0}
NamesBelow n (r ∷ rs) = Below n r.id × NamesBelow n rs

-- both regions of each bound were
abbrev pub BoundsBelow : ℕ → List (Region × Region) → Type 0
BoundsBelow n [] = Unit {0}
BoundsBelow n ((a, b) ∷ bs) = Below n a × Below n b × BoundsBelow n bs

-- all region names of a type are of levels below n
abbrev pub TypeBelow : ℕ → StaticType → Type 0
TypeBelow n Int = Unit {0}
TypeBelow n Unsigned = Unit {0}
TypeBelow n Char = Unit {0}
TypeBelow n Void = Unit {0}
TypeBelow n Null = Unit {0}
TypeBelow n (Thin b r t) = Below n r × TypeBelow n t
TypeBelow n (Fat r t) = Below n r × TypeBelow n t
TypeBelow n (Unique b t) = TypeBelow n t
TypeBelow n (Handle r) = Below n r
TypeBelow n (Key r) = Below n r
TypeBelow n (Struct tag rs) = AllBelow n rs
TypeBelow n (Union tag rs) = AllBelow n rs

-- and those of several types
abbrev pub TypesBelow : ℕ → List StaticType → Type 0
TypesBelow n [] = Unit {0}
TypesBelow n (t ∷ ts) = TypeBelow n t × TypesBelow n ts
