-- View of code: region names in scope in code, and when they are those of the rules.
use Rattle.std.specs.Prelude.{Bool, List, None, Option, Some, false, length, nat_eq, nat_lt, slice_get, take, true, ℕ, ◌≡◌, ◌||◌}
use Rattle.std.specs.Prelude.{if◌then◌else◌, [], ◌∷◌, ◌++◌}
use Rattle.source_typing.specs.Named.{AllBelow, BoundsBelow}
use Rattle.source_typing.specs.Regions.{Level, Region, Regions, TheHeap, is_among, reaches}
use Rattle.check_regions.specs.Begun.{begins_live, is_over_heap, is_over_later}
use Rattle.check_regions.specs.declared.begun.Begun.{Begun}
use Rattle.check_regions.specs.declared.begun.Begun.TheVariants.{Block, Name}

-- How each name began, the earliest first; the regions that were opened, the latest last; and the bounds of the function.
pub record Scoped : Type 0 where
  pub begun : List Begun
  pub opened : List Region
  pub bounds : List (Region × Region)

-- one more name
abbrev pub with_begun : Begun → Scoped → Scoped
with_begun b s = record s { begun = s.begun ++ b ∷ [] }

-- a region is opened
abbrev pub with_opened : Region → Scoped → Scoped
with_opened r s = record s { opened = s.opened ++ r ∷ [] }

-- the first `names` names, and the first `opened` ones that were opened
abbrev pub first_of : ℕ → ℕ → Scoped → Scoped
first_of names opened s = record s { begun = take names s.begun; opened = take opened s.opened }

-- ---- what they say

abbrev pub of_name : (Begun → Bool) → Option Begun → Bool
of_name holds None = false
of_name holds (Some b) = holds b

abbrev pub live_in : Scoped → Region → Bool
live_in s TheHeap = true
live_in s (Level k) = of_name begins_live (slice_get s.begun k) || is_among s.opened (Level k)

abbrev pub over_later_in : Scoped → Region → Bool
over_later_in s TheHeap = true
over_later_in s (Level k) = of_name is_over_later (slice_get s.begun k)

-- whether a name outlives a later one, by how both began
abbrev pub over_this : Option Begun → Option Begun → Bool → Bool
over_this a (Some Block) by_bounds = of_name is_over_later a
over_this a (Some (Name live)) by_bounds = of_name is_over_heap a
over_this a b by_bounds = by_bounds

-- whether it outlives an earlier one: a variable may, by the bounds
abbrev pub over_earlier : Option Begun → Bool → Bool
over_earlier (Some Block) by_bounds = false
over_earlier (Some (Name live)) by_bounds = false
over_earlier a by_bounds = by_bounds

abbrev pub names_ordered : List Begun → ℕ → ℕ → Bool → Bool
names_ordered bs j k by_bounds =
    (if nat_eq j k then true
    else if nat_lt j k then over_this (slice_get bs j) (slice_get bs k) by_bounds else over_earlier (slice_get bs j) by_bounds)

abbrev pub outlives_in : Scoped → Region → Region → Bool
outlives_in s TheHeap b = true
outlives_in s (Level j) TheHeap = of_name is_over_heap (slice_get s.begun j)
outlives_in s (Level j) (Level k) = names_ordered s.begun j k (reaches (length s.bounds) s.bounds (Level j) (Level k))

-- ---- when they are those of the rules

-- As many names, and of each region the same is said, also of one that isn't in scope. What was opened is in scope, and so is what the bounds speak of.
pub record AreThose (s : Scoped) (g : Regions) : Type 0 where
  pub count : length s.begun ≡ g.count
  pub live : (r : Region) → live_in s r ≡ g.live r
  pub order : (a b : Region) → outlives_in s a b ≡ g.order a b
  pub lasts : (a : Region) → over_later_in s a ≡ g.lasts a
  pub opened : AllBelow g.count s.opened
  pub bounds : BoundsBelow g.count s.bounds
