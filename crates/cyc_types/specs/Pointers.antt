-- View of code: the pointers of a type, as a contract sees them.
use Rattle.std.specs.Prelude.{ℕ, zero, suc, ◌≡◌, Bool, true, false, List, [], ◌∷◌, ⊤}
use Rattle.source_typing.specs.Regions.{is_heap}
use Rattle.cyc_types.specs.Regions.{region_of}
use Rattle.cyc_types.specs.declared.layer.Layer.{Layer}
use Rattle.cyc_types.specs.declared.layer.Layer.TheVariants as code
use Rattle.cyc_types.specs.declared.region.RegionId.{RegionId}
use Rattle.cyc_types.specs.declared.region.RegionId.TheVariants as region

-- from the base outwards, the outermost last
pub record Pointers : Type 0 where
  pub items : List Layer

-- the same pointer into the region whose name was declared next; one into the heap and a unique one stay as they are
abbrev pub next_region : RegionId → RegionId
next_region region.Heap = region.Heap
next_region (region.Level k) = region.Level (suc k)

abbrev pub next_pointer : Layer → Layer
next_pointer (code.Thin n r) = code.Thin n (next_region r)
next_pointer (code.Fat r) = code.Fat (next_region r)
next_pointer (code.Unique n) = code.Unique n

-- what stands on a pointer in a run: the same pointer, or where the regions step, the same one into the next region
abbrev pub follows : Bool → Layer → Layer
follows true l = next_pointer l
follows false l = l

-- the first so many of a list are this pointer and those that follow it
abbrev pub BeginsWith : Bool → ℕ → Layer → List Layer → Type 0
BeginsWith steps zero l ls = ⊤
BeginsWith steps (suc n) l [] = ⊥
BeginsWith steps (suc n) l (k ∷ ls) = (k ≡ l) × BeginsWith steps n (follows steps l) ls

-- whether a pointer leads into the heap or is unique, so that no region of it is a variable
abbrev pub is_closed : Layer → Bool
is_closed (code.Thin n r) = is_heap (region_of r)
is_closed (code.Fat r) = is_heap (region_of r)
is_closed (code.Unique n) = true
