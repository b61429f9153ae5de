-- View of code: regions that reach others by bounds: a set of regions in code, and in the rules.
use Rattle.std.specs.Prelude.{Bool, List, false, length, max, replicate, slice_get, slice_set, suc, true, unwrap_or, zero, ℕ, ◌+◌, ◌||◌, [], ◌∷◌}
use Rattle.source_typing.specs.Regions.{Level, Region, TheHeap, by_bounds, is_among, is_heap, reaches}

-- ---- a set of regions, by a mark for each level; the heap is always in it

abbrev pub has : List Bool → Region → Bool
has marks TheHeap = true
has marks (Level k) = unwrap_or (slice_get marks k) false

abbrev pub with_mark : Region → List Bool → List Bool
with_mark TheHeap marks = marks
with_mark (Level k) marks = slice_set marks k true

abbrev pub with_marks : List Region → List Bool → List Bool
with_marks [] marks = marks
with_marks (r ∷ rs) marks = with_marks rs (with_mark r marks)

-- the set of these regions, with `size` marks
abbrev pub marks_of : ℕ → List Region → List Bool
marks_of size targets = with_marks targets (replicate size false)

-- ---- how many marks there have to be

abbrev pub past : Region → ℕ
past TheHeap = 0
past (Level k) = k + 1

abbrev pub most : List (Region × Region) → ℕ → ℕ
most [] n = n
most ((x, y) ∷ bs) n = most bs (max n (max (past x) (past y)))

-- ---- in the rules

-- one of these, or the heap
abbrev pub is_near : List Region → Region → Bool
is_near targets a = is_heap a || is_among targets a

-- what reaches, in at most the given number of steps, what is near
abbrev pub reaches_near : (Region → Bool) → List (Region × Region) → ℕ → Region → Bool
reaches_near near bounds zero a = near a
reaches_near near bounds (suc n) a = near a || by_bounds bounds a (λ c. reaches_near near bounds n c)

-- what reaches one of these, or the heap, in as many steps as there are bounds
abbrev pub reaches_any : List Region → List (Region × Region) → Region → Bool
reaches_any targets bounds a = reaches_near (is_near targets) bounds (length bounds) a

abbrev pub outlives_by : List (Region × Region) → Region → Region → Bool
outlives_by bounds a b = reaches (length bounds) bounds a b
