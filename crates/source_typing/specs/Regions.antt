-- Believed: region names in scope: which are live, and which outlives which.
use Rattle.std.specs.Prelude.{Bool, List, false, length, nat_eq, suc, true, zero, ℕ, ◌+◌, ◌&&◌, ◌||◌, if◌then◌else◌, [], ◌∷◌}

-- A region's name in a function: the heap, or the number of names that were declared before it. No name is declared where it is visible, so numbers say
-- everything.
pub data Region : Type 0 where
  TheHeap : Region
  Level : ℕ → Region

abbrev pub same_id : Region → Region → Bool
same_id TheHeap TheHeap = true
same_id (Level j) (Level k) = nat_eq j k
same_id TheHeap (Level k) = false
same_id (Level j) TheHeap = false

abbrev pub is_heap : Region → Bool
is_heap TheHeap = true
is_heap (Level k) = false

-- Live at a point are the heap, the stack regions of the blocks around it, the lexical, alias and opened regions in scope, and the regions of the effect.
pub record Regions : Type 0 where
  -- how many names are in scope, the heap apart
  pub count : ℕ
  pub live : Region → Bool
  pub order : Region → Region → Bool
  -- which outlive the stack and lexical regions that begin from here on
  pub lasts : Region → Bool

-- outside of functions: the heap outlives every region
abbrev pub no_regions : Regions
no_regions = record { count = 0; live = is_heap; order = λ a b. is_heap a || same_id a b; lasts = is_heap }

-- A block's stack region and a lexical region: the stack and lexical regions that began before outlive it, the effect's regions and the heap, and it itself.
abbrev pub with_scope : Regions → Regions
with_scope g = record {
  count = g.count + 1;
  live = λ a. if same_id a (Level g.count) then true else g.live a;
  order = λ a b. if same_id b (Level g.count) then (if same_id a (Level g.count) then true else g.lasts a)
      else (if same_id a (Level g.count) then false else g.order a b);
  lasts = λ a. if same_id a (Level g.count) then true else g.lasts a;
}

-- The region of an alias and of a key: only the heap outlives it. It is live, or not yet open.
abbrev pub with_name : Bool → Regions → Regions
with_name live g = record {
  count = g.count + 1;
  live = λ a. if same_id a (Level g.count) then live else g.live a;
  order = λ a b. if same_id b (Level g.count) then (if same_id a (Level g.count) then true else g.order a TheHeap)
      else (if same_id a (Level g.count) then false else g.order a b);
  lasts = λ a. if same_id a (Level g.count) then false else g.lasts a;
}

-- a key's region is open from here on
abbrev pub opened : Region → Regions → Regions
opened r g = record g { live = λ a. if same_id a r then true else g.live a }

-- ---- where a function begins

abbrev pub is_among : List Region → Region → Bool
is_among [] r = false
is_among (q ∷ qs) r = same_id q r || is_among qs r

-- what a region outlives by one declared bound, and then further; and in at most n steps
abbrev pub by_bounds : List (Region × Region) → Region → (Region → Bool) → Bool
by_bounds [] a further = false
by_bounds ((x, y) ∷ bs) a further = (same_id x a && further y) || by_bounds bs a further

abbrev pub reaches : ℕ → List (Region × Region) → Region → Region → Bool
reaches zero bounds a b = is_heap a || same_id a b
reaches (suc n) bounds a b = is_heap a || same_id a b || by_bounds bounds a (λ c. reaches n bounds c b)

abbrev pub any_of : List Region → (Region → Bool) → Bool
any_of [] holds = false
any_of (r ∷ rs) holds = holds r || any_of rs holds

-- So many region variables, an effect and bounds. The effect's regions are live and outlive the function's stack and lexical regions; the bounds hold.
abbrev pub entry_regions : ℕ → List Region → List (Region × Region) → Regions
entry_regions count effect bounds = record {
  count = count;
  live = λ a. is_heap a || is_among effect a;
  order = reaches (length bounds) bounds;
  lasts = λ a. reaches (length bounds) bounds a TheHeap || any_of effect (reaches (length bounds) bounds a);
}
