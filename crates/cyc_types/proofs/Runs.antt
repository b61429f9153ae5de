-- Pointers that begin with one again and again.
use Rattle.std.proofs.Common.{ℕ, zero, suc, ◌≡◌, ◌<◌, ◌≤◌, ◌+◌, Bool, true, false, List, [], ◌∷◌, ◌++◌, length, take, drop, get_or, subst, refl, sym, ap, ◌∙◌}
use Rattle.std.proofs.Common.{arith}
use Rattle.std.specs.List.{fold, list_all, zip}
use Rattle.source_meaning.specs.Shapes.{same_bound, single}
use Rattle.source_typing.specs.Regions.{same_id}
use Rattle.source_typing.specs.Types.{ByRegions, Differs, Equals, Match, by_regions, matched, only, same_bool}
use Rattle.cyc_types.specs.Layers.{layers_alike, layers_match, next_alike}
use Rattle.cyc_types.specs.Likeness.{likeness_of, match_of}
use Rattle.cyc_types.specs.Pointers.{BeginsWith, follows, next_pointer, next_region}
use Rattle.cyc_types.specs.Reaches.{reach_of}
use Rattle.cyc_types.specs.Regions.{region_of}
use Rattle.cyc_types.specs.declared.layer.Layer.{Layer}
use Rattle.cyc_types.specs.declared.layer.Layer.TheVariants as code
use Rattle.cyc_types.specs.declared.likeness.Likeness.{Likeness}
use Rattle.cyc_types.specs.declared.region.RegionId.{RegionId}
use Rattle.cyc_types.specs.declared.region.RegionId.TheVariants as region
use Rattle.std.proofs.Math.Dec.{eqb-suc-suc}
use Rattle.cyc_types.proofs.Pointers.{as_match}

-- fewer of them, and of so many of the pointers
pub begins_within : (s : Bool) (n m c : ℕ) (l : Layer) (ls : List Layer) → n ≤ m → n ≤ c → BeginsWith s m l ls → BeginsWith s n l (take c ls)
begins_within s zero m c l ls h i b = tt
begins_within s (suc n) zero c l ls h i b = absurd (omega (arith, h))
begins_within s (suc n) (suc m) zero l ls h i b = absurd (omega (arith, i))
begins_within s (suc n) (suc m) (suc c) l [] h i b = absurd b
begins_within s (suc n) (suc m) (suc c) l (k ∷ ls) h i b = (b.0, begins_within s n m c (follows s l) ls (omega (arith, h)) (omega (arith, i)) b.1)

-- fewer of them
pub begins_fewer : (s : Bool) (n m : ℕ) (l : Layer) (ls : List Layer) → n ≤ m → BeginsWith s m l ls → BeginsWith s n l ls
begins_fewer s zero m l ls h b = tt
begins_fewer s (suc n) zero l ls h b = absurd (omega (arith, h))
begins_fewer s (suc n) (suc m) l [] h b = absurd b
begins_fewer s (suc n) (suc m) l (k ∷ ls) h b = (b.0, begins_fewer s n m (follows s l) ls (omega (arith, h)) b.1)

-- of all pointers, where of the first of them
pub begins_all : (s : Bool) (n m : ℕ) (l : Layer) (ls : List Layer) → BeginsWith s n l (take m ls) → BeginsWith s n l ls
begins_all s zero m l ls b = tt
begins_all s (suc n) zero l ls b = absurd b
begins_all s (suc n) (suc m) l [] b = absurd b
begins_all s (suc n) (suc m) l (k ∷ ls) b = (b.0, begins_all s n m (follows s l) ls b.1)

-- with more pointers behind
pub begins_longer : (s : Bool) (n : ℕ) (l : Layer) (ls ks : List Layer) → BeginsWith s n l ls → BeginsWith s n l (ls ++ ks)
begins_longer s zero l ls ks b = tt
begins_longer s (suc n) l [] ks b = absurd b
begins_longer s (suc n) l (k ∷ ls) ks b = (b.0, begins_longer s n (follows s l) ls ks b.1)

-- what stands on so many of a run
abbrev pub after : Bool → ℕ → Layer → Layer
after s zero l = l
after s (suc n) l = after s n (follows s l)

after_one : (s : Bool) (n : ℕ) (l : Layer) → after s (suc n) l ≡ follows s (after s n l)
after_one s zero l = refl
after_one s (suc n) l = after_one s n (follows s l)

pub after_more : (s : Bool) (n : ℕ) (l next : Layer) → next ≡ follows s (after s n l) → next ≡ after s (n + 1) l
after_more s n l next is = let same : suc n ≡ n + 1 = omega arith in is ∙ sym (after_one s n l) ∙ ap (λ m. after s m l) same

-- one more
begins_behind : (s : Bool) (n : ℕ) (l d : Layer) (ls : List Layer) → n < length ls → after s n l ≡ get_or ls n d → BeginsWith s n l (take n ls)
    → BeginsWith s (suc n) l (take (suc n) ls)
begins_behind s zero l d [] h e b = absurd (omega (arith, h))
begins_behind s zero l d (k ∷ ls) h e b = (sym e, tt)
begins_behind s (suc n) l d [] h e b = absurd b
begins_behind s (suc n) l d (k ∷ ls) h e b = (b.0, begins_behind s n (follows s l) d ls (omega (arith, h)) e b.1)

pub begins_more : (s : Bool) (n : ℕ) (l d : Layer) (ls : List Layer) → n < length ls → after s n l ≡ get_or ls n d → BeginsWith s n l (take n ls)
    → BeginsWith s (n + 1) l (take (n + 1) ls)
begins_more s n l d ls h e b =
    let same : suc n ≡ n + 1 = omega arith in
    subst (λ m. BeginsWith s m l (take m ls)) same (begins_behind s n l d ls h e b)

-- what is true of all is true of the first so many
pub all_taken : (p : Layer → Bool) (n : ℕ) (ls : List Layer) → list_all p ls ≡ true → list_all p (take n ls) ≡ true
all_taken p zero ls h = refl
all_taken p (suc n) [] h = refl
all_taken p (suc n) (l ∷ ls) h = grind (arith, h, all_taken p n ls)

-- ---- two pointers that stand on each other make types no less alike than once

only_twice : (b : Bool) (m : Match) → only b (only b m) ≡ only b m
only_twice true m = refl
only_twice false m = refl

regions_twice : (m : Match) → by_regions (by_regions m) ≡ by_regions m
regions_twice Equals = refl
regions_twice ByRegions = refl
regions_twice Differs = refl

matched_twice : (b : Bool) (m : Match) → matched b (matched b m) ≡ matched b m
matched_twice true m = refl
matched_twice false m = regions_twice m

both_twice : (b c : Bool) (m : Match) → only b (matched c (only b (matched c m))) ≡ only b (matched c m)
both_twice true c m = matched_twice c m
both_twice false c m = refl

bound_twice : (b : Bool) (m : Match) → only b (by_regions (only b (by_regions m))) ≡ only b (by_regions m)
bound_twice true m = regions_twice m
bound_twice false m = refl

match_twice : (l k : Layer) (m : Match) → layers_match l k (layers_match l k m) ≡ layers_match l k m
match_twice (code.Thin n r) (code.Thin m q) x = both_twice (same_bound (reach_of n) (reach_of m)) (same_id (region_of r) (region_of q)) x
match_twice (code.Thin n r) (code.Unique m) x = bound_twice (same_bound (reach_of n) (single m)) x
match_twice (code.Thin n r) (code.Fat q) x = refl
match_twice (code.Fat r) (code.Thin m q) x = refl
match_twice (code.Fat r) (code.Unique m) x = refl
match_twice (code.Fat r) (code.Fat q) x = matched_twice (same_id (region_of r) (region_of q)) x
match_twice (code.Unique n) (code.Thin m q) x = bound_twice (same_bound (single n) (reach_of m)) x
match_twice (code.Unique n) (code.Unique m) x = only_twice (same_bool n m) x
match_twice (code.Unique n) (code.Fat q) x = refl

pub alike_twice : (l k : Layer) (a : Likeness) → layers_alike l k (layers_alike l k a) ≡ layers_alike l k a
alike_twice l k a =
    ap (λ m. likeness_of (layers_match l k m)) (as_match (layers_match l k (match_of a))) ∙ ap likeness_of (match_twice l k (match_of a))

-- what follows two pointers in runs of one kind is as alike as they are
ids_step : (r q : RegionId) → same_id (region_of (next_region r)) (region_of (next_region q)) ≡ same_id (region_of r) (region_of q)
ids_step region.Heap region.Heap = refl
ids_step region.Heap (region.Level k) = refl
ids_step (region.Level j) region.Heap = refl
ids_step (region.Level j) (region.Level k) = eqb-suc-suc j k

match_step : (l k : Layer) (m : Match) → layers_match (next_pointer l) (next_pointer k) m ≡ layers_match l k m
match_step (code.Thin n r) (code.Thin m q) x = ap (λ b. only (same_bound (reach_of n) (reach_of m)) (matched b x)) (ids_step r q)
match_step (code.Thin n r) (code.Unique m) x = refl
match_step (code.Thin n r) (code.Fat q) x = refl
match_step (code.Fat r) (code.Thin m q) x = refl
match_step (code.Fat r) (code.Unique m) x = refl
match_step (code.Fat r) (code.Fat q) x = ap (λ b. matched b x) (ids_step r q)
match_step (code.Unique n) (code.Thin m q) x = refl
match_step (code.Unique n) (code.Unique m) x = refl
match_step (code.Unique n) (code.Fat q) x = refl

alike_step : (s : Bool) (l k : Layer) (a : Likeness) → layers_alike (follows s l) (follows s k) a ≡ layers_alike l k a
alike_step true l k a = ap likeness_of (match_step l k (match_of a))
alike_step false l k a = refl

-- so as many as both begin with count as one
runs_once : (s : Bool) (n : ℕ) (l k : Layer) (ls ks : List Layer) (a x : Likeness) → x ≡ layers_alike l k a → BeginsWith s n l ls → BeginsWith s n k ks
    → fold next_alike x (zip ls ks) ≡ fold next_alike x (zip (drop n ls) (drop n ks))
runs_once s zero l k ls ks a x e b c = refl
runs_once s (suc n) l k [] ks a x e b c = absurd b
runs_once s (suc n) l k (i ∷ ls) [] a x e b c = absurd c
runs_once s (suc n) l k (i ∷ ls) (j ∷ ks) a x e b c =
    let here : layers_alike i j x ≡ x =
    ap (λ y. layers_alike y j x) b.0 ∙ ap (λ y. layers_alike l y x) c.0 ∙ ap (layers_alike l k) e ∙ alike_twice l k a ∙ sym e in
    ap (λ y. fold next_alike y (zip ls ks)) here
    ∙ runs_once s n (follows s l) (follows s k) ls ks a x (e ∙ sym (alike_step s l k a)) b.1 c.1

pub runs_alike : (s : Bool) (n : ℕ) (l k : Layer) (ls ks : List Layer) (a : Likeness) → 0 < n → BeginsWith s n l ls → BeginsWith s n k ks
    → fold next_alike a (zip ls ks) ≡ fold next_alike (layers_alike l k a) (zip (drop n ls) (drop n ks))
runs_alike s zero l k ls ks a h b c = absurd (omega (arith, h))
runs_alike s (suc n) l k [] ks a h b c = absurd b
runs_alike s (suc n) l k (i ∷ ls) [] a h b c = absurd c
runs_alike s (suc n) l k (i ∷ ls) (j ∷ ks) a h b c =
    let first : layers_alike i j a ≡ layers_alike l k a = ap (λ y. layers_alike y j a) b.0 ∙ ap (λ y. layers_alike l y a) c.0 in
    ap (λ y. fold next_alike y (zip ls ks)) first
    ∙ runs_once s n (follows s l) (follows s k) ls ks a (layers_alike l k a) (sym (alike_step s l k a)) b.1 c.1
