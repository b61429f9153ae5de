-- Regions in place of a signature's variables.
use Rattle.std.specs.List.{list_all}
use Rattle.std.specs.Prelude.{map, slice_get, ◌++◌, true}
use Rattle.std.proofs.Common.{◌≡◌, ◌<◌, ◌+◌, ℕ, zero, suc, Option, Some, None, List, [], ◌∷◌, refl, sym, ◌∙◌, ap, take, get_or, length, arith}
use Rattle.std.proofs.lemmas.List.{map-append, take_more}
use Rattle.cyc_types.proofs.Converting.{pointed_more}
use Rattle.cyc_types.specs.Layers.{pointed, pointer_to}
use Rattle.cyc_types.specs.Pointers.{is_closed}
use Rattle.cyc_types.specs.Reaches.{reach_of}
use Rattle.cyc_types.specs.Regions.{region_of, regions_of}
use Rattle.cyc_types.specs.declared.layer.Layer.{Layer}
use Rattle.cyc_types.specs.declared.layer.Layer.TheVariants as layer
use Rattle.cyc_types.specs.declared.region.RegionId.{RegionId}
use Rattle.source_typing.specs.Regions.{Level, Region, TheHeap, is_heap}
use Rattle.source_typing.specs.Tables.{argument}
use Rattle.source_typing.specs.Types.{Fat, StaticType, Thin, renamed}

pub argument_some : (rs : List RegionId) (k : ℕ) (r : RegionId) → slice_get rs k ≡ Some r → region_of r ≡ argument (regions_of rs) (Level k)
argument_some [] k r e = absurd cc
argument_some (q ∷ rs) zero r e = sym (ap (λ o. or_that o) e)
  where
    or_that : Option RegionId → Region
    or_that None = region_of q
    or_that (Some x) = region_of x
argument_some (q ∷ rs) (suc k) r e = argument_some rs k r e

pub argument_none : (rs : List RegionId) (k : ℕ) → slice_get rs k ≡ None → TheHeap ≡ argument (regions_of rs) (Level k)
argument_none [] k e = refl
argument_none (q ∷ rs) zero e = absurd cc
argument_none (q ∷ rs) (suc k) e = argument_none rs k e

-- one more region argument
pub more_renamed : (f : Region → Region) (old : List RegionId) (i : ℕ) (all : List RegionId) (r d : RegionId) → i < length old
    → regions_of all ≡ map f (regions_of (take i old)) → region_of r ≡ f (region_of (get_or old i d))
    → regions_of (all ++ r ∷ []) ≡ map f (regions_of (take (i + 1) old))
more_renamed f old i all r d h was e =
    map-append region_of all (r ∷ [])
    ∙ ap (λ rs. rs ++ region_of r ∷ []) was
    ∙ ap (λ q. map f (regions_of (take i old)) ++ q ∷ []) e
    ∙ sym (ap (map f) (map-append region_of (take i old) (get_or old i d ∷ [])) ∙ map-append f (regions_of (take i old)) (region_of (get_or old i d) ∷ []))
    ∙ ap (λ rs. map f (regions_of rs)) (sym (take_more old i d h))

-- one more pointer
pub more_pointers : (f : Region → Region) (old : List Layer) (i : ℕ) (all : List Layer) (l d : Layer) (t u : StaticType) → i < length old
    → pointed u all ≡ renamed f (pointed t (take i old))
    → pointer_to l (renamed f (pointed t (take i old))) ≡ renamed f (pointer_to (get_or old i d) (pointed t (take i old)))
    → pointed u (all ++ l ∷ []) ≡ renamed f (pointed t (take (i + 1) old))
more_pointers f old i all l d t u h was e =
    pointed_more all u l
    ∙ ap (pointer_to l) was
    ∙ e
    ∙ ap (renamed f) (sym (pointed_more (take i old) t (get_or old i d)))
    ∙ ap (λ ls. renamed f (pointed t ls)) (sym (take_more old i d h))

-- some pointers, and more that stand on them
pub pointed_both : (ls ks : List Layer) (t : StaticType) → pointed t (ls ++ ks) ≡ pointed (pointed t ls) ks
pointed_both [] ks t = refl
pointed_both (l ∷ ls) ks t = pointed_both ls ks (pointer_to l t)

-- ---- pointers without variables stay as they are

heap_stays : (rs : List Region) (r : Region) → is_heap r ≡ true → r ≡ argument rs r
heap_stays rs TheHeap h = refl
heap_stays rs (Level k) h = absurd cc

closed_pointer : (rs : List Region) (l : Layer) (t : StaticType) → is_closed l ≡ true
    → pointer_to l (renamed (argument rs) t) ≡ renamed (argument rs) (pointer_to l t)
closed_pointer rs (layer.Thin n r) t h = ap (λ q. Thin (reach_of n) q (renamed (argument rs) t)) (heap_stays rs (region_of r) h)
closed_pointer rs (layer.Fat r) t h = ap (λ q. Fat q (renamed (argument rs) t)) (heap_stays rs (region_of r) h)
closed_pointer rs (layer.Unique n) t h = refl

pub closed_pointers : (rs : List Region) (ls : List Layer) (t : StaticType) → list_all is_closed ls ≡ true
    → pointed (renamed (argument rs) t) ls ≡ renamed (argument rs) (pointed t ls)
closed_pointers rs [] t h = refl
closed_pointers rs (l ∷ ls) t h =
    ap (λ u. pointed u ls) (closed_pointer rs l t (grind (arith, h))) ∙ closed_pointers rs ls (pointer_to l t) (grind (arith, h))
