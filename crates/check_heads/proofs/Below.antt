-- Effects and bounds speak of the head's region variables.
use Rattle.std.proofs.Common.{◌≡◌, ℕ, zero, suc, ◌+◌, ◌≤◌, Bool, true, false, Option, Some, None, List, [], ◌∷◌, sym, subst, arith}
use Rattle.std.specs.Prelude.{bytes_eq, if◌then◌else◌, map, not, ◌||◌}
use Rattle.cyc_tree.specs.Places.{region_place}
use Rattle.source_typing.proofs.NamedBelow.{names_up}
use Rattle.source_typing.specs.Named.{AllBelow, Below, BoundsBelow, NamesBelow}
use Rattle.source_typing.specs.Functions.{
  Variables,
  all_of,
  and_known,
  bounds_of,
  effect_of,
  effect_region,
  if_no_key,
  levels_but,
  pair_of,
  read_parameters,
  take_named,
  take_spot,
  take_spots,
  used_named,
  used_region,
}
use Rattle.source_typing.specs.Regions.{Level, Region, is_among}
use Rattle.source_typing.specs.Tables.{Tables}
use Rattle.source_typing.specs.Verdicts.{Faulty, Of, Unjudged, Verdict, after, both}
use Rattle.source_typing.specs.Written.{RegionNamed, Spot, find_region, spots_of}
use Rattle.check_heads.proofs.Effects.{levels_known}
use Rattle.cyc_tree.specs.Tree as tree

-- ---- the names of region variables

abbrev pub AreBelow : Variables → Type 0
AreBelow vs = NamesBelow vs.count vs.names

one_more : (n : ℕ) (rs : List RegionNamed) → NamesBelow n rs → NamesBelow (suc n) rs
one_more n rs h = let one : n + 1 ≡ suc n = omega arith in subst (λ m. NamesBelow m rs) one (names_up n rs h)

named_below : (vs : Variables) (n : tree.Name) (o : Option Region) → AreBelow vs → AreBelow (take_named vs n o).after_it
named_below vs n (Some r) h = h
named_below vs n None h = (omega arith, one_more vs.count vs.names h)

spot_below : (vs : Variables) (r : Option tree.RegionName) (p : Bool) → AreBelow vs → AreBelow (take_spot vs r p).after_it
spot_below vs None p h = one_more vs.count vs.names h
spot_below vs (Some (tree.Heap at)) p h = h
spot_below vs (Some (tree.Unique at)) true h = h
spot_below vs (Some (tree.Unique at)) false h = h
spot_below vs (Some (tree.Named n)) p h = named_below vs n (find_region vs.names n.text) h

spots_below : (vs : Variables) (ss : List Spot) → AreBelow vs → AreBelow (take_spots vs ss).after_all
spots_below vs [] h = h
spots_below vs (s ∷ ss) h = spots_below (take_spot vs s.written s.of_pointer).after_it ss (spot_below vs s.written s.of_pointer h)

pub parameters_below : (g : Tables) (vs : Variables) (ms : List tree.Member) → AreBelow vs → AreBelow (read_parameters g vs ms).variables_after
parameters_below g vs [] h = h
parameters_below g vs (m ∷ ms) h =
    parameters_below g (take_spots vs (spots_of g m.of)).after_all ms (spots_below vs (spots_of g m.of) h)

-- ---- a name that is used

abbrev FoundBelow : ℕ → Option Region → Type 0
FoundBelow n None = Unit {0}
FoundBelow n (Some r) = Below n r

abbrev UsedBelow : ℕ → Verdict Region → Type 0
UsedBelow n (Of r) = Below n r
UsedBelow n (Faulty f fs) = Unit {0}
UsedBelow n Unjudged = Unit {0}

levels_below : (keys : List Region) (count n : ℕ) → n ≤ count → AllBelow count (levels_but keys n)
levels_below keys count zero h = tt
levels_below keys count (suc n) h = by (is_among keys (Level n)) (levels_below keys count n (omega (arith, h)))
  where
    by : (b : Bool) → AllBelow count (levels_but keys n) → AllBelow count (if b then levels_but keys n else Level n ∷ levels_but keys n)
    by true rest = rest
    by false rest = (omega (arith, h), rest)

known_below : (n : ℕ) (v : Verdict Region) (rs : List Region) → UsedBelow n v → AllBelow n rs → AllBelow n (and_known v rs)
known_below n (Of r) rs h k = (h, k)
known_below n (Faulty f fs) rs h k = k
known_below n Unjudged rs h k = k

pairs_below : (n : ℕ) (v w : Verdict Region) (bs : List (Region × Region)) → UsedBelow n v → UsedBelow n w → BoundsBelow n bs
    → BoundsBelow n (and_known (both v w pair_of) bs)
pairs_below n (Of a) (Of b) bs h k l = (h, k, l)
pairs_below n (Of a) (Faulty f fs) bs h k l = l
pairs_below n (Of a) Unjudged bs h k l = l
pairs_below n (Faulty f fs) (Of b) bs h k l = l
pairs_below n (Faulty f fs) (Faulty g gs) bs h k l = l
pairs_below n (Faulty f fs) Unjudged bs h k l = l
pairs_below n Unjudged (Of b) bs h k l = l
pairs_below n Unjudged (Faulty g gs) bs h k l = l
pairs_below n Unjudged Unjudged bs h k l = l

no_key_below : (n : ℕ) (v : Verdict Region) (fits : Region → Bool) (at : ℕ) → UsedBelow n v → UsedBelow n (after v (λ a. if_no_key (fits a) at a))
no_key_below n (Faulty f fs) fits at h = tt
no_key_below n Unjudged fits at h = tt
no_key_below n (Of a) fits at h = by (fits a)
  where
    by : (b : Bool) → UsedBelow n (if_no_key b at a)
    by true = h
    by false = tt

module _ (n : ℕ) (names : List RegionNamed) (below : NamesBelow n names) where
  found_below : (x : List ℕ) → FoundBelow n (find_region names x)
  found_below x = by names below
    where
      by : (rs : List RegionNamed) → NamesBelow n rs → FoundBelow n (find_region rs x)
      by [] h = tt
      by (r ∷ rs) h = either (bytes_eq r.name x) h.0 (by rs h.1)
        where
          either : (b : Bool) → Below n r.id → FoundBelow n (find_region rs x) → FoundBelow n (if b then Some r.id else find_region rs x)
          either true k l = k
          either false k l = l

  one_below : (r : tree.RegionName) → UsedBelow n (used_region names r)
  one_below (tree.Heap at) = tt
  one_below (tree.Unique at) = tt
  one_below (tree.Named m) = by (find_region names m.text) (found_below m.text)
    where
      by : (o : Option Region) → FoundBelow n o → UsedBelow n (used_named m.at o)
      by None h = tt
      by (Some r) h = h

  pub all_below : (lenient : Bool) (keys : List Region) (rs : List tree.RegionName) → AllBelow n (all_of (map (effect_region lenient names keys) rs))
  all_below lenient keys [] = tt
  all_below lenient keys (r ∷ rs) =
      known_below n (effect_region lenient names keys r) (all_of (map (effect_region lenient names keys) rs))
      (no_key_below n (used_region names r) (λ a. lenient || not (is_among keys a)) (region_place r) (one_below r)) (all_below lenient keys rs)

  pub bounds_below : (bs : List tree.Bound) → BoundsBelow n (all_of (bounds_of names bs))
  bounds_below [] = tt
  bounds_below (b ∷ bs) =
      pairs_below n (used_region names b.longer) (used_region names b.shorter) (all_of (bounds_of names bs)) (one_below b.longer) (one_below b.shorter)
      (bounds_below bs)

pub effect_below : (lenient : Bool) (vs : Variables) (keys : List Region) (e : Option (List tree.RegionName)) → AreBelow vs
    → AllBelow vs.count (all_of (effect_of lenient vs keys e))
effect_below lenient vs keys None h =
    subst (AllBelow vs.count) (sym (levels_known keys vs.count)) (levels_below keys vs.count vs.count (omega arith))
effect_below lenient vs keys (Some rs) h = all_below vs.count vs.names h lenient keys rs
