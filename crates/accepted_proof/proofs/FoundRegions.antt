-- The regions that are found for the places of a type that is written: those of its arguments and pointers are in scope, or missing, or the unique one.
use Rattle.std.proofs.Common.{◌≡◌, ℕ, zero, suc, Bool, true, false, Option, Some, None, List, [], ◌∷◌, refl, sym, subst}
use Rattle.std.specs.Prelude.{◌++◌, bytes_eq, if◌then◌else◌, length, map, replicate}
use Rattle.cyc_tree.specs.Tree as tree
use Rattle.cyc_tree.specs.Tree.{Pointer}
use Rattle.source_typing.specs.Named.{Below, NamesBelow}
use Rattle.source_typing.specs.Regions.{Region}
use Rattle.source_typing.specs.Tables.{Tables, tag_in}
use Rattle.source_typing.specs.Written.{Found, Is, IsUnique, Missing, RegionNamed, Spot, all_found, argument_spots, base_spots, find_region, found_by}
use Rattle.source_typing.specs.Written.{found_named, regions_of_tag, spot}
use Rattle.source_typing.proofs.Inversion.{none_of_both}

-- ---- what is found

-- a region in scope, a missing one, or the unique one
abbrev pub FoundBelow : ℕ → Found → Type 0
FoundBelow n (Is r) = Below n r
FoundBelow n IsUnique = Unit {0}
FoundBelow n Missing = Unit {0}

-- what a region as it is written is found to be; one that isn't written is missing, or where none is left open a region variable
abbrev pub IsFoundAs : Bool → Option tree.RegionName → Found → Type 0
IsFoundAs left_open None Missing = (left_open ≡ true)
IsFoundAs left_open None (Is r) = (left_open ≡ false)
IsFoundAs left_open None IsUnique = ⊥
IsFoundAs left_open (Some (tree.Heap at)) (Is r) = Unit {0}
IsFoundAs left_open (Some (tree.Heap at)) IsUnique = ⊥
IsFoundAs left_open (Some (tree.Heap at)) Missing = ⊥
IsFoundAs left_open (Some (tree.Unique at)) (Is r) = ⊥
IsFoundAs left_open (Some (tree.Unique at)) IsUnique = Unit {0}
IsFoundAs left_open (Some (tree.Unique at)) Missing = ⊥
IsFoundAs left_open (Some (tree.Named x)) (Is r) = Unit {0}
IsFoundAs left_open (Some (tree.Named x)) IsUnique = ⊥
IsFoundAs left_open (Some (tree.Named x)) Missing = ⊥

-- one for each pointer
abbrev pub AreFound : Bool → ℕ → List Pointer → List Found → Type 0
AreFound left_open n [] fs = Unit {0}
AreFound left_open n (p ∷ ps) [] = ⊥
AreFound left_open n (p ∷ ps) (f ∷ fs) = IsFoundAs left_open p.region f × FoundBelow n f × AreFound left_open n ps fs

named_below : (n : ℕ) (names : List RegionNamed) (at : ℕ) (x : List ℕ) → NamesBelow n names → FoundBelow n (found_named at (find_region names x)).0
named_below n [] at x h = tt
named_below n (m ∷ ms) at x h = by (bytes_eq m.name x) (named_below n ms at x h.1)
  where
    by : (b : Bool) → FoundBelow n (found_named at (find_region ms x)).0 → FoundBelow n (found_named at (if b then Some m.id else find_region ms x)).0
    by true k = h.0
    by false k = k

region_below : (n : ℕ) (names : List RegionNamed) (r : Option tree.RegionName) → NamesBelow n names → FoundBelow n (found_by names r true).0
region_below n names None h = tt
region_below n names (Some (tree.Heap at)) h = tt
region_below n names (Some (tree.Unique at)) h = tt
region_below n names (Some (tree.Named x)) h = named_below n names x.at x.text h

-- where none has a fault
region_found : (names : List RegionNamed) (r : Option tree.RegionName) → (found_by names r true).1 ≡ [] → IsFoundAs true r (found_by names r true).0
region_found names None e = refl
region_found names (Some (tree.Heap at)) e = tt
region_found names (Some (tree.Unique at)) e = tt
region_found names (Some (tree.Named x)) e = by (find_region names x.text) e
  where
    by : (o : Option Region) → (found_named x.at o).1 ≡ [] → IsFoundAs true (Some (tree.Named x)) (found_named x.at o).0
    by None e = absurd cc
    by (Some r) e = tt

pointers_found : (n : ℕ) (names : List RegionNamed) (ps : List Pointer) → NamesBelow n names
    → (all_found names (map (λ (p : Pointer). spot true p.region) ps)).1 ≡ []
    → AreFound true n ps (all_found names (map (λ (p : Pointer). spot true p.region) ps)).0
pointers_found n names [] h e = tt
pointers_found n names (p ∷ ps) h e =
    let c = none_of_both (found_by names p.region true).1 (all_found names (map (λ (q : Pointer). spot true q.region) ps)).1 e in
    (region_found names p.region c.0, region_below n names p.region h, pointers_found n names ps h c.1)

-- one for each of so many region arguments, and one for each pointer
abbrev pub AreAllFound : Bool → ℕ → ℕ → List Pointer → List Found → Type 0
AreAllFound left_open n zero ps fs = AreFound left_open n ps fs
AreAllFound left_open n (suc m) ps [] = ⊥
AreAllFound left_open n (suc m) ps (f ∷ fs) = FoundBelow n f × AreAllFound left_open n m ps fs

-- places of regions that are no pointer's
abbrev pub AreArguments : List Spot → Type 0
AreArguments [] = Unit {0}
AreArguments (s ∷ ss) = (s.of_pointer ≡ false) × AreArguments ss

-- those of a tag's arguments are so, and those before the pointers of a type
tag_arguments : (g : Tables) (tag : tree.Name) (rs : List tree.RegionName) → AreArguments (argument_spots g tag rs)
tag_arguments g tag [] = missing (regions_of_tag (tag_in g tag.text))
  where
    missing : (m : ℕ) → AreArguments (replicate m (spot false None))
    missing zero = tt
    missing (suc m) = (refl, missing m)
tag_arguments g tag (r ∷ rs) = written_out (r ∷ rs)
  where
    written_out : (rs : List tree.RegionName) → AreArguments (map (λ r. spot false (Some r)) rs)
    written_out [] = tt
    written_out (r ∷ rs) = (refl, written_out rs)

pub base_arguments : (g : Tables) (b : tree.Base) → AreArguments (base_spots g b)
base_arguments g tree.Int = tt
base_arguments g tree.Unsigned = tt
base_arguments g tree.Char = tt
base_arguments g tree.Void = tt
base_arguments g (tree.Struct tag rs) = tag_arguments g tag rs
base_arguments g (tree.Union tag rs) = tag_arguments g tag rs
base_arguments g (tree.Handle r) = (refl, tt)
base_arguments g (tree.Key r) = (refl, tt)

argument_found : (n : ℕ) (names : List RegionNamed) (r : Option tree.RegionName) → NamesBelow n names → FoundBelow n (found_by names r false).0
argument_found n names None h = tt
argument_found n names (Some (tree.Heap at)) h = tt
argument_found n names (Some (tree.Unique at)) h = tt
argument_found n names (Some (tree.Named x)) h = named_below n names x.at x.text h

pub spots_found : (n : ℕ) (names : List RegionNamed) (ss : List Spot) (ps : List Pointer) → NamesBelow n names → AreArguments ss
    → (all_found names (ss ++ map (λ (p : Pointer). spot true p.region) ps)).1 ≡ []
    → AreAllFound true n (length ss) ps (all_found names (ss ++ map (λ (p : Pointer). spot true p.region) ps)).0
spots_found n names [] ps h a e = pointers_found n names ps h e
spots_found n names (s ∷ ss) ps h a e =
    let c = none_of_both (found_by names s.written s.of_pointer).1 (all_found names (ss ++ map (λ (p : Pointer). spot true p.region) ps)).1 e in (
      subst (λ (b : Bool). FoundBelow n (found_by names s.written b).0) (sym a.0) (argument_found n names s.written h),
      spots_found n names ss ps h a.1 c.1,
    )
