-- The places of a type's regions, its arguments before its pointers, and its arguments one by one.
use Rattle.std.proofs.Common.{◌≡◌, ◌+◌, ℕ, suc, zero, true, false, List, [], ◌∷◌, ◌++◌, drop, length, map, refl, sym, ap, ◌∙◌, arith}
use Rattle.std.specs.Prelude.{None, Option, Some, nat_lt, option_map, replicate, ◌==◌}
use Rattle.std.proofs.lemmas.Bool.{eqb-true}
use Rattle.std.proofs.lemmas.Bool.Decides.{nat_tests}
use Rattle.std.proofs.lemmas.List.{append_assoc, length-replicate}
use Rattle.cyc_tree.specs.View.{region_tree}
use Rattle.cyc_tree.specs.declared.name.RegionName as code
use Rattle.cyc_types.specs.Regions.{region_of}
use Rattle.cyc_types.specs.declared.region.RegionId.{RegionId}
use Rattle.source_typing.specs.Faults.{earliest}
use Rattle.source_typing.specs.Functions.{Variables, take_spot, take_spots, variables}
use Rattle.source_typing.specs.Regions.{Level, Region}
use Rattle.source_typing.specs.Written.{RegionNamed, Spot, all_found, any_missing, as_region, found_by, spot}
use Rattle.check_faults.specs.Faults.{faults_of, first_of, sooner_found}
use Rattle.check_faults.specs.declared.fault.Fault.{Fault}
use Rattle.check_types.proofs.Parameters.{no_fault_named}
use Rattle.check_types.proofs.Pointers.{before_faults, before_found, joined}
use Rattle.check_types.specs.Arguments.{count_meets, named_spots, spots_by, unique_faults, unique_in}
use Rattle.check_types.specs.Reading.{listed}
use Rattle.check_types.specs.Written.{partial_regions}
use Rattle.cyc_tree.specs.Tree as tree

-- ---- regions by their names

module _ (names : List RegionNamed) where
  pub found_both : (ss ts : List Spot) → (all_found names (ss ++ ts)).0 ≡ (all_found names ss).0 ++ (all_found names ts).0
  found_both [] ts = refl
  found_both (s ∷ ss) ts =
      let own = found_by names s.written s.of_pointer in
      before_found own (all_found names (ss ++ ts))
      ∙ ap (λ fs. own.0 ∷ fs) (found_both ss ts)
      ∙ ap (λ fs. fs ++ (all_found names ts).0) (sym (before_found own (all_found names ss)))

  pub faults_both : (ss ts : List Spot) → (all_found names (ss ++ ts)).1 ≡ (all_found names ss).1 ++ (all_found names ts).1
  faults_both [] ts = refl
  faults_both (s ∷ ss) ts =
      let own = found_by names s.written s.of_pointer in
      before_faults own (all_found names (ss ++ ts))
      ∙ ap (λ fs. own.1 ++ fs) (faults_both ss ts)
      ∙ sym (append_assoc own.1 (all_found names ss).1 (all_found names ts).1)
      ∙ ap (λ fs. fs ++ (all_found names ts).1) (sym (before_faults own (all_found names ss)))

  pub found_each : (ss : List Spot) → length (all_found names ss).0 ≡ length ss
  found_each [] = refl
  found_each (s ∷ ss) = ap length (before_found (found_by names s.written s.of_pointer) (all_found names ss)) ∙ ap suc (found_each ss)

  -- missing ones are at no fault
  pub missing_found : (n : ℕ) → map as_region (all_found names (replicate n (spot false None))).0 ≡ replicate n None
  missing_found zero = refl
  missing_found (suc n) =
      ap (map as_region) (before_found (found_by names None false) (all_found names (replicate n (spot false None))))
      ∙ ap (λ rs. None ∷ rs) (missing_found n)

  pub missing_faultless : (n : ℕ) → (all_found names (replicate n (spot false None))).1 ≡ []
  missing_faultless zero = refl
  missing_faultless (suc n) =
      before_faults (found_by names None false) (all_found names (replicate n (spot false None))) ∙ missing_faultless n

  pub written_faults : (n : ℕ) (rs : List tree.RegionName) → (all_found names (spots_by n rs)).1 ≡ (all_found names (named_spots rs)).1
  written_faults n [] = missing_faultless n
  written_faults n (r ∷ rs) = refl

-- ---- fresh variables

pub taken_both : (vs : Variables) (ss ts : List Spot)
    → (take_spots vs (ss ++ ts)).found ≡ (take_spots vs ss).found ++ (take_spots (take_spots vs ss).after_all ts).found
taken_both vs [] ts = refl
taken_both vs (s ∷ ss) ts =
    let own = take_spot vs s.written s.of_pointer in ap (λ fs. own.found ∷ fs) (taken_both own.after_it ss ts)

pub after_both : (vs : Variables) (ss ts : List Spot) → (take_spots vs (ss ++ ts)).after_all ≡ (take_spots (take_spots vs ss).after_all ts).after_all
after_both vs [] ts = refl
after_both vs (s ∷ ss) ts = after_both (take_spot vs s.written s.of_pointer).after_it ss ts

pub bad_both : (vs : Variables) (ss ts : List Spot)
    → (take_spots vs (ss ++ ts)).faults ≡ (take_spots vs ss).faults ++ (take_spots (take_spots vs ss).after_all ts).faults
bad_both vs [] ts = refl
bad_both vs (s ∷ ss) ts =
    let own = take_spot vs s.written s.of_pointer in
    ap (λ fs. own.faults ++ fs) (bad_both own.after_it ss ts)
    ∙ sym (append_assoc own.faults (take_spots own.after_it ss).faults (take_spots (take_spots own.after_it ss).after_all ts).faults)

pub taken_each : (vs : Variables) (ss : List Spot) → length (take_spots vs ss).found ≡ length ss
taken_each vs [] = refl
taken_each vs (s ∷ ss) = ap suc (taken_each (take_spot vs s.written s.of_pointer).after_it ss)

pub unique_taken : (vs : Variables) (r : tree.RegionName) → (take_spot vs (Some r) false).faults ≡ unique_in r
unique_taken vs (tree.Heap at) = refl
unique_taken vs (tree.Unique at) = refl
unique_taken vs (tree.Named n) = no_fault_named vs n _

named_faults : (vs : Variables) (rs : List tree.RegionName) → (take_spots vs (named_spots rs)).faults ≡ unique_faults rs
named_faults vs [] = refl
named_faults vs (r ∷ rs) =
    let own = take_spot vs (Some r) false in
    ap (λ fs. fs ++ (take_spots own.after_it (named_spots rs)).faults) (unique_taken vs r)
    ∙ ap (λ fs. unique_in r ++ fs) (named_faults own.after_it rs)

fresh_faultless : (vs : Variables) (n : ℕ) → (take_spots vs (replicate n (spot false None))).faults ≡ []
fresh_faultless vs zero = refl
fresh_faultless vs (suc n) = fresh_faultless (take_spot vs None false).after_it n

pub taken_faults : (vs : Variables) (n : ℕ) (rs : List tree.RegionName) → (take_spots vs (spots_by n rs)).faults ≡ unique_faults rs
taken_faults vs n [] = fresh_faultless vs n
taken_faults vs n (r ∷ rs) = named_faults vs (r ∷ rs)

-- ---- how many there are

pub counted_spots : (n : ℕ) (rs : List tree.RegionName) → count_meets rs n ≡ true → length (spots_by n rs) ≡ n
counted_spots n [] h = length-replicate n (spot false None)
counted_spots n (r ∷ rs) h = spots_length (r ∷ rs) ∙ eqb-true (length (r ∷ rs)) n h
  where
    spots_length : (qs : List tree.RegionName) → length (named_spots qs) ≡ length qs
    spots_length [] = refl
    spots_length (q ∷ qs) = ap suc (spots_length qs)

-- ---- where no argument is written

partial_missing : (n : ℕ) → partial_regions (replicate n None) ≡ replicate n None
partial_missing zero = refl
partial_missing (suc n) = ap (λ rs. None ∷ rs) (partial_missing n)

pub some_there : (n : ℕ) → (suc n == 0) ≡ true → ⊥
some_there n h = let e : suc n ≡ 0 = eqb-true (suc n) 0 h in absurd (omega (arith, e))

pub all_missing : (names : List RegionNamed) (n : ℕ) (rs : List code.RegionName) → (length rs == 0) ≡ true
    → partial_regions (replicate n None) ≡ map as_region (all_found names (spots_by n (map region_tree rs))).0
all_missing names n [] h = partial_missing n ∙ sym (missing_found names n)
all_missing names n (r ∷ rs) h = absurd (some_there (length rs) h)

pub none_written : (n : ℕ) (rs : List code.RegionName) → (length rs == 0) ≡ true → nat_lt 0 n ≡ any_missing (spots_by n (map region_tree rs))
none_written zero [] h = refl
none_written (suc n) [] h = grind (arith, nat_tests)
none_written n (r ∷ rs) h = absurd (some_there (length rs) h)

pub all_written : (n : ℕ) (rs : List code.RegionName) → (length rs == 0) ≡ false → false ≡ any_missing (spots_by n (map region_tree rs))
all_written n [] h = absurd cc
all_written n (r ∷ rs) h = named rs
  where
    named : (qs : List code.RegionName) → false ≡ any_missing (named_spots (map region_tree qs))
    named [] = refl
    named (q ∷ qs) = named qs

-- ---- one argument more

pub one_more : (found : List (Option RegionId)) (r : Option RegionId) (rest : List (Option Region))
    → partial_regions (found ++ r ∷ []) ++ rest ≡ partial_regions found ++ option_map region_of r ∷ rest
one_more [] r rest = refl
one_more (f ∷ found) r rest = ap (λ rs. option_map region_of f ∷ rs) (one_more found r rest)

module _ (rs : List code.RegionName) (i : ℕ) (x : code.RegionName) (e : drop i rs ≡ x ∷ drop (i + 1) rs) where
  abbrev left : List tree.RegionName
  left = map region_tree (drop (i + 1) rs)

  pub next_argument : (names : List RegionNamed) (found : List (Option RegionId)) (r : Option RegionId)
      → option_map region_of r ≡ as_region (found_by names (Some (region_tree x)) false).0
      → partial_regions (found ++ r ∷ []) ++ map as_region (all_found names (named_spots left)).0
      ≡ partial_regions found ++ map as_region (all_found names (named_spots (map region_tree (drop i rs)))).0
  next_argument names found r is =
      let own = found_by names (Some (region_tree x)) false in
      let others = all_found names (named_spots left) in
      one_more found r (map as_region others.0)
      ∙ ap (λ q. partial_regions found ++ q ∷ map as_region others.0) is
      ∙ ap (λ fs. partial_regions found ++ map as_region fs) (sym (before_found own others))
      ∙ sym (ap (λ ys. partial_regions found ++ map as_region (all_found names (named_spots (map region_tree ys))).0) e)

  pub next_wrong : (names : List RegionNamed) (found own : Option Fault) → (found_by names (Some (region_tree x)) false).1 ≡ listed own
      → first_of (faults_of (sooner_found found own)) (earliest (all_found names (named_spots left)).1)
      ≡ first_of (faults_of found) (earliest (all_found names (named_spots (map region_tree (drop i rs)))).1)
  next_wrong names found own is =
      let others = all_found names (named_spots left) in
      joined found own others.1
      ∙ ap (λ fs. first_of (faults_of found) (earliest (fs ++ others.1))) (sym is)
      ∙ ap (λ fs. first_of (faults_of found) (earliest fs)) (sym (before_faults (found_by names (Some (region_tree x)) false) others))
      ∙ sym (ap (λ ys. first_of (faults_of found) (earliest (all_found names (named_spots (map region_tree ys))).1)) e)

  pub next_unique : (found own : Option Fault) → unique_in (region_tree x) ≡ listed own
      → first_of (faults_of (sooner_found found own)) (earliest (unique_faults left))
      ≡ first_of (faults_of found) (earliest (unique_faults (map region_tree (drop i rs))))
  next_unique found own is =
      joined found own (unique_faults left)
      ∙ ap (λ fs. first_of (faults_of found) (earliest (fs ++ unique_faults left))) (sym is)
      ∙ sym (ap (λ ys. first_of (faults_of found) (earliest (unique_faults (map region_tree ys)))) e)

  module _ (vs new : Variables) (after : new ≡ (take_spot vs (Some (region_tree x)) false).after_it) where
    pub next_taken : (found : List (Option RegionId)) (r : Option RegionId)
        → option_map region_of r ≡ as_region (take_spot vs (Some (region_tree x)) false).found
        → partial_regions (found ++ r ∷ []) ++ map as_region (take_spots new (named_spots left)).found
        ≡ partial_regions found ++ map as_region (take_spots vs (named_spots (map region_tree (drop i rs)))).found
    next_taken found r is =
        one_more found r (map as_region (take_spots new (named_spots left)).found)
        ∙ ap (λ q. partial_regions found ++ q ∷ map as_region (take_spots new (named_spots left)).found) is
        ∙ ap (λ v. partial_regions found ++ as_region (take_spot vs (Some (region_tree x)) false).found ∷ map as_region (take_spots v (named_spots left)).found)
        after
        ∙ sym (ap (λ ys. partial_regions found ++ map as_region (take_spots vs (named_spots (map region_tree ys))).found) e)

    pub next_left : (take_spots new (named_spots left)).after_all ≡ (take_spots vs (named_spots (map region_tree (drop i rs)))).after_all
    next_left =
        ap (λ v. (take_spots v (named_spots left)).after_all) after
        ∙ sym (ap (λ ys. (take_spots vs (named_spots (map region_tree ys))).after_all) e)

-- one fresh variable more
pub next_fresh : (vs new : Variables) (n : ℕ) (found : List (Option RegionId)) (r : RegionId)
    → new ≡ variables vs.names (suc vs.count) → region_of r ≡ Level vs.count
    → partial_regions (found ++ Some r ∷ []) ++ map as_region (take_spots new (replicate n (spot false None))).found
    ≡ partial_regions found ++ map as_region (take_spots vs (replicate (suc n) (spot false None))).found
next_fresh vs new n found r after is =
    one_more found (Some r) (map as_region (take_spots new (replicate n (spot false None))).found)
    ∙ ap (λ q. partial_regions found ++ Some q ∷ map as_region (take_spots new (replicate n (spot false None))).found) is
    ∙ ap (λ v. partial_regions found ++ Some (Level vs.count) ∷ map as_region (take_spots v (replicate n (spot false None))).found) after

pub fresh_left : (vs new : Variables) (n : ℕ) → new ≡ variables vs.names (suc vs.count)
    → (take_spots new (replicate n (spot false None))).after_all ≡ (take_spots vs (replicate (suc n) (spot false None))).after_all
fresh_left vs new n after = ap (λ v. (take_spots v (replicate n (spot false None))).after_all) after
