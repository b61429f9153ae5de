-- Believed: what the region variables of a call or constructor stand for: they are fixed by the arguments' types from the left, the leftmost occurrence first;
-- `NULL` fixes none. One that isn't fixed is the region of the enclosing `rnew`'s handle, else the heap. None stands for the unique region.
use Rattle.std.specs.Prelude.{Bool, List, None, Option, Some, false, is_some, slice_get, suc, true, zero, ℕ, ◌&&◌, if◌then◌else◌, [], ◌∷◌, ◌++◌}
use Rattle.source_typing.specs.Faults.{region_rule}
use Rattle.source_typing.specs.Missing.{arguments_of, outer_region, pointee_of}
use Rattle.source_typing.specs.Regions.{Level, Region, TheHeap, same_id}
use Rattle.source_typing.specs.Scope.{Enclosing, InRegion, InUnique, NotKnown, Value}
use Rattle.source_typing.specs.Types.{Fat, Handle, Key, StaticType, Struct, Thin, Union, Unique}
use Rattle.source_typing.specs.Verdicts.{Of, Unjudged, Verdict, both, known, refuse}
use Rattle.source_typing.specs.Written.{Found, Is, IsUnique, Missing}

-- a region of a parameter's type, with the argument's region at the same place, and where the argument stands
pub record Fit : Type 0 where
  pub of : Region
  pub is : Found
  pub at : ℕ

abbrev pub fit : ℕ → Region → Found → Fit
fit at r f = record { of = r; is = f; at = at }

abbrev pub fit_all : ℕ → List Region → List Region → List Fit
fit_all at (r ∷ rs) (q ∷ qs) = fit at r (Is q) ∷ fit_all at rs qs
fit_all at rs qs = []

-- in the order of the text: what a pointer leads to stands before its region
abbrev pub fits_of : ℕ → StaticType → Option StaticType → List Fit
fits_of at (Thin n r t) u = fits_of at t (pointee_of u) ++ fit at r (outer_region u) ∷ []
fits_of at (Fat r t) u = fits_of at t (pointee_of u) ++ fit at r (outer_region u) ∷ []
fits_of at (Unique n t) u = fits_of at t (pointee_of u)
fits_of at (Handle r) (Some (Handle q)) = fit at r (Is q) ∷ []
fits_of at (Key r) (Some (Key q)) = fit at r (Is q) ∷ []
fits_of at (Struct tag rs) u = fit_all at rs (arguments_of false tag u)
fits_of at (Union tag rs) u = fit_all at rs (arguments_of true tag u)
fits_of at t u = []

abbrev pub all_fits : List (Option StaticType) → List Value → List Fit
all_fits (Some p ∷ ps) (v ∷ vs) = fits_of v.at p (Some v.type) ++ all_fits ps vs
all_fits (None ∷ ps) (v ∷ vs) = all_fits ps vs
all_fits ps vs = []

abbrev pub is_found : Found → Bool
is_found (Is r) = true
is_found IsUnique = true
is_found Missing = false

-- the leftmost region of a variable
abbrev pub first_fit : List Fit → ℕ → Option Fit
first_fit [] k = None
first_fit (f ∷ fs) k = (if same_id f.of (Level k) && is_found f.is then Some f else first_fit fs k)

-- A variable that would be the unique region is Region: at the argument that fixes it, else at the call.
abbrev pub fixed_by : ℕ → Found → Verdict Region
fixed_by at (Is r) = Of r
fixed_by at IsUnique = refuse region_rule at
fixed_by at Missing = Unjudged

abbrev pub fixed_one : Enclosing → ℕ → Option Fit → Verdict Region
fixed_one h at (Some f) = fixed_by f.at f.is
fixed_one (InRegion r) at None = Of r
fixed_one InUnique at None = refuse region_rule at
fixed_one NotKnown at None = Unjudged

abbrev pub more : {A : Type 0} → A → List A → Verdict (List A)
more a others = Of (a ∷ others)

-- what the given number of region variables stand for, from the k-th on
abbrev pub fixed_from : Enclosing → ℕ → List Fit → ℕ → ℕ → Verdict (List Region)
fixed_from h at fs k zero = Of []
fixed_from h at fs k (suc n) = both (fixed_one h at (first_fit fs k)) (fixed_from h at fs (suc k) n) more

-- which of them are known, where one has a fault
abbrev pub fixed_known : Enclosing → ℕ → List Fit → ℕ → ℕ → List (Option Region)
fixed_known h at fs k zero = []
fixed_known h at fs k (suc n) = known (fixed_one h at (first_fit fs k)) ∷ fixed_known h at fs (suc k) n

abbrev pub is_known : List (Option Region) → Region → Bool
is_known rs TheHeap = true
is_known rs (Level k) = is_some (or_none (slice_get rs k))
  where
    or_none : Option (Option Region) → Option Region
    or_none None = None
    or_none (Some r) = r

abbrev pub each_region : (Region → Bool) → List Region → Bool
each_region holds [] = true
each_region holds (r ∷ rs) = holds r && each_region holds rs

-- all regions of a type
abbrev pub all_regions : (Region → Bool) → StaticType → Bool
all_regions holds (Thin n r t) = holds r && all_regions holds t
all_regions holds (Fat r t) = holds r && all_regions holds t
all_regions holds (Unique n t) = all_regions holds t
all_regions holds (Handle r) = holds r
all_regions holds (Key r) = holds r
all_regions holds (Struct tag rs) = each_region holds rs
all_regions holds (Union tag rs) = each_region holds rs
all_regions holds t = true
