-- View of code: what is known of the region variables of a call while its arguments are looked at, as the rules say it.
use Rattle.std.specs.Prelude.{List, None, Option, Some, map, option_map, suc, zero, ℕ, [], ◌∷◌, ◌++◌}
use Rattle.cyc_types.specs.Regions.{region_of}
use Rattle.source_typing.specs.Faults.{Fault, fault, region_rule}
use Rattle.source_typing.specs.Fixing.{Fit, first_fit, fixed_by, more}
use Rattle.source_typing.specs.Regions.{Region, TheHeap}
use Rattle.source_typing.specs.Scope.{Enclosing, InRegion, InUnique, NotKnown}
use Rattle.source_typing.specs.Verdicts.{Of, Unjudged, Verdict, both, known}
use Rattle.source_typing.specs.Written.{Found, Is, IsUnique, Missing}
use Rattle.check_calls.specs.declared.fixing.Fixed.{Fixed}
use Rattle.check_calls.specs.declared.fixing.Fixed.TheVariants as region
use Rattle.check_calls.specs.declared.fixing.Fixing as code

-- what a variable is fixed to, and where the argument stands that fixes it
pub record Fixing : Type 0 where
  pub is : Found
  pub at : ℕ

abbrev pub fixing : Found → ℕ → Fixing
fixing f at = record { is = f; at = at }

abbrev pub found_of : Fixed → Found
found_of (region.Is r) = Is (region_of r)
found_of region.Unique = IsUnique

abbrev pub fixing_of : code.Fixing → Fixing
fixing_of f = fixing (found_of f.is) f.at

-- of each variable in their order; None: nothing fixes it yet
abbrev pub fixings_of : List (Option code.Fixing) → List (Option Fixing)
fixings_of fs = map (option_map fixing_of) fs

-- ---- by regions of parameters with those of arguments at the same places

abbrev pub of_fit : Fit → Fixing
of_fit f = fixing f.is f.at

abbrev pub first_fixing : List Fit → ℕ → Option Fixing
first_fixing fs k = option_map of_fit (first_fit fs k)

abbrev pub or_else : Option Fixing → Option Fixing → Option Fixing
or_else None b = b
or_else (Some a) b = Some a

-- variables from one on, with what fixes those that nothing fixed yet
abbrev pub fixed_with : List Fit → ℕ → List (Option Fixing) → List (Option Fixing)
fixed_with fs k [] = []
fixed_with fs k (o ∷ os) = or_else o (first_fixing fs k) ∷ fixed_with fs (suc k) os

-- one variable is fixed, where nothing fixed it yet
abbrev pub noted : List (Option Fixing) → ℕ → Fixing → List (Option Fixing)
noted [] i f = []
noted (None ∷ os) zero f = Some f ∷ os
noted (Some g ∷ os) zero f = Some g ∷ os
noted (o ∷ os) (suc i) f = o ∷ noted os i f

-- ---- what nothing fixes is fixed by the `rnew` around

abbrev pub last_fixing : Enclosing → ℕ → Option Fixing
last_fixing (InRegion r) at = Some (fixing (Is r) at)
last_fixing InUnique at = Some (fixing IsUnique at)
last_fixing NotKnown at = None

abbrev pub settled : Option Fixing → List (Option Fixing) → List (Option Fixing)
settled last os = map (λ o. or_else o last) os

-- ---- what the variables stand for

abbrev pub stands_for : Option Fixing → Verdict Region
stands_for None = Unjudged
stands_for (Some f) = fixed_by f.at f.is

abbrev pub all_stand_for : List (Option Fixing) → Verdict (List Region)
all_stand_for [] = Of []
all_stand_for (o ∷ os) = both (stands_for o) (all_stand_for os) more

abbrev pub which_are_known : List (Option Fixing) → List (Option Region)
which_are_known os = map (λ o. known (stands_for o)) os

-- a variable that would be the unique region
abbrev pub fixing_fault : Option Fixing → List Fault
fixing_fault None = []
fixing_fault (Some f) = fault_by f.is f.at
  where
    fault_by : Found → ℕ → List Fault
    fault_by IsUnique at = fault region_rule at ∷ []
    fault_by (Is r) at = []
    fault_by Missing at = []

abbrev pub fixing_faults : List (Option Fixing) → List Fault
fixing_faults [] = []
fixing_faults (o ∷ os) = fixing_fault o ++ fixing_faults os

-- the heap stands in for one with a fault, and for one that nothing fixes
abbrev pub region_by : Option Fixing → Region
region_by None = TheHeap
region_by (Some f) = found_or_heap f.is
  where
    found_or_heap : Found → Region
    found_or_heap (Is r) = r
    found_or_heap IsUnique = TheHeap
    found_or_heap Missing = TheHeap

abbrev pub regions_by : List (Option Fixing) → List Region
regions_by os = map region_by os
