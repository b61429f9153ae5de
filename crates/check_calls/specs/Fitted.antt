-- View of code: regions of a parameter's type with those of an argument's, by the pointers of both in code.
use Rattle.std.specs.Prelude.{List, None, Some, length, map, nat_eq, option_map, ℕ, if◌then◌else◌, [], ◌∷◌, ◌++◌, Option}
use Rattle.cyc_types.specs.Bases.{base_type}
use Rattle.cyc_types.specs.Regions.{region_of}
use Rattle.cyc_types.specs.Types.{static_type}
use Rattle.cyc_types.specs.declared.ctype.CType.{CType}
use Rattle.cyc_types.specs.declared.layer.Layer.{Layer}
use Rattle.cyc_types.specs.declared.layer.Layer.TheVariants as pointer
use Rattle.check_operators.specs.Values.{value_of}
use Rattle.check_operators.specs.declared.value.Value.{Value}
use Rattle.source_typing.specs.Fixing.{Fit, all_fits, fit, fits_of}
use Rattle.source_typing.specs.Types.{StaticType}
use Rattle.source_typing.specs.Written.{Found, Is, IsUnique}

abbrev pub found_in : Layer → Found
found_in (pointer.Thin n r) = Is (region_of r)
found_in (pointer.Fat r) = Is (region_of r)
found_in (pointer.Unique n) = IsUnique

-- a pointer of a parameter's type with the one at the same place
abbrev pub layer_fits : ℕ → Layer → Layer → List Fit
layer_fits at (pointer.Thin n r) k = fit at (region_of r) (found_in k) ∷ []
layer_fits at (pointer.Fat r) k = fit at (region_of r) (found_in k) ∷ []
layer_fits at (pointer.Unique n) k = []

-- what stands at a place of both, if there is something
abbrev pub place_fits : ℕ → Option Layer → Option Layer → List Fit
place_fits at (Some l) (Some k) = layer_fits at l k
place_fits at l k = []

-- from the innermost one on
abbrev pub pointer_fits : ℕ → List Layer → List Layer → List Fit
pointer_fits at (l ∷ ls) (k ∷ ks) = layer_fits at l k ++ pointer_fits at ls ks
pointer_fits at ls ks = []

-- what is under the pointers, where there are as many
abbrev pub base_fits : ℕ → CType → CType → List Fit
base_fits at t u = (if nat_eq (length t.layers.items) (length u.layers.items) then fits_of at (base_type t.base) (Some (base_type u.base)) else [])

-- ---- a call's parameters and arguments, as the rules say them

abbrev pub parameter_types : List (Option CType) → List (Option StaticType)
parameter_types ps = map (option_map static_type) ps

-- a parameter of no known type fixes nothing
abbrev pub parameter_fits : Option CType → Value → List Fit
parameter_fits None v = []
parameter_fits (Some t) v = fits_of v.at (static_type t) (Some (static_type v.of))

abbrev pub fits_all : List (Option CType) → List Value → List Fit
fits_all ps vs = all_fits (parameter_types ps) (map value_of vs)
