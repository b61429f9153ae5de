-- View of code: pointers with their missing regions from another type's.
use Rattle.std.specs.Prelude.{List, None, Option, Some, length, option_map, suc, zero, ℕ, [], ◌∷◌}
use Rattle.source_typing.specs.Missing.{fat_with, or_found, outer_region, pointee_of, thin_with, unique_with}
use Rattle.source_typing.specs.Regions.{Region}
use Rattle.source_typing.specs.Tables.{or_heap}
use Rattle.source_typing.specs.Types.{StaticType}
use Rattle.source_typing.specs.Written.{Found, Is, IsUnique, Missing}
use Rattle.cyc_types.specs.Reaches.{reach_of}
use Rattle.cyc_types.specs.Regions.{region_of}
use Rattle.cyc_types.specs.declared.layer.Layer.{Layer}
use Rattle.cyc_types.specs.declared.layer.Layer.TheVariants as pointer
use Rattle.check_types.specs.declared.layer.WrittenLayer.{WrittenLayer}
use Rattle.check_types.specs.declared.layer.WrittenLayer.TheVariants as code

-- the region of a pointer, where there is one
abbrev pub outer_found : Option Layer → Found
outer_found None = Missing
outer_found (Some (pointer.Thin n r)) = Is (region_of r)
outer_found (Some (pointer.Fat r)) = Is (region_of r)
outer_found (Some (pointer.Unique n)) = IsUnique

-- what a type leads to through this number of pointers
abbrev pub reached : ℕ → Option StaticType → Option StaticType
reached zero s = s
reached (suc n) s = reached n (pointee_of s)

-- a pointer with its missing region found, to a type
abbrev pub layer_from : WrittenLayer → Found → Option StaticType → Option StaticType
layer_from (code.Thin n r) f t = thin_with (reach_of n) (or_found (option_map region_of r) f) t
layer_from (code.Fat r) f t = fat_with (or_found (option_map region_of r) f) t
layer_from (code.Unique n) f t = unique_with n t

-- a region argument, the one at the same place where it is missing, and else the heap
abbrev pub argument_from : Option Region → Option Region → Region
argument_from (Some r) o = r
argument_from None o = or_heap o

-- pointers with their missing regions from a type, the outermost last
abbrev pub all_from : List WrittenLayer → Option StaticType → Option StaticType → Option StaticType
all_from [] s t = t
all_from (l ∷ ls) s t = all_from ls s (layer_from l (outer_region (reached (length ls) s)) t)
