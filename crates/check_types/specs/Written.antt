-- View of code: types as a text writes them in code, as the rules say them.
use Rattle.std.specs.Prelude.{List, Option, map, option_map, [], ◌∷◌}
use Rattle.source_typing.specs.Regions.{Region}
use Rattle.source_typing.specs.Types.{Char, Fat, Handle, Int, Key, PartialType, Struct, Thin, Union, Unique, Unsigned, Void}
use Rattle.cyc_types.specs.Reaches.{reach_of}
use Rattle.cyc_types.specs.Regions.{region_of}
use Rattle.cyc_types.specs.declared.region.RegionId.{RegionId}
use Rattle.check_types.specs.declared.base.WrittenBase.{WrittenBase}
use Rattle.check_types.specs.declared.base.WrittenBase.TheVariants as base
use Rattle.check_types.specs.declared.layer.WrittenLayer.{WrittenLayer}
use Rattle.check_types.specs.declared.layer.WrittenLayer.TheVariants as code
use Rattle.check_types.specs.declared.settling.WrittenType.{WrittenType}

-- a pointer to a type
abbrev pub partial_to : WrittenLayer → PartialType → PartialType
partial_to (code.Thin n r) t = Thin (reach_of n) (option_map region_of r) t
partial_to (code.Fat r) t = Fat (option_map region_of r) t
partial_to (code.Unique n) t = Unique n t

-- pointers on a type, the outermost last
abbrev pub partial_under : PartialType → List WrittenLayer → PartialType
partial_under t [] = t
partial_under t (l ∷ ls) = partial_under (partial_to l t) ls

-- region arguments that may be missing
abbrev pub partial_regions : List (Option RegionId) → List (Option Region)
partial_regions rs = map (λ r. option_map region_of r) rs

-- a type that is no pointer
abbrev pub partial_base : WrittenBase → PartialType
partial_base base.Int = Int
partial_base base.Unsigned = Unsigned
partial_base base.Char = Char
partial_base base.Void = Void
partial_base (base.Handle r) = Handle (option_map region_of r)
partial_base (base.Key r) = Key (option_map region_of r)
partial_base (base.Struct tag rs) = Struct tag.now (partial_regions rs.items)
partial_base (base.Union tag rs) = Union tag.now (partial_regions rs.items)

abbrev pub partial_type : WrittenType → PartialType
partial_type w = partial_under (partial_base w.base) w.layers.items
