-- View of code: types that are no pointers, as the rules say them.
use Rattle.source_typing.specs.Types.{Char, Handle, Int, Key, Null, StaticType, Struct, Union, Unsigned, Void}
use Rattle.cyc_types.specs.Regions.{region_of, regions_of}
use Rattle.cyc_types.specs.declared.base.BaseType.{BaseType}
use Rattle.cyc_types.specs.declared.base.BaseType.TheVariants as code

abbrev pub base_type : BaseType → StaticType
base_type code.Int = Int
base_type code.Unsigned = Unsigned
base_type code.Char = Char
base_type code.Void = Void
base_type code.Null = Null
base_type (code.Handle r) = Handle (region_of r)
base_type (code.Key r) = Key (region_of r)
base_type (code.Struct tag rs) = Struct tag.now (regions_of rs.items)
base_type (code.Union tag rs) = Union tag.now (regions_of rs.items)
