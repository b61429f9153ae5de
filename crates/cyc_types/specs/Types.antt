-- View of code: a type in code, as the rules say it.
use Rattle.source_typing.specs.Types.{StaticType}
use Rattle.cyc_types.specs.Bases.{base_type}
use Rattle.cyc_types.specs.Layers.{pointed}
use Rattle.cyc_types.specs.declared.ctype.CType.{CType}

-- the type: pointers on a base
abbrev pub static_type : CType → StaticType
static_type t = pointed (base_type t.base) t.layers.items
