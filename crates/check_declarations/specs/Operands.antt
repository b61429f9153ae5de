-- View of code: names that have to be of a kind of type.
use Rattle.std.specs.Prelude.{Bool, Option, Some, false, true}
use Rattle.cyc_types.specs.declared.layer.Layer.{Layer}
use Rattle.cyc_types.specs.declared.layer.Layer.TheVariants.{Unique}
use Rattle.source_typing.specs.Types.{StaticType, is_key, is_unique}
use Rattle.check_declarations.specs.declared.operand.Kind.{Kind}
use Rattle.check_declarations.specs.declared.operand.Kind.TheVariants as kind

-- whether a type is of a kind
abbrev pub is_kind : Kind → StaticType → Bool
is_kind kind.Unique = is_unique
is_kind kind.Key = is_key

-- whether a type is a unique pointer, by its outermost pointer
abbrev pub outside_unique : Option Layer → Bool
outside_unique (Some (Unique n)) = true
outside_unique o = false
