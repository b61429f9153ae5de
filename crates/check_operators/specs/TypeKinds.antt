-- View of code: kinds of types that operators and assignments ask for.
use Rattle.std.specs.Prelude.{Bool, None, Option, Some, false, true}
use Rattle.cyc_types.specs.declared.layer.Layer.{Layer}
use Rattle.cyc_types.specs.declared.layer.Layer.TheVariants as pointer
use Rattle.source_typing.specs.Types.{Char, Key, StaticType, Struct, Thin, Union, Unique, Unsigned}

abbrev pub is_char : StaticType → Bool
is_char Char = true
is_char t = false

abbrev pub is_unsigned : StaticType → Bool
is_unsigned Unsigned = true
is_unsigned t = false

-- whether the outermost pointer is a fat one
abbrev pub is_fat_outside : Option Layer → Bool
is_fat_outside (Some (pointer.Fat r)) = true
is_fat_outside (Some (pointer.Thin n r)) = false
is_fat_outside (Some (pointer.Unique n)) = false
is_fat_outside None = false

-- the same of a thin one
abbrev pub is_thin : StaticType → Bool
is_thin (Thin n r t) = true
is_thin t = false

abbrev pub is_thin_outside : Option Layer → Bool
is_thin_outside (Some (pointer.Thin n r)) = true
is_thin_outside (Some (pointer.Fat r)) = false
is_thin_outside (Some (pointer.Unique n)) = false
is_thin_outside None = false

-- whether an assignment to a type has the stored value
abbrev pub keeps_value : StaticType → Bool
keeps_value (Struct tag rs) = false
keeps_value (Union tag rs) = false
keeps_value (Unique n t) = false
keeps_value (Key r) = false
keeps_value t = true
