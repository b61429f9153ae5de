-- Assignments.
use Rattle.std.proofs.Common.{◌≡◌, refl}
use Rattle.source_typing.specs.Places.{assigned_type, if_copyable}
use Rattle.source_typing.specs.Scope.{Env}
use Rattle.source_typing.specs.Types.{Char, Fat, Handle, Int, Key, Null, StaticType, Struct, Thin, Union, Unique, Unsigned, Void}
use Rattle.check_operators.specs.TypeKinds.{keeps_value}

-- whether a type that is no struct is copied doesn't depend on what is declared
pub assigned_is : (g : Env) (t : StaticType) → assigned_type g t ≡ if_copyable (keeps_value t) t
assigned_is g Int = refl
assigned_is g Unsigned = refl
assigned_is g Char = refl
assigned_is g Void = refl
assigned_is g Null = refl
assigned_is g (Thin n r t) = refl
assigned_is g (Fat r t) = refl
assigned_is g (Unique n t) = refl
assigned_is g (Handle r) = refl
assigned_is g (Key r) = refl
assigned_is g (Struct tag rs) = refl
assigned_is g (Union tag rs) = refl
