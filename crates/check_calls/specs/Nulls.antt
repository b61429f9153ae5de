-- View of code: calls all of whose arguments are `NULL`, so that none of them fixes a region variable.
use Rattle.std.specs.Prelude.{◌≡◌, Bool, List, Option, Some, false, option_map, true, ◌&&◌, [], ◌∷◌, ⊤}
use Rattle.cyc_types.specs.Types.{static_type}
use Rattle.cyc_types.specs.declared.ctype.CType.{CType}
use Rattle.check_operators.specs.declared.value.Value.{Value}
use Rattle.source_meaning.specs.Shapes.{may_be_null}
use Rattle.source_typing.specs.Regions.{TheHeap}
use Rattle.source_typing.specs.Scope.{Enclosing, Env, InRegion, InUnique, NotKnown, is_live}
use Rattle.source_typing.specs.Scope as rules
use Rattle.source_typing.specs.Types.{Fat, Null, StaticType, Thin, Unique, is_null}

-- whether a parameter is a pointer that `NULL` converts to
abbrev pub takes_null : Option StaticType → Bool
takes_null (Some (Thin n r t)) = may_be_null n
takes_null (Some (Fat r t)) = true
takes_null (Some (Unique n t)) = n
takes_null p = false

-- the arguments are `NULL`, one for each parameter, and each parameter takes it
abbrev pub AreNulls : List (Option StaticType) → List rules.Value → Type 0
AreNulls [] [] = ⊤
AreNulls (p ∷ ps) (v ∷ vs) = (takes_null p ≡ true) × ((v.type ≡ Null) × AreNulls ps vs)
AreNulls ps vs = ⊥

-- the same of one parameter and its argument in code
abbrev pub is_null_to : Option CType × Value → Bool
is_null_to p = takes_null (option_map static_type p.0) && is_null (static_type p.1.of)

-- the region that what no argument fixes is fixed to is live, and so is the heap
abbrev pub IsLiveAround : Env → Enclosing → Type 0
IsLiveAround g (InRegion r) = (is_live g r ≡ true) × (is_live g TheHeap ≡ true)
IsLiveAround g InUnique = ⊥
IsLiveAround g NotKnown = ⊥
