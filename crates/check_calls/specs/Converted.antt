-- View of code: conversions of a call's arguments in code, as the rules say them.
use Rattle.std.specs.Prelude.{Bool, List, None, Option, Some, false, not, true, ℕ, ◌||◌, if◌then◌else◌, nat_eq, [], ◌∷◌, ◌++◌}
use Rattle.std.specs.declared.alloc.Global.{Global}
use Rattle.std.specs.declared.vec.Vec.{Vec}
use Rattle.cyc_types.specs.Regions.{regions_of}
use Rattle.cyc_types.specs.Types.{static_type}
use Rattle.cyc_types.specs.declared.ctype.CType.{CType}
use Rattle.cyc_types.specs.declared.region.RegionId.{RegionId}
use Rattle.check_operators.specs.Values.{value_of}
use Rattle.check_operators.specs.declared.value.Value.{Value}
use Rattle.source_typing.specs.Calls.{if_regions_known}
use Rattle.source_typing.specs.Conversions.{converts}
use Rattle.source_typing.specs.Faults.{Fault, type_rule}
use Rattle.source_typing.specs.Fixing.{all_regions, is_known}
use Rattle.source_typing.specs.Regions.{Region}
use Rattle.source_typing.specs.Scope.{Env, value}
use Rattle.source_typing.specs.Scope as rules
use Rattle.source_typing.specs.Tables.{argument}
use Rattle.source_typing.specs.Types.{StaticType, renamed}
use Rattle.source_typing.specs.Verdicts.{Unjudged, Verdict}
use Rattle.check_faults.specs.Verdicts.{Is, NotJudged, Short, Wrong}

-- whether a conversion to a parameter's type is looked at with its regions, by whether a variable has a fault and by those that are known
abbrev pub is_whole : Bool → List (Option Region) → StaticType → Bool
is_whole partly some t = not partly || all_regions (is_known some) t

-- of one argument: by whether a variable has a fault, those that are known, and what all stand for; to a parameter of no known type there is none
abbrev pub argument_faults : Bool → Env → List (Option Region) → List Region → Option CType → Value → List Fault
argument_faults partly g some rs None v = []
argument_faults partly g some rs (Some p) v =
    if_regions_known (is_whole partly some (static_type p)) (converts g (value_of v) (renamed (argument rs) (static_type p)))

abbrev pub arguments_faults : Bool → Env → List (Option Region) → List Region → List (Option CType) → List Value → List Fault
arguments_faults partly g some rs (p ∷ ps) (v ∷ vs) = argument_faults partly g some rs p v ++ arguments_faults partly g some rs ps vs
arguments_faults partly g some rs ps vs = []

-- a fault that is found, where it is Type
abbrev pub type_alone : Option Fault → Option Fault
type_alone None = None
type_alone (Some f) = (if nat_eq f.kind type_rule then Some f else None)

abbrev pub counted : Bool → Option Fault → Option Fault
counted whole o = (if whole then o else type_alone o)

-- a fault that is found, or else what is in order, where all of it is known
abbrev pub short_unless : {A : Type 0} → Option Fault → Bool → A → Short A
short_unless (Some f) known a = Wrong f
short_unless None true a = Is a
short_unless None false a = NotJudged

-- the value that a call has, by its type
abbrev pub given_of : ℕ → Option StaticType → Verdict rules.Value
given_of at None = Unjudged
given_of at (Some t) = value at t

-- what the variables of a call stand for in code
abbrev pub regions_in : Vec RegionId Global → List Region
regions_in rs = regions_of rs.items
