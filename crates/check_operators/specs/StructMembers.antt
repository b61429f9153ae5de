-- View of code: members of structs by what is known of tags, and by the outermost pointers of types.
use Rattle.std.specs.Prelude.{Bool, List, false, true, ℕ}
use Rattle.cyc_tree.specs.Tree.{Name}
use Rattle.cyc_types.specs.declared.layer.Layer.{Layer}
use Rattle.check_operators.specs.Pointers.{seat_behind}
use Rattle.source_typing.specs.Faults.{region_rule, type_rule}
use Rattle.source_typing.specs.Places.{part_of}
use Rattle.source_typing.specs.Regions.{Region}
use Rattle.source_typing.specs.Scope.{Env, Seat, Value}
use Rattle.source_typing.specs.Types.{StaticType, Struct}
use Rattle.source_typing.specs.Verdicts.{Verdict, refuse}

-- a member of a place, which is somewhere
abbrev pub member_on : Env → Name → ℕ → StaticType → Seat → Verdict Value
member_on g f at (Struct tag rs) s = part_of g at s tag rs f
member_on g f at t s = refuse type_rule at

-- a member of a struct that a pointer leads to, by whether its region is live
abbrev pub live_part : Env → Name → ℕ → Layer → Bool → List ℕ → List Region → Verdict Value
live_part g f at l true tag rs = part_of g at (seat_behind l) tag rs f
live_part g f at l false tag rs = refuse region_rule at

-- the same of what is no pointer
abbrev pub arrow_on : Env → Name → ℕ → Layer → Bool → StaticType → Verdict Value
arrow_on g f at l live (Struct tag rs) = live_part g f at l live tag rs
arrow_on g f at l live t = refuse type_rule at
