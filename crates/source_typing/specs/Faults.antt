-- Believed: faults of a program, and which of them is answered.
use Rattle.std.specs.Prelude.{Bool, List, None, Option, Some, false, nat_le, nat_lt, true, ℕ, ◌+◌, ◌*◌, ◌&&◌, if◌then◌else◌, [], ◌∷◌}

-- a broken rule, by its number, and the place in the text
pub record Fault : Type 0 where
  pub kind : ℕ
  pub at : ℕ

abbrev pub fault : ℕ → ℕ → Fault
fault kind at = record { kind = kind; at = at }

-- ---- the rules by number

-- a name that isn't known, or that is declared twice
abbrev pub name_rule : ℕ
name_rule = 4

-- a wrong type or form
abbrev pub type_rule : ℕ
type_rule = 5

-- a wrong region name, or a region that isn't live
abbrev pub region_rule : ℕ
region_rule = 6

-- a region that doesn't outlive another one
abbrev pub outlives_rule : ℕ
outlives_rule = 7

-- a call whose effect isn't live
abbrev pub effect_rule : ℕ
effect_rule = 8

-- a local that is needed after it was moved or freed
abbrev pub consumed_rule : ℕ
consumed_rule = 9

-- a local that is used while it is lent
abbrev pub lent_rule : ℕ
lent_rule = 10

-- what can't be copied would be
abbrev pub copy_rule : ℕ
copy_rule = 11

-- too many bytes
abbrev pub size_rule : ℕ
size_rule = 12

-- ---- the fault that is answered

-- The rules are looked at in two phases: names, types, regions, effects and sizes; and then flow (Consumed, Lent, Copy).
abbrev pub is_of_flow : ℕ → Bool
is_of_flow kind = nat_lt effect_rule kind && nat_lt kind size_rule

-- within a phase: by place first, and then by the rule's number, which is below 16
abbrev pub rank_of : Fault → ℕ
rank_of f = f.at * 16 + f.kind

-- whether the first of two faults is answered: it is of an earlier phase, or of the same one and not later
abbrev pub is_before : Fault → Fault → Bool
is_before f g = in_phases (is_of_flow f.kind) (is_of_flow g.kind)
  where
    in_phases : Bool → Bool → Bool
    in_phases false true = true
    in_phases true false = false
    in_phases _ _ = nat_le (rank_of f) (rank_of g)

abbrev pub sooner_of : Fault → Option Fault → Option Fault
sooner_of f None = Some f
sooner_of f (Some g) = Some (if is_before f g then f else g)

-- the earliest fault of the first phase that has one
abbrev pub earliest : List Fault → Option Fault
earliest [] = None
earliest (f ∷ fs) = sooner_of f (earliest fs)

-- ---- lists of faults

-- a test of a rule: in order, or a fault
abbrev pub test : Bool → ℕ → ℕ → List Fault
test fits kind at = (if fits then [] else fault kind at ∷ [])

-- A phrase with a fault in a part isn't checked itself: the faults of its parts, or else its own.
abbrev pub own_after : List Fault → List Fault → List Fault
own_after own [] = own
own_after own (f ∷ fs) = f ∷ fs

abbrev pub is_clean : List Fault → Bool
is_clean [] = true
is_clean (f ∷ fs) = false
