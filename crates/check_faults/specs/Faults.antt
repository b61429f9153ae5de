-- Believed: faults in code, as the rules say them.
use Rattle.std.specs.Prelude.{List, None, Option, Some, codes, option_map, ℕ, if◌then◌else◌}
use Rattle.source_typing.specs.Faults.{
  consumed_rule,
  copy_rule,
  effect_rule,
  fault,
  is_before,
  lent_rule,
  name_rule,
  outlives_rule,
  region_rule,
  size_rule,
  sooner_of,
  type_rule,
}
use Rattle.check_faults.specs.declared.fault.Fault.{Fault}
use Rattle.check_faults.specs.declared.fault.FaultKind.{FaultKind}
use Rattle.check_faults.specs.declared.fault.FaultKind.TheVariants as kind
use Rattle.source_typing.specs.Faults as rules

-- the number of a rule
abbrev pub number_of : FaultKind → ℕ
number_of kind.Name = name_rule
number_of kind.Typing = type_rule
number_of kind.Region = region_rule
number_of kind.Outlives = outlives_rule
number_of kind.Effect = effect_rule
number_of kind.Consumed = consumed_rule
number_of kind.Lent = lent_rule
number_of kind.Copy = copy_rule
number_of kind.Size = size_rule

-- the word that a rule is printed as
abbrev pub word_of : FaultKind → List ℕ
word_of kind.Name = codes "Name"
word_of kind.Typing = codes "Type"
word_of kind.Region = codes "Region"
word_of kind.Outlives = codes "Outlives"
word_of kind.Effect = codes "Effect"
word_of kind.Consumed = codes "Consumed"
word_of kind.Lent = codes "Lent"
word_of kind.Copy = codes "Copy"
word_of kind.Size = codes "Size"

-- a fault as the rules say it
abbrev pub fault_of : Fault → rules.Fault
fault_of f = fault (number_of f.kind) f.at

abbrev pub faults_of : Option Fault → Option rules.Fault
faults_of f = option_map fault_of f

-- the one of two faults that is answered, by the rules and in code
abbrev pub first_of : Option rules.Fault → Option rules.Fault → Option rules.Fault
first_of None g = g
first_of (Some f) g = sooner_of f g

abbrev pub first_found : Fault → Fault → Fault
first_found f g = (if is_before (fault_of f) (fault_of g) then f else g)

abbrev pub sooner_found : Option Fault → Option Fault → Option Fault
sooner_found None g = g
sooner_found (Some f) None = Some f
sooner_found (Some f) (Some g) = Some (first_found f g)
