-- View of code: the fault of flow that a program is refused with.
use Rattle.std.specs.Prelude.{None, Option, Some, true, ◌≡◌}
use Rattle.cyc_tree.specs.Tree.{Program}
use Rattle.source_typing.specs.Answers.{first_fault}
use Rattle.source_typing.specs.Faults.{Fault, consumed_rule, copy_rule, fault, is_of_flow, lent_rule}
use Rattle.unique_flow.specs.declared.fault.FlowFault.{FlowFault}
use Rattle.unique_flow.specs.declared.fault.FlowFault.TheVariants as flow

-- a fault as the rules say it
abbrev pub IsAs : FlowFault → Fault → Type 0
IsAs (flow.Consumed at) f = (f ≡ fault consumed_rule at)
IsAs (flow.Lent at) f = (f ≡ fault lent_rule at)
IsAs (flow.Copy at) f = (f ≡ fault copy_rule at)
IsAs flow.Memory f = ⊥

-- It is the program's earliest fault by all rules, unless memory has run out.
abbrev pub IsFirstFault : FlowFault → Program → Type 0
IsFirstFault (flow.Consumed at) program = (first_fault program ≡ Some (fault consumed_rule at))
IsFirstFault (flow.Lent at) program = (first_fault program ≡ Some (fault lent_rule at))
IsFirstFault (flow.Copy at) program = (first_fault program ≡ Some (fault copy_rule at))
IsFirstFault flow.Memory program = Unit {0}

-- a fault, if there is one, is Consumed, Lent or Copy
abbrev pub IsOfFlowIfSome : Option Fault → Type 0
IsOfFlowIfSome None = Unit {0}
IsOfFlowIfSome (Some f) = (is_of_flow f.kind ≡ true)
