-- View of code: the first faults of a program, by the rules of `source_typing`.
use Rattle.std.specs.Prelude.{◌≡◌, Option}
use Rattle.cyc_tree.specs.Tree.{Program}
use Rattle.source_typing.specs.Answers.{effect_fault, type_fault}
use Rattle.check_faults.specs.Faults.{faults_of}
use Rattle.check_faults.specs.declared.fault.Fault.{Fault}

-- It is the earliest fault of the program by the rules without those on live regions and effects, and none where they find none.
abbrev pub IsTypeFault : Option Fault → Program → Type 0
IsTypeFault found program = faults_of found ≡ type_fault program

-- the same by all rules but those of flow
abbrev pub IsEffectFault : Option Fault → Program → Type 0
IsEffectFault found program = faults_of found ≡ effect_fault program
