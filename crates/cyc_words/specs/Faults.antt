-- View of code: the names of what stops a run early.
use Rattle.std.specs.Prelude.{ℕ, List, codes}
use Rattle.cyc_words.specs.declared.faults.Kind.{Kind}
use Rattle.cyc_words.specs.declared.faults.Kind.TheVariants.{NullException, ArrayBounds}
use Rattle.cyc_words.specs.declared.faults.MachineFault.{MachineFault}
use Rattle.cyc_words.specs.declared.faults.MachineFault.TheVariants.{Illegal, Access, Misaligned, Break, BadCall}

-- the text of what a checked operation raises
abbrev pub kind_name : Kind → List ℕ
kind_name NullException = codes "Null_Exception"
kind_name ArrayBounds = codes "Array_bounds"

-- the text of a machine's fault
abbrev pub machine_fault_name : MachineFault → List ℕ
machine_fault_name Illegal = codes "Illegal"
machine_fault_name Access = codes "Access"
machine_fault_name Misaligned = codes "Misaligned"
machine_fault_name Break = codes "Break"
machine_fault_name BadCall = codes "BadCall"
