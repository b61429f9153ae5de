-- Believed: all faults of a program, and the one that is answered.
use Rattle.std.specs.Prelude.{List, Option, false, true, ◌++◌}
use Rattle.cyc_tree.specs.Tree.{Program}
use Rattle.source_typing.specs.Faults.{Fault, earliest}
use Rattle.source_typing.specs.Left.{flow_faults}
use Rattle.source_typing.specs.Programs.{typing_fault, typing_faults}

-- Every rule: of names, types, regions, effects and sizes, and of flow, which comes after all others.
abbrev pub program_faults : Program → List Fault
program_faults items = typing_faults false items ++ flow_faults items

-- the earliest fault of the first phase that has one
abbrev pub first_fault : Program → Option Fault
first_fault items = earliest (program_faults items)

-- the earliest fault of names, types, regions and sizes, without the rules on liveness and effects
abbrev pub type_fault : Program → Option Fault
type_fault items = typing_fault true items

-- the earliest fault of names, types, regions, effects and sizes
abbrev pub effect_fault : Program → Option Fault
effect_fault items = typing_fault false items
