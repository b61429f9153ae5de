-- Believed, for this crate's laws: what holds of the Core of all programs that lowering takes.
use Rattle.cyc_tree.specs.Tree.{Program}
use Rattle.core_meaning.specs.Selectable.{IsSelectable}
use Rattle.source_lowering.specs.Lowerable.{IsLowerable}
use Rattle.source_lowering.specs.Programs.{program_code}

-- each of its operations names temporaries, locals, functions' arguments and data that there are, and its layouts are regular
abbrev pub LoweredAreSelectable : Type 0
LoweredAreSelectable = (p : Program) → IsLowerable p → IsSelectable (program_code p)
