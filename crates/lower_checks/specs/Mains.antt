-- View of code: the function that a program begins with is there.
use Rattle.std.specs.Prelude.{◌<◌, length}
use Rattle.cyc_tree.specs.Tree.{Program}
use Rattle.source_lowering.specs.Programs.{program_code}

abbrev pub HasMain : Program → Type 0
HasMain p = ((program_code p).main < length (program_code p).functions)
