-- View of code: a pointer again and again, or into one region after the other, in code.
use Rattle.std.specs.Prelude.{List}
use Rattle.cyc_types.specs.Pointers.{BeginsWith}
use Rattle.cyc_types.specs.declared.layer.Layer.{Layer}
use Rattle.cyc_types.specs.declared.run.Run.{Run}

-- pointers begin with it
abbrev pub IsRun : List Layer → Run → Type 0
IsRun ls r = BeginsWith r.steps r.count r.pointer ls
