-- View of code: what an expression is lowered in: a program, and the names that are visible.
use Rattle.std.specs.Prelude.{List}
use Rattle.source_meaning.specs.Steps.{World}
use Rattle.source_meaning.specs.Programs.{world_of}
use Rattle.source_lowering.specs.Lowered.{Named}
use Rattle.lower_checks.specs.Numbers.{names_within, numbers_in}
use Rattle.lower_checks.specs.Visible.{names_of}
use Rattle.lower_checks.specs.declared.scope.Scope.{Scope}

abbrev pub world_in : Scope → World
world_in s = world_of s.program.now

-- the locals, from within the blocks of the elements that are being made
abbrev pub names_in : Scope → List Named
names_in s = names_within (numbers_in s.numbers.now) (names_of s.locals.now)
