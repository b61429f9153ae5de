-- View of code: where a value is made in code, as the rules say it.
use Rattle.std.specs.Prelude.{None, Option, Some}
use Rattle.cyc_types.specs.Regions.{region_of}
use Rattle.check_operators.specs.declared.making.Goal as code
use Rattle.check_operators.specs.declared.making.Goal.TheVariants as goal
use Rattle.source_typing.specs.Making.{Goal, NoHandle, To, ToUnique}
use Rattle.source_typing.specs.Regions.{Region}
use Rattle.source_typing.specs.Types.{Handle, StaticType}

abbrev pub goal_in : code.Goal → Goal
goal_in (goal.To r) = To (region_of r)
goal_in goal.ToUnique = ToUnique
goal_in goal.NoHandle = NoHandle

-- the region of a handle
abbrev pub region_handled : StaticType → Option Region
region_handled (Handle r) = Some r
region_handled t = None
