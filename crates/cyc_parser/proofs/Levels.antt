-- The levels of operators, by how many there are from each on.
use Rattle.std.proofs.Common.{◌≡◌, ◌-◌, refl}
use Rattle.cyc_parser.specs.declared.operator.Level.{Level}
use Rattle.cyc_parser.specs.declared.operator.Level.TheVariants.{BitOr, BitXor, BitAnd, Equality, Relation, Shift, Sum, Term}
use Rattle.cyc_parser.specs.Levels.{levels_from, number_of}
use Rattle.cyc_parser.specs.ReadExpressions.{level_over}

pub number_over : (level : Level) → level_over (levels_from level - 1) ≡ number_of level
number_over BitOr = refl
number_over BitXor = refl
number_over BitAnd = refl
number_over Equality = refl
number_over Relation = refl
number_over Shift = refl
number_over Sum = refl
number_over Term = refl
