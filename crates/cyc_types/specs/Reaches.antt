-- View of code: how far a thin pointer leads in code, as the rules say it.
use Rattle.source_meaning.specs.Shapes.{MayBeNull, NeverNull}
use Rattle.cyc_types.specs.declared.reach.Reach.{Reach}
use Rattle.cyc_types.specs.declared.reach.Reach.TheVariants as code
use Rattle.source_meaning.specs.Shapes as rules

abbrev pub reach_of : Reach → rules.Reach
reach_of (code.MayBeNull count) = MayBeNull count
reach_of (code.NeverNull count) = NeverNull count
