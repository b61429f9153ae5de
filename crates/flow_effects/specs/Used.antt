-- View of code: what an expression does that is used in one way.
use Rattle.std.specs.Prelude.{◌≡◌}
use Rattle.flow_summaries.specs.Passages.{Passage}
use Rattle.flow_summaries.specs.Uses.{Uses}
use Rattle.flow_effects.specs.Passed.{passage_of}
use Rattle.flow_effects.specs.declared.used.Usage.{Usage}
use Rattle.flow_effects.specs.declared.used.Usage.TheVariants as usage
use Rattle.flow_effects.specs.declared.used.Used.{Used}

abbrev pub part_of : Usage → Uses → Passage
part_of usage.Value u = u.value
part_of usage.Look u = u.look
part_of usage.Place u = u.place
part_of usage.Target u = u.target

-- in code it is that of the rules
pub record IsUsed (how : Usage) (u : Uses) (r : Used) : Type 0 where
  pub passed : passage_of r.passed ≡ part_of how u
  pub whole : r.whole ≡ u.whole
  pub own : r.own ≡ u.own
