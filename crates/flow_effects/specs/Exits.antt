-- View of code: what a statement does on each way out of it in code, as its exits.
use Rattle.std.specs.Prelude.{Bool, false, true}
use Rattle.flow_summaries.specs.Exits as rules
use Rattle.flow_effects.specs.Passed.{passage_of}
use Rattle.flow_effects.specs.Tables.{way_if, way_of}
use Rattle.flow_effects.specs.declared.exits.Exits.{Exits}
use Rattle.flow_effects.specs.declared.touch.How.{How}
use Rattle.flow_effects.specs.declared.touch.How.TheVariants as how

abbrev pub exits_of : Exits → rules.Exits
exits_of w = rules.exits (way_if w.falls (passage_of w.whole).effects) (way_of w.breaks) (way_of w.continues) (passage_of w.whole).faults

-- how two ways meet, by which of them are reached
abbrev pub met_by : Bool → Bool → How
met_by true true = how.EachWay
met_by true false = how.FirstWay
met_by false b = how.LastWay
