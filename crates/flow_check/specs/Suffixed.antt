-- View of code: what stands after suffixes.
use Rattle.std.specs.Prelude.{false, ◌≡◌}
use Rattle.check_operators.specs.Values.{value_of}
use Rattle.flow_summaries.specs.Uses.{Uses, uses_as_place}
use Rattle.source_typing.specs.Scope.{Value}
use Rattle.check_faults.specs.Verdicts.{Short, short_of}
use Rattle.flow_effects.specs.Passed.{passage_of}
use Rattle.flow_check.specs.declared.suffixed.Suffixed.{Suffixed}

-- In code it is what is answered of it, and a place that is no local.
pub record IsSuffixed (s : Short Value) (u : Uses) (c : Suffixed) : Type 0 where
  pub judged : short_of value_of c.judged ≡ s
  pub uses : u ≡ uses_as_place c.at c.moves c.look.own (passage_of c.look.passed)
  pub part : c.look.whole ≡ false
