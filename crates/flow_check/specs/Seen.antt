-- View of code: what an expression is, beside what it does.
use Rattle.std.specs.Prelude.{◌≡◌}
use Rattle.check_faults.specs.Verdicts.{Short, short_of}
use Rattle.check_operators.specs.Values.{value_of}
use Rattle.flow_check.specs.declared.seen.Seen.{Seen}
use Rattle.flow_effects.specs.Used.{IsUsed}
use Rattle.flow_effects.specs.declared.used.Usage.{Usage}
use Rattle.flow_summaries.specs.Uses.{Uses}
use Rattle.source_typing.specs.Scope.{Value}

-- in code it is what is answered of it, and what it does that is used in one way
pub record IsSeen (how : Usage) (s : Short Value) (u : Uses) (r : Seen) : Type 0 where
  pub judged : short_of value_of r.judged ≡ s
  pub used : IsUsed how u r.used
