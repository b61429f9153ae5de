use Rattle.std.proofs.Common.{None, Some, ap₂, ℕ}
use Rattle.flow_summaries.specs.Exits.{exits}
use Rattle.flow_summaries.specs.Passages.{Passage}
use Rattle.flow_effects.specs.Tables.{effects_in}
use Rattle.flow_effects.specs.Touches.{Touch}
use Rattle.flow_effects.proofs.exits.Exits.continues.Goals as goal

pub returns : goal.returns
returns c = ap₂ (λ (p : Passage) (t : ℕ → Touch). exits None None (Some (effects_in t)) p.faults) c.nothing.ensures c.nothing-2.ensures
