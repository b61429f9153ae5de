-- View of code: what a phrase with one way out does in code, as its passage.
use Rattle.std.specs.Prelude.{None, Option, Some, ℕ, [], ◌∷◌, ◌≡◌}
use Rattle.source_typing.specs.States.{Held, Plain, State, States}
use Rattle.flow_summaries.specs.Effects.{Effects, Holds, effects_below, met_ways, then_effects, to_head, with_number}
use Rattle.flow_summaries.specs.Exits.{faults_lent}
use Rattle.flow_summaries.specs.Passages.{Passage, begun, faults_after}
use Rattle.flow_effects.specs.Tables.{passage_in, table_at}
use Rattle.flow_effects.specs.declared.passed.Begun.{Begun}
use Rattle.flow_effects.specs.declared.passed.Begun.TheVariants as begin
use Rattle.flow_effects.specs.declared.passed.Passed.{Passed}

abbrev pub passage_of : Passed → Passage
passage_of p = passage_in (table_at p.table) p.always

abbrev pub state_of : Begun → State
state_of begin.Plain = Plain
state_of begin.Held = Held

-- the states of what begins
abbrev pub added_of : Option Begun → States
added_of None = []
added_of (Some b) = state_of b ∷ []

-- a passage where locals go out of scope that began in it
abbrev pub left_after : ℕ → ℕ → States → Passage → Passage
left_after n m added p = record { effects = effects_below n p.effects; faults = begun n m added p.faults }

-- a passage in which a local is lent; the loan names it at this position
abbrev pub lent_within : ℕ → ℕ → Passage → Passage
lent_within at i p = record { effects = with_number i Holds p.effects; faults = faults_lent at i p.faults }

-- a passage whose effects meet those of another way, where that one is reached
pub record IsMetBy (p : Passage) (way : Option Effects) (met : Passage) : Type 0 where
  pub effects : Some met.effects ≡ met_ways (Some p.effects) way
  pub faults : met.faults ≡ p.faults

-- a loop with this body, which is left from its head with these effects
abbrev pub looped_from : Passage → Effects → Passage
looped_from p left = record {
  effects = then_effects (to_head (Some p.effects)) left;
  faults = faults_after (to_head (Some p.effects)) p.faults;
}
