-- View of code: what a phrase in code does to locals, by their numbers: effects and faults.
use Rattle.std.specs.Prelude.{Bool, None, Option, Some, false, option_map, true, ℕ}
use Rattle.flow_summaries.specs.Effects.{Effects}
use Rattle.flow_summaries.specs.Passages.{Faults, Passage}
use Rattle.check_faults.specs.declared.fault.Fault.{Fault}
use Rattle.flow_effects.specs.Touches.{Touch, touch_at}
use Rattle.flow_effects.specs.declared.table.Table.{Table}

abbrev pub table_at : Table → ℕ → Touch
table_at t i = touch_at t.touches i

abbrev pub effects_in : (ℕ → Touch) → Effects
effects_in t i = (t i).effect

abbrev pub faults_in : (ℕ → Touch) → Option Fault → Faults
faults_in t f = record { caused = λ i. (t i).caused; always = f }

abbrev pub passage_in : (ℕ → Touch) → Option Fault → Passage
passage_in t f = record { effects = effects_in t; faults = faults_in t f }

-- a way, where it is reached
abbrev pub way_if : Bool → Effects → Option Effects
way_if true e = Some e
way_if false e = None

abbrev pub way_of : Option Table → Option Effects
way_of w = option_map (λ t. effects_in (table_at t)) w
