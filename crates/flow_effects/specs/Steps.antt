-- View of code: what follows one after another in a block: each step before the rest.
use Rattle.std.specs.Prelude.{List, None, Option, Some, length, ℕ, ◌+◌, [], ◌∷◌}
use Rattle.cyc_tree.specs.Tree as tree
use Rattle.flow_summaries.specs.Exits.{Exits, either_exits, entered, exits_in_sequence, lent_in, with_passage}
use Rattle.flow_effects.specs.Exits.{exits_of}
use Rattle.flow_effects.specs.Passed.{added_of, passage_of}
use Rattle.flow_effects.specs.declared.passed.Passed.{Passed}
use Rattle.flow_effects.specs.declared.steps.Declared.{Declared}
use Rattle.flow_effects.specs.declared.steps.Loan.{Loan}
use Rattle.flow_effects.specs.declared.steps.Step.{Step}
use Rattle.flow_effects.specs.declared.steps.Step.TheVariants as step

-- a name that stands there
abbrev pub name_at : ℕ → tree.Name
name_at at = record { at = at; text = [] }

abbrev pub lent_if : Option Loan → Exits → Exits
lent_if None w = w
lent_if (Some l) w = lent_in l.at (name_at l.name_at) l.number w

abbrev pub passed_if : Option Passed → Exits → Exits
passed_if None w = w
passed_if (Some p) w = with_passage (passage_of p) w

abbrev pub declared_before : Declared → Exits → Exits
declared_before d w = passed_if d.initial (lent_if d.loan (entered d.around (length (added_of d.begun) + d.around) (added_of d.begun) w))

abbrev pub step_before : Step → Exits → Exits
step_before (step.Executed v) w = exits_in_sequence (exits_of v) w
step_before (step.Declared d) w = declared_before d w
step_before (step.Way v) w = either_exits (exits_of v) w

abbrev pub all_before : List Step → Exits → Exits
all_before [] w = w
all_before (s ∷ ss) w = step_before s (all_before ss w)
