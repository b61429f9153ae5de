-- Believed: programs that a rule refuses, and that do get stuck.
use Rattle.std.specs.Prelude.{◌≡◌, ℕ, [], ◌∷◌}
use Rattle.cyc_tree.specs.Tree.{Program}
use Rattle.cyc_words.specs.Events.{SourceEnding}
use Rattle.source_meaning.specs.Programs.{source}
use Rattle.source_typing.specs.Answers.{program_faults}
use Rattle.source_typing.specs.Faults.{fault, region_rule, outlives_rule, effect_rule, consumed_rule, lent_rule, copy_rule}

-- A program that breaks this rule at one place, and no other rule. Its run on the empty input gets stuck.
pub record IsNeeded (rule : ℕ) : Type 0 where
  pub program : Program
  pub at : ℕ
  pub refused : program_faults program ≡ fault rule at ∷ []
  pub fuel : ℕ
  pub stuck : (source program [] fuel).ending ≡ SourceEnding.Stuck

pub record EachRuleIsNeeded : Type 0 where
  -- what a pointer leads to is looked at only in a live region
  pub region : IsNeeded region_rule
  -- a pointer goes only where its region outlives what is said of it
  pub outlives : IsNeeded outlives_rule
  -- a function is called only where its effect is live
  pub effect : IsNeeded effect_rule
  -- what was moved or freed isn't used
  pub consumed : IsNeeded consumed_rule
  -- nor is what is lent
  pub lent : IsNeeded lent_rule
  -- a unique pointer has one holder
  pub copy : IsNeeded copy_rule
