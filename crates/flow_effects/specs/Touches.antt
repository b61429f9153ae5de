-- View of code: what a phrase in code does to locals, as the rules of passages say it.
use Rattle.std.specs.Prelude.{nat_eq, ℕ, ◌≡◌, ◌≤◌, ◌-◌, ◌/◌, ◌%◌, if◌then◌else◌}
use Rattle.flow_summaries.specs.Effects.{Effect, Holds, Keeps, Loses, MayLose, met_effect, then_effect}
use Rattle.flow_summaries.specs.Passages.{Caused, both_caused, caused_after, no_cause}
use Rattle.flow_effects.specs.declared.touch.Effect as code_effect
use Rattle.flow_effects.specs.declared.touch.Effect.TheVariants as effect
use Rattle.flow_effects.specs.declared.touch.Caused as code_caused
use Rattle.flow_effects.specs.declared.touch.Touch as code
use Rattle.flow_effects.specs.declared.touch.How.{How}
use Rattle.flow_effects.specs.declared.touch.How.TheVariants as how
use Rattle.flow_effects.specs.declared.touches.Touches.{Touches}
use Rattle.flow_effects.specs.declared.touches.Touches.TheVariants.{Fork', Nothing}

-- ---- one local

abbrev pub effect_of : code_effect.Effect → Effect
effect_of effect.Keeps = Keeps
effect_of effect.Holds = Holds
effect_of effect.Loses = Loses
effect_of effect.MayLose = MayLose

abbrev pub caused_of : code_caused.Caused → Caused
caused_of c = record { plain = c.plain; held = c.held; gone = c.gone; lent = c.lent }

-- what is done to a local, and the faults that it causes
pub record Touch : Type 0 where
  pub effect : Effect
  pub caused : Caused

abbrev pub touch_of : code.Touch → Touch
touch_of t = record { effect = effect_of t.effect; caused = caused_of t.caused }

abbrev pub idle_touch : Touch
idle_touch = record { effect = Keeps; caused = no_cause }

-- what two phrases do to a local, by how they are joined
abbrev pub joined : How → Touch → Touch → Touch
joined how.Turn s t = record { effect = then_effect s.effect t.effect; caused = both_caused s.caused (caused_after s.effect t.caused) }
joined how.After s t = record { effect = then_effect s.effect t.effect; caused = caused_after s.effect t.caused }
joined how.Meet s t = record { effect = met_effect s.effect t.effect; caused = t.caused }
joined how.MetBy s t = record { effect = met_effect t.effect s.effect; caused = t.caused }
joined how.Before s t = record { effect = then_effect t.effect s.effect; caused = t.caused }
joined how.EachWay s t = record { effect = met_effect s.effect t.effect; caused = both_caused s.caused t.caused }
joined how.FirstWay s t = record { effect = s.effect; caused = both_caused s.caused t.caused }
joined how.LastWay s t = record { effect = t.effect; caused = both_caused s.caused t.caused }
joined how.Pair s t = record { effect = s.effect; caused = t.caused }
joined how.Head s t = record { effect = met_effect s.effect t.effect; caused = caused_after (met_effect s.effect t.effect) t.caused }

-- ---- all of them

-- The local 0 stands at the root; halves of odd numbers go on the left, those of even ones on the right.
abbrev pub forked : Touch → (ℕ → Touch) → (ℕ → Touch) → ℕ → Touch
forked here left right i = (if nat_eq i 0 then here else (if nat_eq (i % 2) 1 then left (i / 2) else right (i / 2 - 1)))

abbrev pub touch_at : Touches → ℕ → Touch
touch_at Nothing i = idle_touch
touch_at (Fork' p left here q right) i = forked (touch_of here) (λ j. touch_at left j) (λ j. touch_at right j) i

-- nothing is done to the locals from a number on
abbrev pub IsNothingFrom : ℕ → Touches → Type 0
IsNothingFrom n t = (i : ℕ) → n ≤ i → touch_at t i ≡ idle_touch
