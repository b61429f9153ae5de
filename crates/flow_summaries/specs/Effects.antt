-- Believed, for this crate's laws: what a phrase does to the states of locals, from any states before it.
use Rattle.std.specs.Prelude.{None, Option, Some, nat_eq, nat_lt, option_map, suc, ℕ, if◌then◌else◌, ◌∷◌}
use Rattle.source_typing.specs.States.{Gone, Held, Lent, Plain, State, States, unless_lent}

-- A local that isn't lent is kept as it was, or left held, or left gone. What is lent stays lent.
pub data Effect : Type 0 where
  Keeps : Effect
  Holds : Effect
  Loses : Effect
  -- One way keeps it and another one loses it, so it is gone where they meet. Only a copyable local, which has no state unless it is freed against the
  -- rules, stays as it was.
  MayLose : Effect

-- held or gone, it is gone
abbrev pub unless_plain : State → State
unless_plain Plain = Plain
unless_plain Held = Gone
unless_plain Gone = Gone
unless_plain Lent = Lent

-- the state after it
abbrev pub becomes : Effect → State → State
becomes Keeps a = a
becomes Holds a = unless_lent a Held
becomes Loses a = unless_lent a Gone
becomes MayLose a = unless_plain a

-- one after the other: the later one counts, unless it keeps
abbrev pub then_effect : Effect → Effect → Effect
then_effect e Keeps = e
then_effect e Holds = Holds
then_effect e Loses = Loses
then_effect Keeps MayLose = MayLose
then_effect Holds MayLose = Loses
then_effect Loses MayLose = Loses
then_effect MayLose MayLose = MayLose

-- where two ways meet, a local is held only if it is so on each of them
abbrev pub met_effect : Effect → Effect → Effect
met_effect Keeps Keeps = Keeps
met_effect Keeps Holds = Keeps
met_effect Keeps Loses = MayLose
met_effect Keeps MayLose = MayLose
met_effect Holds e = e
met_effect Loses e = Loses
met_effect MayLose e = MayLose

-- ---- on all locals

-- the locals in scope by their numbers; the earliest is 0
abbrev pub Effects : Type 0
Effects = ℕ → Effect

-- The states of n locals, the latest first, after effects on them.
abbrev pub states_after : ℕ → Effects → States → States
states_after (suc n) e (a ∷ s) = becomes (e n) a ∷ states_after n e s
states_after n e s = s

-- something else at one number
abbrev pub with_number : {A : Type 0} → ℕ → A → (ℕ → A) → ℕ → A
with_number i a f j = (if nat_eq j i then a else f j)

-- where locals from a number on have gone out of scope, nothing is said of them
abbrev pub below : {A : Type 0} → ℕ → A → (ℕ → A) → ℕ → A
below n a f i = (if nat_lt i n then f i else a)

abbrev pub effects_below : ℕ → Effects → Effects
effects_below n e = below n Keeps e

abbrev pub no_effects : Effects
no_effects i = Keeps

abbrev pub then_effects : Effects → Effects → Effects
then_effects d e i = then_effect (d i) (e i)

abbrev pub met_effects : Effects → Effects → Effects
met_effects d e i = met_effect (d i) (e i)

-- ---- ways

-- None: a way that isn't reachable
abbrev pub way_below : ℕ → Option Effects → Option Effects
way_below n w = option_map (effects_below n) w

abbrev pub then_way : Effects → Option Effects → Option Effects
then_way d w = option_map (then_effects d) w

abbrev pub met_ways : Option Effects → Option Effects → Option Effects
met_ways None w = w
met_ways (Some d) None = Some d
met_ways (Some d) (Some e) = Some (met_effects d e)

-- The head of a loop is reached from its entry by no iteration or by some. A second one changes nothing after a first one.
abbrev pub to_head : Option Effects → Effects
to_head None = no_effects
to_head (Some turn) = met_effects no_effects turn
