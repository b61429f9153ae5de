-- Believed, for this crate's laws: what a statement does to locals on each way out of it.
use Rattle.std.specs.Prelude.{None, Option, Some, option_map, true, ℕ}
use Rattle.source_typing.specs.States.{States}
use Rattle.check_faults.specs.Faults.{sooner_found}
use Rattle.check_faults.specs.declared.fault.Fault.{Fault}
use Rattle.check_faults.specs.declared.fault.FaultKind.TheVariants as kind
use Rattle.flow_summaries.specs.Effects.{Effects, Holds, met_ways, no_effects, then_way, to_head, way_below, with_number}
use Rattle.flow_summaries.specs.Passages.{Caused, Faults, Passage, begun, both_faults, copied_if, fault_of_kind, faults_after}
use Rattle.flow_summaries.specs.Passages.{faults_always}
use Rattle.cyc_tree.specs.Tree as tree

-- the effects up to a statement's end, a `break` and a `continue`, each where it is reachable, and the faults
pub record Exits : Type 0 where
  pub falls : Option Effects
  pub breaks : Option Effects
  pub continues : Option Effects
  pub faults : Faults

abbrev pub exits : Option Effects → Option Effects → Option Effects → Faults → Exits
exits falls breaks continues f = record { falls = falls; breaks = breaks; continues = continues; faults = f }

-- no way out, and no fault
abbrev pub no_exits : Exits
no_exits = exits None None None (faults_always None)

-- the end, reached at once
abbrev pub ends : Exits
ends = exits (Some no_effects) None None (faults_always None)

abbrev pub ends_after : Passage → Exits
ends_after p = exits (Some p.effects) None None p.faults

-- what comes after effects
abbrev pub exits_after : Effects → Exits → Exits
exits_after d w = exits (then_way d w.falls) (then_way d w.breaks) (then_way d w.continues) (faults_after d w.faults)

-- an expression, and then the rest
abbrev pub with_passage : Passage → Exits → Exits
with_passage p w = record (exits_after p.effects w) { faults = both_faults p.faults (faults_after p.effects w.faults) }

abbrev pub joined_exits : Exits → Exits → Option Effects → Exits
joined_exits v w falls = exits falls (met_ways v.breaks w.breaks) (met_ways v.continues w.continues) (both_faults v.faults w.faults)

-- what isn't reachable isn't checked
abbrev pub followed_by : Option Effects → Exits → Exits → Exits
followed_by None v w = v
followed_by (Some d) v w = joined_exits v (exits_after d w) (then_way d w.falls)

abbrev pub exits_in_sequence : Exits → Exits → Exits
exits_in_sequence v w = followed_by v.falls v w

-- the ways of an `if` meet
abbrev pub either_exits : Exits → Exits → Exits
either_exits v w = joined_exits v w (met_ways v.falls w.falls)

-- a `break` of a clause leaves the `switch`
abbrev pub switch_left : Exits → Exits
switch_left w = exits w.breaks None w.continues w.faults

-- ---- loops

-- from its head, a loop is left after its condition, or by a `break`
abbrev pub left_from_head : Passage → Exits → Exits
left_from_head condition turn = exits (met_ways (Some condition.effects) turn.breaks) None None turn.faults

abbrev pub looped : Passage → Exits → Exits
looped condition turn = exits_after (to_head (met_ways turn.falls turn.continues)) (left_from_head condition turn)

abbrev pub loop_exits : Passage → Exits → Exits
loop_exits condition body = looped condition (with_passage condition body)

-- ---- locals of a block

-- Locals come into scope, and go out of it at the end of the block, however it is left: n are in scope without them, and m with them.
abbrev pub entered : ℕ → ℕ → States → Exits → Exits
entered n m added w = exits (way_below n w.falls) (way_below n w.breaks) (way_below n w.continues) (begun n m added w.faults)

-- ---- loans

-- At its beginning a local has to be held; in the block it is lent.
abbrev pub lent_from : ℕ → Option Fault → Caused
lent_from at f = record {
  plain = f;
  held = f;
  gone = sooner_found (fault_of_kind kind.Consumed at) f;
  lent = sooner_found (fault_of_kind kind.Lent at) f;
}

-- the faults of the block of a loan, where the local is lent
abbrev pub faults_lent : ℕ → ℕ → Faults → Faults
faults_lent at i f = record { caused = with_number i (lent_from at (f.caused i).lent) f.caused; always = f.always }

-- It ends when the block is left in any way; the local is held again then.
abbrev pub held_again : ℕ → Option Effects → Option Effects
held_again i w = option_map (with_number i Holds) w

-- None: a pointer that is no local isn't lent
abbrev pub lent_in : ℕ → tree.Name → Option ℕ → Exits → Exits
lent_in at x None w = with_passage (copied_if true at) w
lent_in at x (Some i) w = exits (held_again i w.falls) (held_again i w.breaks) (held_again i w.continues) (faults_lent x.at i w.faults)
