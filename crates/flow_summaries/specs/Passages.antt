-- Believed, for this crate's laws: what a phrase does: its effects on locals, and its faults.
use Rattle.std.specs.Prelude.{Bool, None, Option, Some, false, suc, true, ℕ, [], ◌∷◌}
use Rattle.source_typing.specs.States.{Gone, Held, Lent, Plain, State, States}
use Rattle.check_faults.specs.Faults.{sooner_found}
use Rattle.check_faults.specs.declared.fault.Fault.{Fault}
use Rattle.check_faults.specs.declared.fault.FaultKind.{FaultKind}
use Rattle.check_faults.specs.declared.fault.FaultKind.TheVariants as kind
use Rattle.flow_summaries.specs.Effects.{Effect, Effects, Holds, Loses, becomes, below, effects_below, met_effects, no_effects}
use Rattle.flow_summaries.specs.Effects.{then_effects, to_head, with_number}

-- ---- faults

abbrev pub fault_of_kind : FaultKind → ℕ → Option Fault
fault_of_kind k at = Some (record { kind = k; at = at })

-- The earliest fault that one local causes, for each state that it may be in before the phrase. From one state it may stand earlier than from another.
pub record Caused : Type 0 where
  pub plain : Option Fault
  pub held : Option Fault
  pub gone : Option Fault
  pub lent : Option Fault

abbrev pub caused_by : State → Caused → Option Fault
caused_by Plain c = c.plain
caused_by Held c = c.held
caused_by Gone c = c.gone
caused_by Lent c = c.lent

abbrev pub no_cause : Caused
no_cause = record { plain = None; held = None; gone = None; lent = None }

-- the causes of two phrases, from the same state
abbrev pub both_caused : Caused → Caused → Caused
both_caused b c = record {
  plain = sooner_found b.plain c.plain;
  held = sooner_found b.held c.held;
  gone = sooner_found b.gone c.gone;
  lent = sooner_found b.lent c.lent;
}

-- the causes of a phrase that comes after an effect
abbrev pub caused_after : Effect → Caused → Caused
caused_after e c = record {
  plain = caused_by (becomes e Plain) c;
  held = caused_by (becomes e Held) c;
  gone = caused_by (becomes e Gone) c;
  lent = c.lent;
}

-- the faults that locals cause, by their numbers, and the earliest of those that come in all states
pub record Faults : Type 0 where
  pub caused : ℕ → Caused
  pub always : Option Fault

abbrev pub faults_always : Option Fault → Faults
faults_always f = record { caused = λ i. no_cause; always = f }

abbrev pub both_faults : Faults → Faults → Faults
both_faults f g = record { caused = λ i. both_caused (f.caused i) (g.caused i); always = sooner_found f.always g.always }

abbrev pub faults_after : Effects → Faults → Faults
faults_after e f = record { caused = λ i. caused_after (e i) (f.caused i); always = f.always }

-- the earliest that n locals cause in these states
abbrev pub caused_in : ℕ → (ℕ → Caused) → States → Option Fault
caused_in (suc n) c (a ∷ s) = sooner_found (caused_by a (c n)) (caused_in n c s)
caused_in n c s = None

abbrev pub found_in : ℕ → Faults → States → Option Fault
found_in n f s = sooner_found (caused_in n f.caused s) f.always

-- Locals that begin with the phrase in these states cause their faults always: n are in scope without them, and m with them.
abbrev pub begun : ℕ → ℕ → States → Faults → Faults
begun n m added f = record { caused = below n no_cause f.caused; always = sooner_found (caused_in m f.caused added) f.always }

-- ---- passages

-- what a phrase that has one way out does
pub record Passage : Type 0 where
  pub effects : Effects
  pub faults : Faults

abbrev pub unchanged : Passage
unchanged = record { effects = no_effects; faults = faults_always None }

-- what can't be copied would be: Copy
abbrev pub copied_if : Bool → ℕ → Passage
copied_if true at = record { effects = no_effects; faults = faults_always (fault_of_kind kind.Copy at) }
copied_if false at = unchanged

-- one after the other
abbrev pub in_turn : Passage → Passage → Passage
in_turn p q =
    record { effects = then_effects p.effects q.effects; faults = both_faults p.faults (faults_after p.effects q.faults) }

-- the second one may be passed or not
abbrev pub in_turn_or_not : Passage → Passage → Passage
in_turn_or_not p q = record {
  effects = met_effects p.effects (then_effects p.effects q.effects);
  faults = both_faults p.faults (faults_after p.effects q.faults);
}

-- a phrase that is begun, and left, at the head of a loop
abbrev pub from_head : Effects → Faults → Passage
from_head head f = record { effects = head; faults = faults_after head f }

-- Elements of an array are a loop, in which the index is the local after n others. After it the states are those of its head.
abbrev pub repeated : ℕ → Passage → Passage
repeated n p = from_head (to_head (Some (effects_below n p.effects))) (begun n (suc n) (Plain ∷ []) p.faults)

-- ---- uses of one local

-- A local that is gone where it has to be held is Consumed at its name; one that is lent is Lent there.
abbrev pub unless_held : ℕ → Caused
unless_held at = record { plain = None; held = None; gone = fault_of_kind kind.Consumed at; lent = fault_of_kind kind.Lent at }

-- an assignment of the whole local needs only that it isn't lent
abbrev pub if_lent : ℕ → Caused
if_lent at = record { plain = None; held = None; gone = None; lent = fault_of_kind kind.Lent at }

-- None: it isn't in scope
abbrev pub used : Effect → Caused → Option ℕ → Passage
used e c None = unchanged
used e c (Some i) =
    record { effects = with_number i e no_effects; faults = record { caused = with_number i c (λ j. no_cause); always = None } }

abbrev pub moved : ℕ → Option ℕ → Passage
moved at i = used Loses (unless_held at) i

abbrev pub looked_at : ℕ → Option ℕ → Passage
looked_at at i = used Holds (unless_held at) i

abbrev pub assigned : ℕ → Option ℕ → Passage
assigned at i = used Holds (if_lent at) i
