-- Believed: the states of locals that can't be copied, and how they change.
use Rattle.std.specs.Prelude.{List, None, Option, Some, bytes_eq, length, suc, zero, ℕ, if◌then◌else◌, [], ◌∷◌, ◌++◌}
use Rattle.source_typing.specs.Faults.{Fault, consumed_rule, fault, lent_rule}
use Rattle.source_typing.specs.Scope.{Local}
use Rattle.cyc_tree.specs.Tree as tree

-- A copyable local has no state; another one is held, gone since it was moved or freed, or lent.
pub data State : Type 0 where
  Plain : State
  Held : State
  Gone : State
  Lent : State

-- one for each local in scope, the latest first
abbrev pub States : Type 0
States = List State

-- the state of the innermost local of a name
abbrev pub state_of : List Local → List ℕ → States → State
state_of (l ∷ ls) x (s ∷ ss) = (if bytes_eq l.name x then s else state_of ls x ss)
state_of ls x ss = Plain

abbrev pub with_state : List Local → List ℕ → State → States → States
with_state (l ∷ ls) x a (s ∷ ss) = (if bytes_eq l.name x then a ∷ ss else s ∷ with_state ls x a ss)
with_state ls x a ss = ss

-- Where ways meet, a local is held only if it is so on each of them.
abbrev pub meet : State → State → State
meet Plain b = Plain
meet Lent b = Lent
meet Held b = b
meet Gone Lent = Lent
meet Gone b = Gone

abbrev pub meet_all : States → States → States
meet_all (a ∷ ss) (b ∷ ts) = meet a b ∷ meet_all ss ts
meet_all ss ts = ss

-- None: a way that isn't reachable
abbrev pub meet_ways : Option States → Option States → Option States
meet_ways None w = w
meet_ways (Some s) None = Some s
meet_ways (Some s) (Some t) = Some (meet_all s t)

-- ---- uses of a local

-- what a phrase leaves: the states after it, and its faults
pub record Passed : Type 0 where
  pub states : States
  pub faults : List Fault

abbrev pub passed : List Fault → States → Passed
passed fs s = record { states = s; faults = fs }

abbrev pub then_passed : Passed → (States → Passed) → Passed
then_passed p next = passed (p.faults ++ (next p.states).faults) (next p.states).states

-- A local that is gone where it has to be held is Consumed at its name; one that is lent is Lent there.
abbrev pub need_held : ℕ → State → List Fault
need_held at Plain = []
need_held at Held = []
need_held at Gone = fault consumed_rule at ∷ []
need_held at Lent = fault lent_rule at ∷ []

-- an assignment of the whole local needs only that it isn't lent
abbrev pub need_unlent : ℕ → State → List Fault
need_unlent at Plain = []
need_unlent at Held = []
need_unlent at Gone = []
need_unlent at Lent = fault lent_rule at ∷ []

-- What a use leaves, also where it has a fault; what is lent stays lent.
abbrev pub unless_lent : State → State → State
unless_lent Lent a = Lent
unless_lent s a = a

abbrev pub used_to : List Local → tree.Name → (ℕ → State → List Fault) → State → States → Passed
used_to ls x need a s = passed (need x.at (state_of ls x.text s)) (with_state ls x.text (unless_lent (state_of ls x.text s) a) s)

-- ---- loops

-- f, n times
abbrev pub iterate : {A : Type 0} → ℕ → (A → A) → A → A
iterate zero f a = a
iterate (suc n) f a = iterate n f (f a)

abbrev pub or_entry : States → Option States → States
or_entry s None = s
or_entry s (Some t) = meet_all s t

-- A loop begins in the state with most held locals among those that its entry implies and each turn keeps. Each step lowers a local, so there are no more
-- steps than locals.
abbrev pub loop_head : States → (States → Option States) → States
loop_head entry turn = iterate (length entry) (λ s. or_entry entry (turn s)) entry
