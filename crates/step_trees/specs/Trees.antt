-- Believed: a run as a tree of steps: what is seen of it, what it asks for, and where a unit of fuel is due. The tree has no say in what is seen (Event), in
-- what is called (Call) with which results over which memory (Result, Memory), nor in which turns of loops there are, how they are left and over which state
-- (Turn, Flow, State).
use Rattle.std.specs.Prelude.{◌≡◌, ℕ, zero, suc, Option, Some, None, List, [], ◌∷◌, ◌++◌}
use Rattle.cyc_words.specs.Events.{SourceEnding}

-- The steps of a run up to those at which a unit is due, for each byte that may be read.
pub data Tree (Event Call Result Memory Turn Flow State : Type 0) : Type 0 where
  -- the run is over
  Stops : SourceEnding → Tree Event Call Result Memory Turn Flow State
  -- an event, and what follows
  Says : Event → Tree Event Call Result Memory Turn Flow State → Tree Event Call Result Memory Turn Flow State
  -- a byte of input, or its end
  Reads : (Option ℕ → Tree Event Call Result Memory Turn Flow State) → Tree Event Call Result Memory Turn Flow State
  -- one unit, and what follows
  Pays : (State → Tree Event Call Result Memory Turn Flow State) → State → Tree Event Call Result Memory Turn Flow State
  -- one unit, and a call
  Calls : Call → (Result → Memory → Tree Event Call Result Memory Turn Flow State) → Memory → Tree Event Call Result Memory Turn Flow State
  -- one unit, and a turn of a loop
  Turns : Turn → (Flow → State → Tree Event Call Result Memory Turn Flow State) → State → Tree Event Call Result Memory Turn Flow State

-- what is seen of a run, and how it ends
pub record Outcome (Event : Type 0) : Type 0 where
  pub events : List Event
  pub ending : SourceEnding

-- how a byte that is read is seen, and what stands in the places of calls and turns once their unit is paid
pub record Bodies (Event Call Result Memory Turn Flow State : Type 0) : Type 0 where
  pub read : Option ℕ → Event
  pub call : Call → (Result → Memory → Tree Event Call Result Memory Turn Flow State) → Memory → Tree Event Call Result Memory Turn Flow State
  pub turn : Turn → (Flow → State → Tree Event Call Result Memory Turn Flow State) → State → Tree Event Call Result Memory Turn Flow State

-- what is seen before the rest
abbrev pub after : {Event : Type 0} → Event → Outcome Event → Outcome Event
after event o = record o { events = event ∷ o.events }

-- the events of the first are the beginning of those of the second
abbrev pub IsBeginning : {Event : Type 0} → Outcome Event → Outcome Event → Type 0
IsBeginning {Event} first second = (rest : List Event) × (first.events ++ rest ≡ second.events)

-- a run that doesn't want for fuel
abbrev pub IsOver : SourceEnding → Type 0
IsOver (SourceEnding.Ended status) = Unit {0}
IsOver (SourceEnding.Raised kind) = Unit {0}
IsOver SourceEnding.Running = ⊥
IsOver SourceEnding.Stuck = Unit {0}

-- what steps come to on an input
abbrev pub Rest : (Event Call Result Memory Turn Flow State : Type 0) → Type 0
Rest Event Call Result Memory Turn Flow State = Tree Event Call Result Memory Turn Flow State → List ℕ → Outcome Event

module _ {Event Call Result Memory Turn Flow State : Type 0} where
  -- the steps up to the first at which a unit is due; each read after the end of the input reads the end again
  abbrev pub walk : Bodies Event Call Result Memory Turn Flow State → Rest Event Call Result Memory Turn Flow State
      → Rest Event Call Result Memory Turn Flow State
  walk bodies rest (Stops ending) input = record { events = []; ending = ending }
  walk bodies rest (Says event step) input = after event (walk bodies rest step input)
  walk bodies rest (Reads next) [] = after (bodies.read None) (walk bodies rest (next None) [])
  walk bodies rest (Reads next) (b ∷ input) = after (bodies.read (Some b)) (walk bodies rest (next (Some b)) input)
  walk bodies rest (Pays next m) input = rest (next m) input
  walk bodies rest (Calls call next m) input = rest (bodies.call call next m) input
  walk bodies rest (Turns turn next m) input = rest (bodies.turn turn next m) input

  -- a unit is due and none is left
  abbrev pub out_of_fuel : Rest Event Call Result Memory Turn Flow State
  out_of_fuel step input = record { events = []; ending = SourceEnding.Running }

  -- a unit is due and n are left
  abbrev pub spend : Bodies Event Call Result Memory Turn Flow State → ℕ → Rest Event Call Result Memory Turn Flow State
  spend bodies zero = out_of_fuel
  spend bodies (suc n) = walk bodies (spend bodies n)

  -- the steps with n units of fuel
  abbrev pub run : Bodies Event Call Result Memory Turn Flow State → ℕ → Rest Event Call Result Memory Turn Flow State
  run bodies n = walk bodies (spend bodies n)
