-- Believed: when a machine does what a meaning says, whatever its store answers: it shows the same events and ends alike, as far as each of them goes; and
-- where the store or the stack has no room, it stops before the event that wanted it.
use Rattle.std.specs.Prelude.{◌≡◌, ℕ, ◌+◌, ◌<◌, ◌⊎◌, Bool, true, false, List, [], ◌∷◌, ◌++◌}
use Rattle.cyc_words.specs.Events.{Event, SourceEvent, Visible, Called, Returned, visible, SourceEnding, Request, NewRegion, BlockIn, UniqueBlock, NewKey}
use Rattle.cyc_words.specs.Events.{MachineEnding}
use Rattle.cyc_words.specs.Events as events
use Rattle.arena_laws.specs.Lawful.{Answer}
use Rattle.rv32_machine.specs.State.{State, Areas}
use Rattle.rv32_machine.specs.Run.{Run, run_steps, from, ending_of}
use Rattle.rv32_machine.specs.Audit.{IsLawful}

-- What a program does on an input: for each amount of fuel its events, and how it ends.
pub record Meaning : Type 0 where
  pub events : ℕ → List SourceEvent
  pub ending : ℕ → SourceEnding

-- the events are the first of others
abbrev pub IsBeginning : List Event → List Event → Type 0
IsBeginning some all = (rest : List Event) × (all ≡ some ++ rest)

-- ---- where there is no room

-- the functions that are active after these events, the innermost first
abbrev pub active_after : List (List ℕ) → List SourceEvent → List (List ℕ)
active_after active [] = active
active_after active (Visible e ∷ es) = active_after active es
active_after active (Called f ∷ es) = active_after (f ∷ active) es
active_after [] (Returned f ∷ es) = active_after [] es
active_after (g ∷ active) (Returned f ∷ es) = active_after active es

-- the bytes that their frames may take in all
abbrev pub frames : (List ℕ → ℕ) → List (List ℕ) → ℕ
frames bound [] = 0
frames bound (f ∷ fs) = bound f + frames bound fs

-- the event is what was requested: of the same kind, in the same region, of as many bytes
abbrev pub IsRequested : Request → Event → Type 0
IsRequested NewRegion e = (birth : ℕ) × (e ≡ events.RegionNew birth)
IsRequested (BlockIn birth bytes) e = e ≡ events.RegionAlloc birth bytes
IsRequested (UniqueBlock bytes) e = (birth : ℕ) × (e ≡ events.UniqueAlloc birth bytes)
IsRequested NewKey e = (birth : ℕ) × (e ≡ events.KeyNew birth)

-- the next event is the refused request
abbrev pub IsRefused : Request → SourceEvent → Type 0
IsRefused q (Visible e) = IsRequested q e
IsRefused q (Called f) = ⊥
IsRefused q (Returned f) = ⊥

-- the next event is a call, with which the frames of the active functions may take more bytes than the stack has
abbrev pub HasNoFrame : (List ℕ → ℕ) → ℕ → List (List ℕ) → SourceEvent → Type 0
HasNoFrame bound stack active (Visible e) = ⊥
HasNoFrame bound stack active (Called f) = stack < frames bound (f ∷ active)
HasNoFrame bound stack active (Returned f) = ⊥

-- the run stopped before an event of the meaning's, having shown all before it; of that event something holds
pub record IsCut (shown : List Event) (meant : List SourceEvent) (reason : List SourceEvent → SourceEvent → Type 0) : Type 0 where
  pub before : List SourceEvent
  pub next : SourceEvent
  pub rest : List SourceEvent
  pub split : meant ≡ before ++ next ∷ rest
  pub same : shown ≡ visible before
  pub because : reason before next

-- ---- agreement

-- A run that is over has ended as the meaning does with so much fuel, with its events, or was cut; one that goes on has shown some of them, and so has one
-- whose
-- store lacked host memory. No run is at a fault. `bound` says of each function how many bytes its frame may take.
abbrev pub AgreesIn : (List ℕ → ℕ) → Areas → MachineEnding → List Event → List SourceEvent → SourceEnding → Type 0
AgreesIn bound n MachineEnding.Running shown meant ending = IsBeginning shown (visible meant)
AgreesIn bound n MachineEnding.Lacking shown meant ending = IsBeginning shown (visible meant)
AgreesIn bound n (MachineEnding.Ended status) shown meant ending = (ending ≡ SourceEnding.Ended status) × (visible meant ≡ shown)
AgreesIn bound n (MachineEnding.Raised kind) shown meant ending = (ending ≡ SourceEnding.Raised kind) × (visible meant ≡ shown)
AgreesIn bound n (MachineEnding.Refused q) shown meant ending = IsCut shown meant (λ before next. IsRefused q next)
AgreesIn bound n MachineEnding.NoStack shown meant ending = IsCut shown meant (λ before next. HasNoFrame bound n.stack (active_after [] before) next)
AgreesIn bound n (MachineEnding.Fault fault) shown meant ending = ⊥

abbrev pub Agrees : (List ℕ → ℕ) → Areas → Run → Meaning → ℕ → Type 0
Agrees bound n r m fuel = AgreesIn bound n (ending_of r) r.events (m.events fuel) (m.ending fuel)

-- there was no room, or no host memory
abbrev pub is_cut_short : MachineEnding → Bool
is_cut_short MachineEnding.Running = false
is_cut_short MachineEnding.Lacking = true
is_cut_short (MachineEnding.Ended status) = false
is_cut_short (MachineEnding.Raised kind) = false
is_cut_short (MachineEnding.Refused q) = true
is_cut_short MachineEnding.NoStack = true
is_cut_short (MachineEnding.Fault fault) = false

-- Where the meaning is over, so is the run, in the same way and with no other events.
abbrev pub EndsWith : SourceEnding → List Event → Run → Type 0
EndsWith (SourceEnding.Ended status) meant r = (ending_of r ≡ MachineEnding.Ended status) × (r.events ≡ meant)
EndsWith (SourceEnding.Raised kind) meant r = (ending_of r ≡ MachineEnding.Raised kind) × (r.events ≡ meant)
EndsWith SourceEnding.Running meant r = Unit {0}
EndsWith SourceEnding.Stuck meant r = Unit {0}

-- the run was cut short, or has come as far as the meaning
abbrev pub Reaches : Run → Meaning → ℕ → Type 0
Reaches r m fuel =
    (is_cut_short (ending_of r) ≡ true) ⊎ (IsBeginning (visible (m.events fuel)) r.events × EndsWith (m.ending fuel) (visible (m.events fuel)) r)

-- The machine does on the input what the meaning says. Each run of some number of instructions agrees with it at some amount of fuel, for all answers of the
-- store. Each amount of fuel is reached by some number of instructions, the same for all answers. Each load and store lies where it may.
pub record Implements (bound : List ℕ → ℕ) (n : Areas) (s : State) (input : List ℕ) (m : Meaning) : Type 0 where
  pub each_run : (answers : ℕ → Answer) (count : ℕ) → (fuel : ℕ) × Agrees bound n (run_steps n count (from s input answers)) m fuel
  pub each_fuel : (fuel : ℕ) → (count : ℕ) × ((answers : ℕ → Answer) → Reaches (run_steps n count (from s input answers)) m fuel)
  pub lawful : (answers : ℕ → Answer) (count : ℕ) → IsLawful n (run_steps n count (from s input answers))
