-- Before a unit is due no byte is read or written, whatever a program does.
use Rattle.std.proofs.Common.{◌≡◌, ℕ, zero, suc, None, List, [], ◌∷◌, refl, inl, inr, arith}
use Rattle.std.specs.List.{AllByRecursion, Contains}
use Rattle.std.proofs.lemmas.List.Elements.{Contains-append_cases}
use Rattle.cyc_words.specs.Events.{Event, ByteRead, ByteWritten, SourceEvent, Visible, Called, Returned, visible, output, bytes_read}
use Rattle.step_trees.specs.Trees.{Calls, Turns, Stops, Says, Reads, Pays, run}
use Rattle.source_meaning.specs.Steps.{Step}
use Rattle.source_meaning.specs.Programs.{source_bodies}
use Rattle.source_meaning.proofs.Kept.{IsSilent, Property}

-- no byte is read or written before the next unit
abbrev pub IsQuiet : Step → Type 0
IsQuiet (Stops ending) = Unit {0}
IsQuiet (Says event step) = IsSilent event × IsQuiet step
IsQuiet (Reads next) = ⊥
IsQuiet (Pays next m) = Unit {0}
IsQuiet (Calls invocation next m) = Unit {0}
IsQuiet (Turns turn next m) = Unit {0}

-- a property of steps, in a program that may call each name
abbrev pub quiet : Property
quiet = record {
  Has = IsQuiet;
  MayCall = λ w name. Unit {0};
  stops = λ ending. tt;
  says = λ event silent s h. (silent, h);
  pays = λ next m h. tt;
  reads = λ next m h. tt;
  writes = λ byte next m h. tt;
  calls = λ w name f is may arguments next m h. tt;
  turns = λ turn may next m h. tt;
}

pub may_call_all : (names : List (List ℕ)) → AllByRecursion (λ (name : List ℕ). Unit {0}) names
may_call_all [] = tt
may_call_all (name ∷ names) = (tt, may_call_all names)

-- ---- runs

-- events none of which is a byte that was read or written, or the input's end
pub record AreSilent (events : List Event) : Type 0 where
  pub written : output events ≡ []
  pub read : bytes_read events ≡ []
  pub untold : Contains events (ByteRead None) → ⊥

pub none_silent : AreSilent []
none_silent = record { written = refl; read = refl; untold = λ (k, below, is). absurd (omega arith) }

-- an event of a list is the first one or one of the others
first_or_later : {P : Type 0} (e x : Event) (events : List Event) → (e ≡ x → P) → (Contains events x → P) → Contains (e ∷ events) x → P
first_or_later e x events first later has = elim (Contains-append_cases (e ∷ []) events x has) [
  | inl here ↦ first (only here)
  | inr there ↦ later there
]
  where
    only : Contains (e ∷ []) x → e ≡ x
    only (zero, below, is) = is
    only (suc k, below, is) = absurd (omega arith)

-- one event more
silent_visible : (e : Event) (events : List Event) → IsSilent (Visible e) → AreSilent events → AreSilent (e ∷ events)
silent_visible (ByteRead byte) events h x = absurd h
silent_visible (ByteWritten byte) events h x = absurd h
silent_visible e events h x = record { written = x.written; read = x.read; untold = first_or_later e (ByteRead None) events (λ same. (cc)) x.untold }

silent_after : (e : SourceEvent) (events : List SourceEvent) → IsSilent e → AreSilent (visible events) → AreSilent (visible (e ∷ events))
silent_after (Called f) events h x = x
silent_after (Returned f) events h x = x
silent_after (Visible e) events h x = silent_visible e (visible events) h x

-- with no unit left such a run reads and writes no byte
pub silent_run : (s : Step) (input : List ℕ) → IsQuiet s → AreSilent (visible (run source_bodies 0 s input).events)
silent_run (Stops ending) input h = none_silent
silent_run (Says event s) input h = silent_after event (run source_bodies 0 s input).events h.0 (silent_run s input h.1)
silent_run (Reads next) input h = absurd h
silent_run (Pays next m) input h = none_silent
silent_run (Calls invocation next m) input h = none_silent
silent_run (Turns turn next m) input h = none_silent
