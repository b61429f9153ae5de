-- Believed: what is promised of lines for a program's lowered Core, whichever they are: a machine that begins with them does what the source does.
use Rattle.std.specs.Prelude.{◌≡◌, ℕ, ◌≤◌, Bool, false, List, [], ◌∷◌, length, Option, Some, None, slice_get, bytes_eq}
use Rattle.std.specs.List.{All}
use Rattle.cyc_words.specs.Events.{AreBytes}
use Rattle.cyc_tree.specs.Tree.{Program}
use Rattle.source_meaning.specs.Steps.{World, Routine}
use Rattle.source_meaning.specs.Calls.{function_of}
use Rattle.source_meaning.specs.Programs.{world_of, source}
use Rattle.rv32_machine.specs.State.{Areas, State}
use Rattle.rv32_machine.specs.Implements.{Meaning, Implements}
use Rattle.core_lines.specs.declared.line.Line.{Line}
use Rattle.core_meaning.specs.Bounds.{core_code}
use Rattle.core_lines.specs.Promise.{AreLinesOf}
use Rattle.core_lines.specs.Relaxed.{shortened}
use Rattle.core_lines.specs.Running.{Begins, IsNeverStuck}
use Rattle.core_lines.specs.LocalPlaces.{frame_bytes}
use Rattle.source_lowering.specs.Programs as lower
use Rattle.source_lowering.specs.Bounds.{frame_bound, code_bound}

-- ---- the source

-- what a program does on an input
abbrev pub meaning_of : Program → List ℕ → Meaning
meaning_of p input = record { events = λ fuel. (source p input fuel).events; ending = λ fuel. (source p input fuel).ending }

-- ---- names of functions

abbrev pub name_in : Option Routine → List ℕ
name_in None = []
name_in (Some f) = f.name

-- the name of the function of a number
abbrev pub names_of : List Routine → ℕ → List ℕ
names_of fs number = name_in (slice_get fs number)

-- no two functions have one name
abbrev pub AreNamedApart : List Routine → Type 0
AreNamedApart [] = Unit {0}
AreNamedApart (f ∷ fs) = All (λ (g : Routine). bytes_eq f.name g.name ≡ false) fs × AreNamedApart fs

abbrev pub bound_in : World → Option Routine → ℕ
bound_in w None = 0
bound_in w (Some f) = frame_bound w f

-- how many bytes the frame of the function of a name may take
abbrev pub frame_bound_of : World → List ℕ → ℕ
frame_bound_of w name = bound_in w (function_of w.functions name)

abbrev pub frame_size_in : World → Option Routine → ℕ
frame_size_in w None = 0
frame_size_in w (Some f) = frame_bytes (lower.function_code w f)

-- how many bytes the frame takes that its code has: no more than that bound
abbrev pub frame_size_of : World → List ℕ → ℕ
frame_size_of w name = frame_size_in w (function_of w.functions name)

-- ---- the promise

-- A machine that begins with lines of the program's lowered Core, whichever of their conditional jumps are of two words, and with its data does what the source
-- does, on each input of bytes on which the source is never stuck, whatever its store answers. `bound` says of each function how many bytes its frame may take.
abbrev pub DoesWithin : (List ℕ → ℕ) → Program → Type 0
DoesWithin bound p =
    (lines : List Line) → AreLinesOf (lower.program_code p) lines → (wide : List Bool) → length wide ≡ length lines
    → (n : Areas) (places : ℕ → ℕ) (s : State) (input : List ℕ) → AreBytes input
    → Begins n places (shortened wide lines) (lower.program_code p).data_objects s → IsNeverStuck (meaning_of p input)
    → Implements bound n s input (meaning_of p input)

-- with the bounds that the source gives
abbrev pub DoesAsSource : Program → Type 0
DoesAsSource p = DoesWithin (frame_bound_of (world_of p)) p

-- What holds of a program that is lowered where no two functions have one name: its lines do what it does, and the bound on their bytes is within that of its
-- text.
pub record LowerableDoes (p : Program) : Type 0 where
  pub does : DoesAsSource p
  -- and so with the frames that its code has
  pub close : DoesWithin (frame_size_of (world_of p)) p
  pub code : core_code (lower.program_code p) ≤ code_bound (world_of p).functions
