-- View of code: what is promised of the Core that a program is lowered to.
use Rattle.std.specs.Prelude.{◌≡◌, ℕ, ◌+◌, ◌*◌, ◌≤◌, List, Some, slice_get, length}
use Rattle.cyc_words.specs.Events.{AreBytes, SourceEnding}
use Rattle.cyc_tree.specs.Tree.{Program}
use Rattle.source_grammar.specs.Phrases.{Tokens}
use Rattle.source_grammar.specs.Grammar.{IsProgram}
use Rattle.source_meaning.specs.Steps.{Routine}
use Rattle.source_meaning.specs.Programs.{source, world_of}
use Rattle.core_meaning.specs.Core as core
use Rattle.core_meaning.specs.Meaning as meaning
use Rattle.core_meaning.specs.Selectable.{IsSelectable}
use Rattle.source_lowering.specs.Agreeing.{SameOutcome}
use Rattle.core_meaning.specs.Bounds.{core_bound, core_code}
use Rattle.source_lowering.specs.Bounds.{frame_bound, regions_left}

-- no run of the source on an input is stuck
abbrev pub IsNeverStuckOn : Program → List ℕ → Type 0
IsNeverStuckOn p input = (n : ℕ) → (source p input n).ending ≡ SourceEnding.Stuck → ⊥

pub record IsLoweringOf (p : Program) (c : core.Program) : Type 0 where
  -- on each input of bytes on which no run of the source is stuck, and with each amount of fuel, Core shows the source's events, calls and returns among
  -- them, and ends as the source does
  pub does : (input : List ℕ) → AreBytes input → IsNeverStuckOn p input → (n : ℕ) → SameOutcome (world_of p) (source p input n) (meaning.core c input n)
  -- the frame of each of its functions is within the bound on that of the source's function of the same number
  pub frames : (number : ℕ) (f : Routine) (g : core.Function) → slice_get (world_of p).functions number ≡ Some f → slice_get c.functions number ≡ Some g
      → core_bound g ≤ frame_bound (world_of p) f
  -- its code is within 4,096 bytes and 512 for each token, whatever tokens spell the program, and for each region that `return`, `break` or `continue` leaves
  pub code : (tokens : Tokens) → IsProgram p tokens → core_code c ≤ 4096 + 512 * (length tokens + regions_left (world_of p).functions)
  -- its numbers name temporaries, locals, temporary objects and data that there are, and the parts of its objects lie apart: it can be selected
  pub selectable : IsSelectable c
