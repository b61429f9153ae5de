-- Believed, for this crate's laws: where the names of a source's functions live.
use Rattle.std.specs.Prelude.{◌≡◌, ℕ, Some, List, map, slice_get}
use Rattle.cyc_tree.specs.Tree.{Program}
use Rattle.source_meaning.specs.Steps.{Routine, World}
use Rattle.source_meaning.specs.Programs.{unions_of, world_of}
use Rattle.core_lines.specs.Homes.{home_in, home_registers}
use Rattle.source_lowering.specs.Lowerable.{HaveFewMembers}
use Rattle.source_lowering.specs.Programs.{function_code}
use Rattle.accepted_programs.specs.Accepted.{IsAccepted}
use Rattle.home_proof.specs.Names.{function_names, in_turn}

-- the registers of the locals of a function's Core, in the order of the text
abbrev pub homes_of : World → Routine → List ℕ
homes_of w f = map (home_in (function_code w f)) (function_code w f).order

-- Of each function of a program that is accepted, and whose unions have no more members than a word counts, the first twelve names that may live in a register
-- do,
-- in the order of the registers.
abbrev pub HomesAreOfNames : Type 0
HomesAreOfNames = (p : Program) → IsAccepted p → HaveFewMembers (unions_of p) → (number : ℕ) (f : Routine) → slice_get (world_of p).functions number ≡ Some f
    → homes_of (world_of p) f ≡ in_turn (function_names (world_of p) f) home_registers
