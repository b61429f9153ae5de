-- Believed: what holds of all programs that are accepted.
use Rattle.std.specs.Prelude.{◌≡◌, ◌<◌, ℕ, false, List, length}
use Rattle.cyc_tree.specs.Tree.{Program}
use Rattle.cyc_words.specs.Events.{SourceEnding}
use Rattle.source_lowering.specs.Programs.{program_code}
use Rattle.source_lowering.specs.Lowerable.{HaveFewMembers, IsLowerable}
use Rattle.source_meaning.specs.Programs.{source, unions_of}
use Rattle.type_proof.specs.Programs.{ProgramJudged}
use Rattle.source_typing.specs.Programs.{tables_of}
use Rattle.accepted_programs.specs.Accepted.{IsAccepted}

-- each phrase of each is judged, by the tables that the rules have of its names
abbrev pub AcceptedAreJudged : Type 0
AcceptedAreJudged = (p : Program) → IsAccepted p → ProgramJudged p (tables_of false p)

-- lowering takes each whose unions have no more members than a word counts
abbrev pub AcceptedAreLowerable : Type 0
AcceptedAreLowerable = (p : Program) → IsAccepted p → HaveFewMembers (unions_of p) → IsLowerable p

-- none is ever stuck, on any input, with any fuel
abbrev pub AcceptedAreNeverStuck : Type 0
AcceptedAreNeverStuck = (p : Program) → IsAccepted p
    → (input : List ℕ) (n : ℕ) → (source p input n).ending ≡ SourceEnding.Stuck → ⊥

-- the Core of each has the function that it begins with
abbrev pub AcceptedHaveMain : Type 0
AcceptedHaveMain = (p : Program) → IsAccepted p
    → (program_code p).main < length (program_code p).functions
