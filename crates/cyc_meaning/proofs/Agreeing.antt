-- The Core of an accepted program that is lowered does what the program does.
use Rattle.std.proofs.Common.{ℕ, List, ⊎_elim}
use Rattle.cyc_words.specs.Events.{AreBytes}
use Rattle.cyc_tree.specs.Tree.{Program}
use Rattle.core_meaning.specs.Meaning.{core}
use Rattle.accepted_proof.proofs.Joined.{lowerable, accepted_are_never_stuck}
use Rattle.source_lowering.proofs.Programs.{programs_are_the_same}
use Rattle.source_lowering.specs.Agreeing.{SameOutcome}
use Rattle.source_lowering.specs.Lowerable.{HaveFewMembers}
use Rattle.source_lowering.specs.Programs.{program_code}
use Rattle.source_meaning.specs.Programs.{source, unions_of, world_of}
use Rattle.accepted_programs.specs.Accepted.{IsAccepted}

pub does_the_same : (p : Program) → IsAccepted p → HaveFewMembers (unions_of p) → (input : List ℕ) → AreBytes input → (n : ℕ)
    → SameOutcome (world_of p) (source p input n) (core (program_code p) input n)
does_the_same p accepted few input bytes n =
    ⊎_elim (λ stuck. absurd (accepted_are_never_stuck p accepted input n stuck)) (λ same. same)
    (programs_are_the_same p (lowerable p accepted few) input bytes n)
