-- The laws, by what is proved of expressions and of bodies.
use Rattle.std.proofs.Common.{false}
use Rattle.cyc_tree.specs.Tree.{Program}
use Rattle.source_meaning.specs.Programs.{world_of}
use Rattle.accepted_programs.specs.Accepted.{IsAccepted}
use Rattle.source_typing.specs.Programs.{tables_of}
use Rattle.accepted_proof.specs.Good.{BodiesJudged}
use Rattle.accepted_proof.specs.Laws.{AcceptedAreJudged, AcceptedAreLowerable, AcceptedAreNeverStuck, AcceptedHaveMain}
use Rattle.accepted_proof.proofs.good.Bodies.{bodies_judged}
use Rattle.accepted_proof.proofs.good.Expressions.{expressions_judged}
use Rattle.accepted_proof.proofs.lowered.Programs as lowered
use Rattle.accepted_proof.proofs.Programs as programs
use Rattle.accepted_proof.proofs.lowered.SizedGlobals.{AreSized}

bodies : BodiesJudged
bodies = bodies_judged expressions_judged

pub judged : AcceptedAreJudged
judged = programs.programs_judged bodies

pub lowerable : AcceptedAreLowerable
lowerable = lowered.programs_lowerable bodies

pub sized : (p : Program) → IsAccepted p → AreSized (world_of p) (tables_of false p) 0 p
sized = lowered.programs_sized bodies

pub accepted_are_never_stuck : AcceptedAreNeverStuck
accepted_are_never_stuck = programs.programs_never_stuck bodies

pub have_main : AcceptedHaveMain
have_main = programs.programs_have_main bodies
