-- A program is accepted exactly where the rules find no fault in it.
use Rattle.std.proofs.Common.{◌≡◌, []}
use Rattle.cyc_tree.specs.Tree.{Program}
use Rattle.source_typing.specs.Answers.{program_faults}
use Rattle.source_typing.proofs.Inversion.{none_is}
use Rattle.accepted_programs.specs.Accepted.{IsAccepted}

pub no_faults : (p : Program) → IsAccepted p → program_faults p ≡ []
no_faults p accepted = none_is (program_faults p) accepted.faultless
