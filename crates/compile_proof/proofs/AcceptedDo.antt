-- All that is promised of a program that is accepted.
use Rattle.std.specs.Prelude.{false}
use Rattle.compile_proof.specs.Laws.{AllAcceptedDo}
use Rattle.source_lowering.specs.Lowerable.{IsLowerable}
use Rattle.accepted_proof.proofs.good.Tables.{no_typing_faults}
use Rattle.accepted_proof.proofs.Joined as joined
use Rattle.compile_proof.proofs.Data.{program_plain}
use Rattle.compile_proof.proofs.LowerableDo.{lowerable_do}
use Rattle.compile_proof.proofs.NamedApart.{named_apart}
use Rattle.compile_proof.proofs.DataWithin.{data_within}

pub accepted_do : AllAcceptedDo
accepted_do p accepted few =
    let lowerable : IsLowerable p = joined.lowerable p accepted few in
    let within = data_within p accepted in
    record {
      promised = lowerable_do p lowerable (named_apart false p (no_typing_faults p accepted));
      plain = program_plain p lowerable within;
      data_within = within;
    }
