-- What an ending wants to have reached the writer.
use Rattle.std.proofs.Common.{ℕ, List, ◌++◌, Option}
use Rattle.std.specs.Io.KnownBytes.{Appends}
use Rattle.std.proofs.KnownBytes.{Appends-trans}
use Rattle.cyc_host.specs.Hosted.{Written}
use Rattle.cyc_host.specs.declared.ending.Ending.{Ending}
use Rattle.cyc_host.specs.declared.ending.Ending.TheVariants as ending
use Rattle.cyc_host.proofs.Transfers.{some_then}

-- what an ending wants of the rest, after the front, it has of all
pub written_then : (why : Ending) (old middle new : Option (List ℕ)) (front rest : List ℕ) → Appends old middle front
    → Written why middle new rest → Written why old new (front ++ rest)
written_then ending.WriteFault old middle new front rest p q = some_then old middle new front rest p q
written_then (ending.Ended status) old middle new front rest p q = Appends-trans _ _ _ _ _ p q
written_then (ending.Raised kind) old middle new front rest p q = Appends-trans _ _ _ _ _ p q
written_then ending.Exhausted old middle new front rest p q = Appends-trans _ _ _ _ _ p q
written_then ending.HostMemory old middle new front rest p q = Appends-trans _ _ _ _ _ p q
written_then ending.StepLimit old middle new front rest p q = Appends-trans _ _ _ _ _ p q
written_then (ending.Fault fault) old middle new front rest p q = Appends-trans _ _ _ _ _ p q
written_then ending.ReadFault old middle new front rest p q = Appends-trans _ _ _ _ _ p q
