-- Believed: how many calls of a device have failed, after a transfer and after a run.
use Rattle.std.specs.Prelude.{ℕ, Result, Ok, Err}
use Rattle.cyc_words.specs.Devices.{one_more}
use Rattle.cyc_host.specs.declared.ending.Ending.{Ending}
use Rattle.cyc_host.specs.declared.ending.Ending.TheVariants as ending

-- A transfer calls its device until it is done or a call fails: one more failed call where it failed, else none.
abbrev pub failed_once : {A E : Type 0} → Result A E → ℕ → ℕ
failed_once (Ok value) count = count
failed_once (Err error) count = one_more count

-- a run that ends in a read fault had one failed call of the reader, and any other run none
abbrev pub reads_failed : Ending → ℕ → ℕ
reads_failed (ending.Ended status) count = count
reads_failed (ending.Raised kind) count = count
reads_failed ending.Exhausted count = count
reads_failed ending.HostMemory count = count
reads_failed ending.StepLimit count = count
reads_failed (ending.Fault fault) count = count
reads_failed ending.ReadFault count = one_more count
reads_failed ending.WriteFault count = count

-- a run that ends in a write fault had one failed call of the writer, and any other run none
abbrev pub writes_failed : Ending → ℕ → ℕ
writes_failed (ending.Ended status) count = count
writes_failed (ending.Raised kind) count = count
writes_failed ending.Exhausted count = count
writes_failed ending.HostMemory count = count
writes_failed ending.StepLimit count = count
writes_failed (ending.Fault fault) count = count
writes_failed ending.ReadFault count = count
writes_failed ending.WriteFault count = one_more count
