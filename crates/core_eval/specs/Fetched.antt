-- View of code: what a read does whose output comes first.
use Rattle.std.specs.Prelude.{◌≡◌, ℕ, Bool, false, List, Option, Result, Ok, Err}
use Rattle.std.specs.Io.KnownBytes.{Appends, Keeps}
use Rattle.cyc_host.specs.Transfers.{WritesSome}
use Rattle.core_eval.specs.declared.ending.EvalEnding.{EvalEnding}
use Rattle.core_eval.specs.declared.ending.EvalEnding.TheVariants as ending
use Rattle.core_eval.specs.Evaluated.{reads_failed, writes_failed}

-- The read failed, after all was written, and the input's end wasn't told before; or the write failed, and nothing was read.
abbrev pub FetchFault : EvalEnding → (reader_old reader_new : Option (List ℕ)) → (was_over : Bool) → (writer_old writer_new : Option (List ℕ)) → List ℕ → Type 0
FetchFault ending.ReadFault reader_old reader_new was_over writer_old writer_new bytes =
    Keeps reader_old reader_new × (was_over ≡ false) × Appends writer_old writer_new bytes
FetchFault ending.WriteFault reader_old reader_new was_over writer_old writer_new bytes =
    (reader_new ≡ reader_old) × WritesSome writer_old writer_new bytes
FetchFault _ reader_old reader_new was_over writer_old writer_new bytes = ⊥

-- how often each device has failed then
abbrev pub fetch_reads_failed : {A : Type 0} → Result A EvalEnding → ℕ → ℕ
fetch_reads_failed (Ok answer) count = count
fetch_reads_failed (Err why) count = reads_failed why count

abbrev pub fetch_writes_failed : {A : Type 0} → Result A EvalEnding → ℕ → ℕ
fetch_writes_failed (Ok answer) count = count
fetch_writes_failed (Err why) count = writes_failed why count
