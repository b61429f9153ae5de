-- Believed: what an evaluation between a reader and a writer does: the program's run on the bytes that the reader gave, whose output goes to the writer.
use Rattle.std.specs.Prelude.{◌≡◌, ◌≢◌, ℕ, suc, ◌<◌, ◌≤◌, List, [], ◌∷◌, ◌++◌, Option, Some, None, take, Contains}
use Rattle.std.specs.Io.KnownBytes.{Appends, Consumes, IsAtEnd}
use Rattle.core_meaning.specs.Core.{Program}
use Rattle.core_meaning.specs.Steps as steps
use Rattle.cyc_words.specs.Events.{AreBytes, Event, ByteRead, SourceEnding, output, bytes_read}
use Rattle.cyc_words.specs.Words.{word}
use Rattle.cyc_words.specs.Devices.{one_more}
use Rattle.core_meaning.specs.Meaning.{core}
use Rattle.core_eval.specs.declared.ending.EvalEnding.{EvalEnding}
use Rattle.core_eval.specs.declared.ending.EvalEnding.TheVariants as ending

-- the visible ones of a run's events
abbrev pub seen : List steps.Event → List Event
seen [] = []
seen (steps.Visible e ∷ es) = e ∷ seen es
seen (steps.Called f ∷ es) = seen es
seen (steps.Returned f ∷ es) = seen es

-- The bytes that the run writes reach the writer: all of them, or where a write failed some from the first on.
abbrev pub Wrote : EvalEnding → Option (List ℕ) → Option (List ℕ) → List ℕ → Type 0
Wrote (ending.Ended status) old new bytes = Appends old new bytes
Wrote (ending.Raised kind) old new bytes = Appends old new bytes
Wrote ending.Running old new bytes = Appends old new bytes
Wrote ending.Stuck old new bytes = Appends old new bytes
Wrote ending.ReadFault old new bytes = Appends old new bytes
Wrote ending.WriteFault old new bytes = (count : ℕ) × Appends old new (take count bytes)
Wrote ending.HostMemory old new bytes = Appends old new bytes

-- With one unit more, and this byte after the input, the run reads the byte next.
abbrev pub IsReadNext : Program → List ℕ → ℕ → ℕ → Type 0
IsReadNext p input units byte =
    (rest : List steps.Event)
    × ((core p (input ++ byte ∷ []) (suc units)).events ≡ (core p input units).events ++ steps.Visible (ByteRead (Some byte)) ∷ rest)

-- How so many of `fuel` units have left the run. Its own endings come with all the fuel that there is. A read fault comes where a unit is left, and
-- the run reads a byte with it. Anything may be due where a write failed, or the host has no memory.
abbrev pub EndsAs : EvalEnding → Program → (fuel units : ℕ) → (input : List ℕ) → Type 0
EndsAs (ending.Ended status) p fuel units input = (units ≡ fuel) × ((core p input units).ending ≡ SourceEnding.Ended (word status))
EndsAs (ending.Raised kind) p fuel units input = (units ≡ fuel) × ((core p input units).ending ≡ SourceEnding.Raised kind)
EndsAs ending.Running p fuel units input = (units ≡ fuel) × ((core p input units).ending ≡ SourceEnding.Running)
EndsAs ending.Stuck p fuel units input = (units ≡ fuel) × ((core p input units).ending ≡ SourceEnding.Stuck)
EndsAs ending.ReadFault p fuel units input =
    (units < fuel) × ((core p input units).ending ≡ SourceEnding.Running) × ((byte : ℕ) → IsReadNext p input units byte)
EndsAs ending.WriteFault p fuel units input = Unit {0}
EndsAs ending.HostMemory p fuel units input = Unit {0}

-- a run that ends in a read fault had one failed call of the reader, and any other run none
abbrev pub reads_failed : EvalEnding → ℕ → ℕ
reads_failed (ending.Ended status) count = count
reads_failed (ending.Raised kind) count = count
reads_failed ending.Running count = count
reads_failed ending.Stuck count = count
reads_failed ending.ReadFault count = one_more count
reads_failed ending.WriteFault count = count
reads_failed ending.HostMemory count = count

-- a run that ends in a write fault had one failed call of the writer, and any other run none
abbrev pub writes_failed : EvalEnding → ℕ → ℕ
writes_failed (ending.Ended status) count = count
writes_failed (ending.Raised kind) count = count
writes_failed ending.Running count = count
writes_failed ending.Stuck count = count
writes_failed ending.ReadFault count = count
writes_failed ending.WriteFault count = one_more count
writes_failed ending.HostMemory count = count

-- The run of a program with at most `fuel` units, on the bytes that the reader gave.
pub record IsEvaluated (why : EvalEnding) (p : Program) (fuel : ℕ) (reader_old reader_new writer_old writer_new : Option (List ℕ)) : Type 0 where
  pub input : List ℕ
  pub bytes : AreBytes input
  -- the units that the run had
  pub units : ℕ
  pub within : units ≤ fuel
  pub given : Consumes reader_old reader_new input
  -- each byte that was taken from the reader is one that the run read
  pub taken : bytes_read (seen (core p input units).events) ≡ input
  -- the run was told of the input's end only where the reader is at its end
  pub at_end : Contains (seen (core p input units).events) (ByteRead None) → IsAtEnd reader_new
  pub wrote : Wrote why writer_old writer_new (output (seen (core p input units).events))
  pub ends : EndsAs why p fuel units input

-- With any fuel and on any input of bytes the run does nothing that no rule gives a meaning.
abbrev pub IsNeverStuck : Program → Type 0
IsNeverStuck p = (input : List ℕ) → AreBytes input → (units : ℕ) → (core p input units).ending ≢ SourceEnding.Stuck
