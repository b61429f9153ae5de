-- Believed: what an evaluation between a reader and a writer does: the source's run on the bytes that the reader gave, whose output goes to the writer.
use Rattle.std.specs.Prelude.{◌≡◌, ℕ, suc, ◌<◌, ◌≤◌, List, [], ◌∷◌, ◌++◌, Option, Some, None, Contains}
use Rattle.std.specs.Io.KnownBytes.{Consumes, IsAtEnd}
use Rattle.cyc_tree.specs.Tree.{Program}
use Rattle.cyc_words.specs.Events.{AreBytes, ByteRead, SourceEvent, Visible, SourceEnding, visible, output, bytes_read}
use Rattle.cyc_words.specs.Words.{word}
use Rattle.source_meaning.specs.Programs.{source as source_run}
use Rattle.core_eval.specs.Evaluated.{Wrote}
use Rattle.core_eval.specs.declared.ending.EvalEnding.{EvalEnding}
use Rattle.core_eval.specs.declared.ending.EvalEnding.TheVariants as ending

-- With one unit more, and this byte after the input, the run reads the byte next.
abbrev pub IsReadNext : Program → List ℕ → ℕ → ℕ → Type 0
IsReadNext p input units byte =
    (rest : List SourceEvent)
    × ((source_run p (input ++ byte ∷ []) (suc units)).events ≡ (source_run p input units).events ++ Visible (ByteRead (Some byte)) ∷ rest)

-- How a run with `units` of the `fuel` units ends. Its own endings come with all the fuel that there is. A read fault comes where a unit is left, and
-- the run reads a byte with it. Anything may be due where a write failed, or the host has no memory.
abbrev pub EndsAs : EvalEnding → Program → (fuel units : ℕ) → (input : List ℕ) → Type 0
EndsAs (ending.Ended status) p fuel units input = (units ≡ fuel) × ((source_run p input units).ending ≡ SourceEnding.Ended (word status))
EndsAs (ending.Raised kind) p fuel units input = (units ≡ fuel) × ((source_run p input units).ending ≡ SourceEnding.Raised kind)
EndsAs ending.Running p fuel units input = (units ≡ fuel) × ((source_run p input units).ending ≡ SourceEnding.Running)
EndsAs ending.Stuck p fuel units input = (units ≡ fuel) × ((source_run p input units).ending ≡ SourceEnding.Stuck)
EndsAs ending.ReadFault p fuel units input =
    (units < fuel) × ((source_run p input units).ending ≡ SourceEnding.Running) × ((byte : ℕ) → byte < 256 → IsReadNext p input units byte)
EndsAs ending.WriteFault p fuel units input = Unit {0}
EndsAs ending.HostMemory p fuel units input = Unit {0}

-- The run of a program with at most `fuel` units, on the bytes that the reader gave.
pub record IsEvaluated (why : EvalEnding) (p : Program) (fuel : ℕ) (reader_old reader_new writer_old writer_new : Option (List ℕ)) : Type 0 where
  pub input : List ℕ
  pub bytes : AreBytes input
  -- the units that the run had
  pub units : ℕ
  pub within : units ≤ fuel
  pub given : Consumes reader_old reader_new input
  -- each byte that was taken from the reader is one that the run read
  pub taken : bytes_read (visible (source_run p input units).events) ≡ input
  -- the run was told of the input's end only where the reader is at its end
  pub at_end : Contains (visible (source_run p input units).events) (ByteRead None) → IsAtEnd reader_new
  pub wrote : Wrote why writer_old writer_new (output (visible (source_run p input units).events))
  pub ends : EndsAs why p fuel units input
