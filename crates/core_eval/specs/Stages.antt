-- View of code: a run between a reader and a writer: where it stands, and how far it has come.
use Rattle.std.specs.Prelude.{◌≡◌, ℕ, ◌+◌, Bool, true, List, [], ◌++◌, Option, None, Contains}
use Rattle.std.specs.Io.KnownBytes.{Appends, Consumes, IsAtEnd}
use Rattle.core_meaning.specs.Core.{Program}
use Rattle.core_meaning.specs.Steps.{Event, Step}
use Rattle.core_meaning.specs.Meaning.{bodies, core}
use Rattle.cyc_words.specs.Events.{AreBytes, ByteRead, output, bytes_read}
use Rattle.step_trees.specs.Trees.{Outcome, run}
use Rattle.core_eval.specs.Pendings.{Next, Wait}
use Rattle.core_eval.specs.Standing.{Known, Stands}
use Rattle.core_eval.specs.Evaluated.{seen}

-- these events, and then what a run comes to
abbrev pub prepended : List Event → Outcome Event → Outcome Event
prepended es o = record { events = es ++ o.events; ending = o.ending }

-- A run has taken these bytes and shown these events with so many units, whatever else follows them; after the end nothing follows. It goes on with a step and
-- what is left of its fuel.
pub record Progress (p : Program) (fuel left : ℕ) (is_over : Bool) (s : Step) (reader_old reader_new writer_old writer_new : Option (List ℕ))
    (gathered : List ℕ) : Type 0 where
  pub input : List ℕ
  pub bytes : AreBytes input
  pub units : ℕ
  pub spent : units + left ≡ fuel
  pub events : List Event
  pub written : List ℕ
  pub consumed : Consumes reader_old reader_new input
  pub taken : bytes_read (seen events) ≡ input
  pub appended : Appends writer_old writer_new written
  pub shows : output (seen events) ≡ written ++ gathered
  pub told : Contains (seen events) (ByteRead None) → is_over ≡ true
  pub at_end : is_over ≡ true → IsAtEnd reader_new
  pub ran : (n : ℕ) (more : List ℕ) → (is_over ≡ true → more ≡ []) → core p (input ++ more) (units + n) ≡ prepended events (run (bodies p) n s more)

-- where a run stands, with what is left of its fuel
pub record Stage (p : Program) (fuel left : ℕ) (is_over : Bool) (next : Next) (ws : List Wait) (known : Known) (reader_old reader writer_old writer : Option
    (List ℕ)) (gathered : List ℕ) : Type 0 where
  pub s : Step
  pub stands : Stands p.main s next ws known
  pub progress : Progress p fuel left is_over s reader_old reader writer_old writer gathered
