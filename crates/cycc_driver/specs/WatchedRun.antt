-- Believed: what a watched run tells of a text: it counts the instructions of the image that `compile` gives, each word of its code by itself, its calls and
-- its requests, and knows the last instruction and the active calls.
use Rattle.std.specs.Prelude.{◌≡◌, ℕ, List, Option}
use Rattle.rv32_machine.specs.Arrays.{Arrays, IsStart, areas_of, state_of}
use Rattle.rv32_machine.specs.State.{State}
use Rattle.arena_laws.specs.Holdings.{fresh}
use Rattle.cyc_host.specs.declared.ending.Ending.{Ending}
use Rattle.cyc_host.specs.Watched.{IsWatched, Known, Tally, no_calls, nothing}
use Rattle.cycc_driver.specs.Outcome.{IsTextImage}

-- A run between a reader and a writer, of at most `steps` steps from its start on, of the image that `compile` gives for an accepted text: each
-- instruction that begins is taken in, and nothing else, from nothing and no call on.
pub record IsTextWatched (text : List ℕ) (pages stack_pages steps : ℕ) (why : Ending) (reader_old reader_new writer_old writer_new : Option (List ℕ))
    (tally : Tally) (known : Known) : Type 0 where
  pub bytes : List ℕ
  pub image : IsTextImage text pages stack_pages bytes
  -- the store was just made, and all its bytes are 0
  pub arena : ℕ → ℕ
  pub blank : (at : ℕ) → arena at ≡ 0
  pub start : Arrays
  pub starts : IsStart image.parts (fresh pages) arena start
  pub end : State
  pub watched : IsWatched why (areas_of start) steps (state_of start) end reader_old reader_new writer_old writer_new
      (nothing image.parts.code) tally no_calls known
