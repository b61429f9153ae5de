-- Believed: what a compiled text is, and what its run is.
use Rattle.std.specs.Prelude.{◌≡◌, ◌≢◌, ℕ, ◌<◌, ◌≤◌, ◌%◌, ◌⊎◌, true, List, [], ◌∷◌, ◌++◌, length, Option, None, Contains}
use Rattle.std.specs.Io.KnownBytes.{Appends}
use Rattle.cyc_words.specs.Words.{word}
use Rattle.cyc_words.specs.Events.{AreBytes, Event, SourceEvent, Visible, ByteRead, SourceEnding, Request, output, visible}
use Rattle.step_trees.specs.Trees.{Outcome}
use Rattle.cyc_tree.specs.Tree.{Program}
use Rattle.source_meaning.specs.Programs.{source, world_of}
use Rattle.source_lowering.specs.Programs.{program_code as core_of}
use Rattle.core_lines.specs.declared.line.Line.{Line}
use Rattle.core_lines.specs.Choosing.{far}
use Rattle.core_lines.specs.Relaxed.{shortened, wide_in}
use Rattle.core_lines.specs.Running.{data_offsets}
use Rattle.core_lines.specs.Selected.{program_code as lines_of}
use Rattle.core_lines.specs.Statics.{data_bytes}
use Rattle.rv32_layout.specs.Placed.{ArePlaced}
use Rattle.cyc_image.specs.Format.{Contents, IsImage, code_limit, second_block_limit}
use Rattle.rv32_machine.specs.Arrays.{Arrays, IsStart, areas_of, state_of, stack_length}
use Rattle.arena_laws.specs.Holdings.{fresh}
use Rattle.arena_laws.specs.Lawful.{Answer}
use Rattle.rv32_machine.specs.State.{State, Areas, Runs}
use Rattle.rv32_machine.specs.Run.{run_steps, from}
use Rattle.rv32_machine.specs.Implements.{Implements, Reaches, IsCut, IsRefused, HasNoFrame, active_after}
use Rattle.cyc_host.specs.declared.ending.Ending.{Ending}
use Rattle.cyc_host.specs.declared.ending.Ending.TheVariants as ending
use Rattle.cyc_host.specs.Hosted.{IsHosted}
use Rattle.exhaustion_proof.specs.Room.{HasRoom, is_refused_after}
use Rattle.stack_proof.specs.Laws.{FitsStack, HasPages}
use Rattle.compile_proof.specs.Promise.{meaning_of, frame_bound_of, frame_size_of}
use Rattle.cycc_driver.specs.Texts.{IsAcceptedAs}

-- ---- images

-- A machine that starts with these parts of an image does what the program does, on each input of bytes, over any store that was just made and whatever that
-- answers. A run that is refused a frame stops before a call with which the bounds on the frames of all active functions are over the stack.
abbrev pub IsImplementedWithin : (List ℕ → ℕ) → Program → Contents → Type 0
IsImplementedWithin bound program parts =
    (arena : ℕ → ℕ) (start : Arrays) → ((at : ℕ) → arena at < 256) → IsStart parts (fresh parts.pages) arena start → (input : List ℕ) → AreBytes input
    → Implements bound (areas_of start) (state_of start) input (meaning_of program input)

-- with the bounds that the source gives
abbrev pub IsImplementedBy : Program → Contents → Type 0
IsImplementedBy program parts = IsImplementedWithin (frame_bound_of (world_of program)) program parts

-- and with the frames that the code has
abbrev pub IsCloselyImplementedBy : Program → Contents → Type 0
IsCloselyImplementedBy program parts = IsImplementedWithin (frame_size_of (world_of program)) program parts

-- the lines of a program's Core, with each conditional jump as short as it can be
abbrev pub placed_lines : Program → List Line
placed_lines program = let lines = lines_of far (core_of program) in shortened (wide_in lines) lines

-- the data: the bytes of its globals and strings
abbrev pub data_of : Program → List ℕ
data_of program = let objects = (core_of program).data_objects in data_bytes (data_offsets objects) 0 objects

-- The image of an accepted text, with these pages of the arena and of the stack: it is of version 2, its code is the words of the program's lines, its data are
-- the program's, and it begins with the first line; so it is the only one (`one_image`). It implements the program that the text spells.
pub record IsTextImage (text : List ℕ) (pages stack_pages : ℕ) (bytes : List ℕ) : Type 0 where
  pub program : Program
  pub accepted : IsAcceptedAs text program
  pub parts : Contents
  pub image : IsImage bytes parts
  pub as_asked : parts.pages ≡ pages
  pub stack_as_asked : parts.stack_pages ≡ stack_pages
  pub blocks : parts.block_limit ≡ second_block_limit
  pub code : ArePlaced (placed_lines program) parts.code
  pub statics : parts.statics ≡ data_of program
  pub from_first : parts.entry ≡ 0
  pub implemented : IsImplementedBy program parts
  pub closely : IsCloselyImplementedBy program parts

-- what `compile` puts into an image as its code: whole words, some, and no more than the limit
pub record IsCode (bytes : List ℕ) : Type 0 where
  pub some : 0 < length bytes
  pub within : length bytes ≤ code_limit
  pub whole_words : length bytes % 4 ≡ 0

-- ---- runs

-- some of the program's output on an input was written, from its first byte on
pub record WritesBeginning (program : Program) (input : List ℕ) (old new : Option (List ℕ)) : Type 0 where
  pub fuel : ℕ
  pub bytes : List ℕ
  pub others : List ℕ
  pub begins : output (visible (source program input fuel).events) ≡ bytes ++ others
  pub written : Appends old new bytes

-- all of it was written, and the program ends so
pub record WritesAll (program : Program) (input : List ℕ) (end : SourceEnding) (old new : Option (List ℕ)) : Type 0 where
  pub fuel : ℕ
  pub ends : (source program input fuel).ending ≡ end
  pub written : Appends old new (output (visible (source program input fuel).events))

-- of an event holds that it wants room: a request of the store, or a call whose frame, with those of the active functions, may take more bytes
-- than the stack has
abbrev pub WantsRoom : Program → Areas → List SourceEvent → SourceEvent → Type 0
WantsRoom program n before next =
    ((q : Request) × IsRefused q next) ⊎ HasNoFrame (frame_bound_of (world_of program)) n.stack (active_after [] before) next

-- what the program writes up to an event that wants room was written
pub record WritesToCut (n : Areas) (program : Program) (input : List ℕ) (old new : Option (List ℕ)) : Type 0 where
  pub fuel : ℕ
  pub shown : List Event
  pub cut : IsCut shown (source program input fuel).events (WantsRoom program n)
  pub written : Appends old new (output shown)

-- what the program writes up to a request that the store refused was written
pub record WritesToRequest (program : Program) (input : List ℕ) (old new : Option (List ℕ)) : Type 0 where
  pub fuel : ℕ
  pub shown : List Event
  pub cut : IsCut shown (source program input fuel).events (λ before next. (q : Request) × IsRefused q next)
  pub written : Appends old new (output shown)

-- the frames of the program's calls fit the stack, as `main` needs it
abbrev pub HasStack : Program → (stack_pages : ℕ) → Type 0
HasStack program stack_pages = FitsStack (frame_size_of (world_of program)) program (stack_length stack_pages)

-- The run ends as the program does on the input, with its output; or it was stopped before, after a beginning of it: where it is exhausted, up to the
-- event that had no room. No run ends at a fault.
abbrev pub EndsAsProgram : Ending → Areas → Program → List ℕ → Option (List ℕ) → Option (List ℕ) → Type 0
EndsAsProgram (ending.Ended status) n program input old new = WritesAll program input (SourceEnding.Ended (word status)) old new
EndsAsProgram (ending.Raised kind) n program input old new = WritesAll program input (SourceEnding.Raised kind) old new
EndsAsProgram ending.Exhausted n program input old new = WritesToCut n program input old new
EndsAsProgram ending.HostMemory n program input old new = WritesBeginning program input old new
EndsAsProgram (ending.Fault fault) n program input old new = ⊥
EndsAsProgram ending.StepLimit n program input old new = WritesBeginning program input old new
EndsAsProgram ending.ReadFault n program input old new = WritesBeginning program input old new
EndsAsProgram ending.WriteFault n program input old new = WritesBeginning program input old new

-- a meaning is over
abbrev pub IsOver : SourceEnding → Type 0
IsOver (SourceEnding.Ended status) = Unit {0}
IsOver (SourceEnding.Raised kind) = Unit {0}
IsOver SourceEnding.Running = ⊥
IsOver SourceEnding.Stuck = ⊥

-- the bytes that a frame of one of the program's functions may take
abbrev pub frames_of : Program → List ℕ → ℕ
frames_of program = frame_bound_of (world_of program)

-- The run was stopped as exhausted, when all before an event was written; or a device failed it before, or the host's memory.
abbrev pub IsStoppedBefore : Ending → List Event → Option (List ℕ) → Option (List ℕ) → Type 0
IsStoppedBefore ending.Exhausted shown old new = Appends old new (output shown)
IsStoppedBefore ending.HostMemory shown old new = Unit {0}
IsStoppedBefore ending.ReadFault shown old new = Unit {0}
IsStoppedBefore ending.WriteFault shown old new = Unit {0}
IsStoppedBefore (ending.Ended status) shown old new = ⊥
IsStoppedBefore (ending.Raised kind) shown old new = ⊥
IsStoppedBefore (ending.Fault fault) shown old new = ⊥
IsStoppedBefore ending.StepLimit shown old new = ⊥

-- The run ended as a program's outcome does that is over, when all its output was written; or it was exhausted, or a device failed it, or the host's memory.
abbrev pub EndsOrIsStopped : Ending → Outcome SourceEvent → Option (List ℕ) → Option (List ℕ) → Type 0
EndsOrIsStopped (ending.Ended status) meant old new = (meant.ending ≡ SourceEnding.Ended (word status)) × Appends old new (output (visible meant.events))
EndsOrIsStopped (ending.Raised kind) meant old new = (meant.ending ≡ SourceEnding.Raised kind) × Appends old new (output (visible meant.events))
EndsOrIsStopped ending.Exhausted meant old new = Unit {0}
EndsOrIsStopped ending.HostMemory meant old new = Unit {0}
EndsOrIsStopped ending.ReadFault meant old new = Unit {0}
EndsOrIsStopped ending.WriteFault meant old new = Unit {0}
EndsOrIsStopped ending.StepLimit meant old new = ⊥
EndsOrIsStopped (ending.Fault fault) meant old new = ⊥

-- A run between a reader and a writer, of at most `steps` steps from its start on, of the image that `compile` gives for an accepted text.
pub record IsTextRun (text : List ℕ) (pages stack_pages steps : ℕ) (why : Ending) (reader_old reader_new writer_old writer_new : Option (List ℕ)) : Type 0 where
  pub bytes : List ℕ
  pub image : IsTextImage text pages stack_pages bytes
  -- the store was just made, and all its bytes are 0
  pub arena : ℕ → ℕ
  pub blank : (at : ℕ) → arena at ≡ 0
  pub start : Arrays
  pub starts : IsStart image.parts (fresh pages) arena start
  pub end : State
  pub hosted : IsHosted why (areas_of start) steps (state_of start) end reader_old reader_new writer_old writer_new
  -- at the step limit, also after no step, the machine runs on
  pub goes_on : why ≡ ending.StepLimit → end.mode ≡ Runs
  -- what is written, on the bytes that the reader gave, is the program's, and the ending is its
  pub ends : EndsAsProgram why (areas_of start) image.program hosted.input writer_old writer_new
  -- Where enough steps were given, the run ends as the program does, with its output, or is exhausted, or a device failed it: where, on some input that begins
  -- with what was read, and is that where its end was told, the image comes to the program's end by a number of steps up to the limit, whatever the store
  -- answers.
  pub limit : (more : List ℕ)
      → (Contains (run_steps (areas_of start) hosted.count (from (state_of start) hosted.input hosted.answers)).events (ByteRead None) → more ≡ [])
      → (fuel count : ℕ) → IsOver (source image.program (hosted.input ++ more) fuel).ending
      → ((answers : ℕ → Answer) →
      Reaches (run_steps (areas_of start) count (from (state_of start) (hosted.input ++ more) answers)) (meaning_of image.program (hosted.input ++ more)) fuel)
      → count ≤ steps → EndsOrIsStopped why (source image.program (hosted.input ++ more) fuel) writer_old writer_new
  -- No run is exhausted where, on some input that begins with what was read, and is that where its end was told, there are pages for each of the program's
  -- events and stack for each of its calls.
  pub roomy : (more : List ℕ) → AreBytes more
      → (Contains (run_steps (areas_of start) hosted.count (from (state_of start) hosted.input hosted.answers)).events (ByteRead None) → more ≡ [])
      → ((fuel : ℕ) → HasRoom (frames_of image.program) pages (stack_length stack_pages) (source image.program (hosted.input ++ more) fuel).events)
      → why ≢ ending.Exhausted
  -- Where the stack has what the program's calls need, an exhausted run was refused a request of the store,
  pub requested : HasStack image.program stack_pages → why ≡ ending.Exhausted → WritesToRequest image.program hosted.input writer_old writer_new
  -- and none is exhausted where there are pages for each of the program's events.
  pub paged : HasStack image.program stack_pages → (more : List ℕ) → AreBytes more
      → (Contains (run_steps (areas_of start) hosted.count (from (state_of start) hosted.input hosted.answers)).events (ByteRead None) → more ≡ [])
      → ((fuel : ℕ) → HasPages pages (source image.program (hosted.input ++ more) fuel).events) → why ≢ ending.Exhausted
  -- Where the first event that wants more is a request that the counts of pages refuse, and enough steps were given for it whatever the store answers, the run
  -- is exhausted, when just the output up to that request was written, if no device failed it.
  pub short : (more : List ℕ) → AreBytes more
      → (Contains (run_steps (areas_of start) hosted.count (from (state_of start) hosted.input hosted.answers)).events (ByteRead None) → more ≡ [])
      → (fuel : ℕ) (before : List SourceEvent) (e : Event) (rest : List SourceEvent)
      → (source image.program (hosted.input ++ more) fuel).events ≡ before ++ Visible e ∷ rest
      → HasRoom (frames_of image.program) pages (stack_length stack_pages) before
      → is_refused_after pages (visible before) e ≡ true → (enough : ℕ)
      → ((answers : ℕ → Answer) →
      Reaches (run_steps (areas_of start) enough (from (state_of start) (hosted.input ++ more) answers)) (meaning_of image.program (hosted.input ++ more)) fuel)
      → enough ≤ steps → IsStoppedBefore why (visible before) writer_old writer_new
