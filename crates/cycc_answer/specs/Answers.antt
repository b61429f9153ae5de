-- Believed: what the status and the image of an answer say.
use Rattle.std.specs.Prelude.{◌≡◌, ◌≢◌, ◌⊎◌, ℕ, List, Option, Some, None, codes}
use Rattle.std.specs.Io.KnownBytes.{Appends}
use Rattle.cyc_image.specs.declared.fault.ImageFault.{ImageFault}
use Rattle.cyc_image.specs.declared.fault.ImageFault.TheVariants as image
use Rattle.cyc_image.specs.Format.{Contents, IsImage, IsShort, RefusedAsMagic, RefusedAsVersion, RefusedAsLimit, RefusedAsEntry, RefusedAsTrailing}
use Rattle.cyc_tree.specs.Tree.{Program}
use Rattle.arena_laws.specs.Holdings.{fresh}
use Rattle.rv32_machine.specs.Arrays.{Arrays, IsStart, areas_of, state_of}
use Rattle.rv32_machine.specs.State.{State}
use Rattle.cyc_host.specs.declared.ending.Ending.{Ending}
use Rattle.cyc_host.specs.declared.ending.Ending.TheVariants as ending
use Rattle.cyc_host.specs.Hosted.{IsHosted}
use Rattle.core_eval.specs.declared.ending.EvalEnding.{EvalEnding}
use Rattle.core_eval.specs.declared.ending.EvalEnding.TheVariants as eval
use Rattle.cycc_driver.specs.declared.fault.CompileFault.{CompileFault}
use Rattle.cycc_driver.specs.Texts.{IsAcceptedAs}
use Rattle.cycc_driver.specs.Refusals.{IsRefusedFor, HasNoImageFor}
use Rattle.cycc_driver.specs.Outcome.{IsTextImage, IsTextRun}
use Rattle.cycc_driver.specs.Evaluated.{IsTextEvaluated}
use Rattle.cycc_driver.specs.Stack.{IsTextStack}
use Rattle.cycc_driver.specs.declared.stacks.StackUse.{StackUse}
use Rattle.cycc_answer.specs.Statuses.{status_of, evaluated_status, refused_status, stack_status, unloaded_status}

-- ---- sources

-- a source is refused, by the rule for the command, and the status is the refusal's
pub record IsRefused (Refused : CompileFault → Type 0) (status : ℕ) : Type 0 where
  pub fault : CompileFault
  pub refused : Refused fault
  pub shown : status ≡ refused_status fault

-- an accepted source, of which that was printed, or the writer failed
pub record IsAccepted (text : List ℕ) (writer_old writer_new : Option (List ℕ)) (status : ℕ) : Type 0 where
  pub program : Program
  pub accepted : IsAcceptedAs text program
  pub shown : ((status ≡ 0) × Appends writer_old writer_new (codes "accepted\n")) ⊎ (status ≡ 6)

-- what `check` says
abbrev pub IsChecked : (text : List ℕ) (writer_old writer_new : Option (List ℕ)) → ℕ → Type 0
IsChecked text writer_old writer_new status = IsAccepted text writer_old writer_new status ⊎ IsRefused (λ fault. IsRefusedFor fault text) status

-- what `compile` says: there is an image exactly where the status is 0, and it is the source's
abbrev pub IsCompiled : (text : List ℕ) (pages stack_pages : ℕ) → Option (List ℕ) → ℕ → Type 0
IsCompiled text pages stack_pages (Some bytes) status = IsTextImage text pages stack_pages bytes × (status ≡ 0)
IsCompiled text pages stack_pages None status = IsRefused (λ fault. HasNoImageFor fault text) status

-- a source's run that ended, and the status is the ending's
pub record HasRun (text : List ℕ) (pages stack_pages steps : ℕ) (reader_old reader_new writer_old writer_new : Option (List ℕ)) (status : ℕ) : Type 0 where
  pub why : Ending
  pub run : IsTextRun text pages stack_pages steps why reader_old reader_new writer_old writer_new
  -- the machine and its store took all their memory before the run
  pub memory : why ≢ ending.HostMemory
  pub shown : status ≡ status_of why

-- what `run` says
abbrev pub IsRun : (text : List ℕ) (pages stack_pages steps : ℕ) (reader_old reader_new writer_old writer_new : Option (List ℕ)) → ℕ → Type 0
IsRun text pages stack_pages steps reader_old reader_new writer_old writer_new status =
    HasRun text pages stack_pages steps reader_old reader_new writer_old writer_new status ⊎ IsRefused (λ fault. HasNoImageFor fault text) status

-- a source's evaluation that ended, and the status is the ending's
pub record HasEvaluated (text : List ℕ) (fuel : ℕ) (reader_old reader_new writer_old writer_new : Option (List ℕ)) (status : ℕ) : Type 0 where
  pub why : EvalEnding
  pub evaluated : IsTextEvaluated text fuel why reader_old reader_new writer_old writer_new
  pub shown : status ≡ evaluated_status why

-- what `eval` says
abbrev pub IsEval : (text : List ℕ) (fuel : ℕ) (reader_old reader_new writer_old writer_new : Option (List ℕ)) → ℕ → Type 0
IsEval text fuel reader_old reader_new writer_old writer_new status =
    HasEvaluated text fuel reader_old reader_new writer_old writer_new status ⊎ IsRefused (λ fault. IsRefusedFor fault text) status

-- a source's evaluation that has passed a bound, of calls or of bytes, where there is one
pub record HasPassed (calls bytes : Option ℕ) (text : List ℕ) (fuel : ℕ) (reader_old reader_new writer_old writer_new : Option (List ℕ))
    (status : ℕ) : Type 0 where
  pub some : calls ≡ None → bytes ≢ None
  -- what is written is from the first on what the source's run writes
  pub evaluated : IsTextEvaluated text fuel eval.HostMemory reader_old reader_new writer_old writer_new
  pub shown : status ≡ 4

-- what `eval` says within bounds
abbrev pub IsEvalWithin : (calls bytes : Option ℕ) (text : List ℕ) (fuel : ℕ) (reader_old reader_new writer_old writer_new : Option (List ℕ)) → ℕ
    → Type 0
IsEvalWithin calls bytes text fuel reader_old reader_new writer_old writer_new status =
    IsEval text fuel reader_old reader_new writer_old writer_new status
    ⊎ HasPassed calls bytes text fuel reader_old reader_new writer_old writer_new status

-- what is known of an accepted source's stack, and the status says whether it has a bound, or that the writer failed
pub record HasStack (text : List ℕ) (status : ℕ) : Type 0 where
  pub stack : StackUse
  pub is : IsTextStack text stack
  pub shown : (status ≡ stack_status stack.recursion) ⊎ (status ≡ 6)

-- what `stack` says
abbrev pub IsStack : (text : List ℕ) → ℕ → Type 0
IsStack text status = HasStack text status ⊎ IsRefused (λ fault. IsRefusedFor fault text) status

-- ---- images

-- why bytes are no image: the first refusal of the format that applies; or no memory is left
abbrev pub IsNoImageFor : List ℕ → ImageFault → Type 0
IsNoImageFor bytes image.Short = IsShort bytes
IsNoImageFor bytes image.Magic = RefusedAsMagic bytes
IsNoImageFor bytes image.Version = RefusedAsVersion bytes
IsNoImageFor bytes image.Limit = RefusedAsLimit bytes
IsNoImageFor bytes image.Entry = RefusedAsEntry bytes
IsNoImageFor bytes image.Trailing = RefusedAsTrailing bytes
IsNoImageFor bytes image.Memory = Unit {0}

-- bytes are refused as an image, and the status is the refusal's
pub record IsUnloaded (bytes : List ℕ) (status : ℕ) : Type 0 where
  pub fault : ImageFault
  pub refused : IsNoImageFor bytes fault
  pub shown : status ≡ unloaded_status fault

-- an image's run from its start on that ended, and the status is the ending's
pub record HasExecuted (bytes : List ℕ) (steps : ℕ) (reader_old reader_new writer_old writer_new : Option (List ℕ)) (status : ℕ) : Type 0 where
  pub parts : Contents
  pub image : IsImage bytes parts
  -- the store was just made, with the image's pages, and all its bytes are 0
  pub arena : ℕ → ℕ
  pub blank : (at : ℕ) → arena at ≡ 0
  pub start : Arrays
  pub starts : IsStart parts (fresh parts.pages) arena start
  pub end : State
  pub why : Ending
  pub hosted : IsHosted why (areas_of start) steps (state_of start) end reader_old reader_new writer_old writer_new
  -- the machine and its store took all their memory before the run
  pub memory : why ≢ ending.HostMemory
  pub shown : status ≡ status_of why

-- what `exec` says
abbrev pub IsExec : (bytes : List ℕ) (steps : ℕ) (reader_old reader_new writer_old writer_new : Option (List ℕ)) → ℕ → Type 0
IsExec bytes steps reader_old reader_new writer_old writer_new status =
    HasExecuted bytes steps reader_old reader_new writer_old writer_new status ⊎ IsUnloaded bytes status

-- an image that was printed, or the writer failed
pub record IsPrinted (bytes : List ℕ) (status : ℕ) : Type 0 where
  pub parts : Contents
  pub image : IsImage bytes parts
  pub shown : (status ≡ 0) ⊎ (status ≡ 6)

-- what `dump` says
abbrev pub IsDumped : List ℕ → ℕ → Type 0
IsDumped bytes status = IsPrinted bytes status ⊎ IsUnloaded bytes status

-- ---- explanations

-- what `explain` says: the text was printed, or the writer failed
abbrev pub IsExplained : (text : List ℕ) (writer_old writer_new : Option (List ℕ)) → ℕ → Type 0
IsExplained text writer_old writer_new status = ((status ≡ 0) × Appends writer_old writer_new text) ⊎ (status ≡ 6)
