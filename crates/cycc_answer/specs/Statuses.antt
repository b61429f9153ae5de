-- Believed: the exit status of each ending and of each refusal.
use Rattle.std.specs.Prelude.{◌≡◌, ◌≢◌, ◌⊎◌, ℕ, ℤ, pos, negsuc, zero, suc, Option, Some, None}
use Rattle.cycc_driver.specs.declared.fault.CompileFault.{CompileFault}
use Rattle.cycc_driver.specs.declared.fault.Place.{Place}
use Rattle.stack_needs.specs.declared.recursion.Recursion.{Recursion}
use Rattle.cycc_driver.specs.Printed.{fault_place}
use Rattle.cyc_image.specs.declared.fault.ImageFault.{ImageFault}
use Rattle.cyc_image.specs.declared.fault.ImageFault.TheVariants as image
use Rattle.cyc_host.specs.declared.ending.Ending.{Ending}
use Rattle.cyc_host.specs.declared.ending.Ending.TheVariants as ending
use Rattle.core_eval.specs.declared.bounds.Exceeded.{Exceeded}
use Rattle.core_eval.specs.declared.ending.EvalEnding.{EvalEnding}
use Rattle.core_eval.specs.declared.ending.EvalEnding.TheVariants as eval

-- of a program that ended: 0 where it ended with 0, and 1 where it ended with another number
abbrev pub ended_status : ℤ → ℕ
ended_status (pos zero) = 0
ended_status (pos (suc n)) = 1
ended_status (negsuc n) = 1

-- of a run: 2 raised, 3 exhausted, 4 at the step limit, 5 at a machine fault, 6 where the input or the output failed, 7 without host memory
abbrev pub status_of : Ending → ℕ
status_of (ending.Ended number) = ended_status number
status_of (ending.Raised kind) = 2
status_of ending.Exhausted = 3
status_of ending.StepLimit = 4
status_of (ending.Fault fault) = 5
status_of ending.ReadFault = 6
status_of ending.WriteFault = 6
status_of ending.HostMemory = 7

-- of an evaluation: 2 raised, 4 where the fuel is used up, 5 stuck, 6 where the input or the output failed, 7 without host memory
abbrev pub evaluated_status : EvalEnding → ℕ
evaluated_status (eval.Ended number) = ended_status number
evaluated_status (eval.Raised kind) = 2
evaluated_status eval.Running = 4
evaluated_status eval.Stuck = 5
evaluated_status eval.ReadFault = 6
evaluated_status eval.WriteFault = 6
evaluated_status eval.HostMemory = 7

-- of an evaluation within bounds: also 4 where one was passed
abbrev pub IsToldAs : EvalEnding → Option Exceeded → ℕ → Type 0
IsToldAs why exceeded status = (status ≡ evaluated_status why) ⊎ ((why ≡ eval.HostMemory) × (exceeded ≢ None) × (status ≡ 4))

-- of a stack: 0 where it has a bound, and 1 where a recursion is reached
abbrev pub stack_status : Option Recursion → ℕ
stack_status None = 0
stack_status (Some recursion) = 1

-- of a source that is refused: 8 where the fault has a place in the source, and 7 where no host memory is left
abbrev pub place_status : Option Place → ℕ
place_status (Some place) = 8
place_status None = 7

abbrev pub refused_status : CompileFault → ℕ
refused_status fault = place_status (fault_place fault)

-- of an image that is refused: 8, and 7 where no host memory is left
abbrev pub unloaded_status : ImageFault → ℕ
unloaded_status image.Short = 8
unloaded_status image.Magic = 8
unloaded_status image.Version = 8
unloaded_status image.Limit = 8
unloaded_status image.Entry = 8
unloaded_status image.Trailing = 8
unloaded_status image.Memory = 7
