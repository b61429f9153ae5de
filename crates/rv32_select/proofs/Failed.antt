-- A check that is a statement of its own has no locals.
use Rattle.std.proofs.Common.{◌≡◌, ℕ, false, refl}
use Rattle.cyc_core.specs.declared.statement.Failure.{Failure}
use Rattle.cyc_core.specs.declared.statement.Failure.TheVariants as failure
use Rattle.cyc_core.specs.Trees.{failure_body}
use Rattle.core_lines.specs.Homes.{addressed_of}

-- so it takes no address of one
pub none_addressed : (o n : ℕ) (f : Failure) → addressed_of o n (failure_body f) ≡ false
none_addressed o n (failure.Always kind) = refl
none_addressed o n (failure.ByTest p first second) = refl
