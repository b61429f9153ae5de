-- What is promised of lowering holds of the Core of each accepted program.
use Rattle.std.proofs.Common.{◌≡◌, ℕ, zero, suc, ◌≤◌, ⊎_elim, List, [], ◌∷◌, Some, sym, subst, arith}
use Rattle.std.specs.Prelude.{map, slice_get}
use Rattle.cyc_tree.specs.Tree.{Program}
use Rattle.source_meaning.specs.Steps.{Routine, World}
use Rattle.source_meaning.specs.Programs.{unions_of, world_of}
use Rattle.core_meaning.specs.Core.{Function}
use Rattle.core_meaning.specs.Core as core
use Rattle.source_lowering.specs.Programs.{function_code, program_code}
use Rattle.source_lowering.specs.Lowerable.{HaveFewMembers}
use Rattle.source_lowering.specs.Bounds.{FramesFit, frame_bound}
use Rattle.core_meaning.specs.Bounds.{core_bound}
use Rattle.source_lowering.proofs.Programs.{programs_are_the_same}
use Rattle.source_lowering.proofs.bounds.Bounded.{code_bounded, program_frames_bounded}
use Rattle.token_proof.proofs.ProgramSizes.{tokens_pay}
use Rattle.selectable_proof.proofs.Selectable.{selectable}
use Rattle.accepted_programs.specs.Accepted.{IsAccepted}
use Rattle.lower_checks.specs.Promise.{IsLoweringOf}
use Rattle.accepted_proof.proofs.Joined.{lowerable}

-- a frame is within its bound where all are
frame_fits : (w : World) (fs : List Routine) (number : ℕ) (f : Routine) (g : Function) → FramesFit w fs → slice_get fs number ≡ Some f
    → slice_get (map (function_code w) fs) number ≡ Some g → core_bound g ≤ frame_bound w f
frame_fits w [] number f g fit is_source is_core = absurd cc is_source
frame_fits w (r ∷ rs) zero f g fit is_source is_core =
    let same : r ≡ f = cc is_source in
    let made : function_code w r ≡ g = cc is_core in
    subst (λ (z : Function). core_bound z ≤ frame_bound w f) made (subst (λ (z : Routine). core_bound (function_code w r) ≤ frame_bound w z) same fit.0)
frame_fits w (r ∷ rs) (suc number) f g fit is_source is_core = frame_fits w rs number f g fit.1 is_source is_core

promised : (p : Program) → IsAccepted p → HaveFewMembers (unions_of p) → IsLoweringOf p (program_code p)
promised p accepted few =
    let takes = lowerable p accepted few in
    record {
      does = λ input bytes never n. ⊎_elim (λ stuck. absurd (never n stuck)) (λ same. same) (programs_are_the_same p takes input bytes n);
      frames = λ number f g is_source is_core.
          frame_fits (world_of p) (world_of p).functions number f g (program_frames_bounded p takes) is_source is_core;
      code = λ tokens spelled.
          let bounded = code_bounded p takes in
          let paid = tokens_pay p tokens spelled in
          omega (arith, bounded, paid);
      selectable = selectable p takes;
    }

-- whichever way the Core is written
pub is_lowering : (p : Program) (c : core.Program) → IsAccepted p → HaveFewMembers (unions_of p) → c ≡ program_code p → IsLoweringOf p c
is_lowering p c accepted few same = subst (λ (z : core.Program). IsLoweringOf p z) (sym same) (promised p accepted few)
