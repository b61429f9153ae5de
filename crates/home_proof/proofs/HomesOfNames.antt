-- The registers of a function's locals are those of its names.
use Rattle.std.specs.Prelude.{slice_get}
use Rattle.std.proofs.Common.{◌≡◌, ℕ, zero, suc, Some, List, [], ◌∷◌, map, ap, ◌∙◌, subst}
use Rattle.std.proofs.lemmas.Option.{same_Some, none-some}
use Rattle.cyc_tree.specs.Tree.{Program}
use Rattle.source_meaning.specs.Programs.{unions_of, world_of}
use Rattle.source_meaning.specs.Steps.{Routine, World}
use Rattle.core_lines.specs.Homes.{eligible_of, home_for, home_registers}
use Rattle.source_lowering.specs.Lowerable.{HaveFewMembers}
use Rattle.source_lowering.specs.Order.{locals_order}
use Rattle.source_lowering.specs.Programs.{body_code}
use Rattle.source_lowering.proofs.Programs.{routines_are, world_plain}
use Rattle.source_lowering.proofs.expressions.Names.{AreRoutines, IsPlainWorld, IsRoutine}
use Rattle.accepted_programs.specs.Accepted.{IsAccepted}
use Rattle.accepted_proof.proofs.Joined as accepted_proof
use Rattle.home_proof.specs.Defaults.{HaveOneDefault}
use Rattle.home_proof.specs.Laws.{HomesAreOfNames, homes_of}
use Rattle.home_proof.specs.Names.{function_names, in_turn}
use Rattle.home_proof.specs.Numbered.{function_flags}
use Rattle.home_proof.proofs.Bodies.{bodies_fit}
use Rattle.home_proof.proofs.Eligible.{eligible_flags}
use Rattle.home_proof.proofs.Ordered.{function_ordered}
use Rattle.home_proof.proofs.OrderOnce.{locals_apart}
use Rattle.home_proof.proofs.Turns.{in_turns}

-- of a function whose Core has its flags
turns_of : (w : World) (f : Routine) → HaveOneDefault f.body → eligible_of (body_code w f) ≡ function_flags w f
    → homes_of w f ≡ in_turn (function_names w f) home_registers
turns_of w f one same =
    let order = locals_order f in
    ap (λ flags. map (home_for flags order home_registers) order) same
    ∙ in_turns (function_flags w f) order home_registers (locals_apart f one)
    ∙ ap (λ bs. in_turn bs home_registers) (function_ordered w f one)

routine_at : (w : World) (fs : List Routine) (number : ℕ) (f : Routine) → AreRoutines w fs → slice_get fs number ≡ Some f → IsRoutine w f
routine_at w [] number f all e = absurd (none-some f e)
routine_at w (r ∷ rs) zero f all e = subst (IsRoutine w) (same_Some r f e) all.0
routine_at w (r ∷ rs) (suc number) f all e = routine_at w rs number f all.1 e

pub homes_of_names : HomesAreOfNames
homes_of_names p accepted few number f there =
    let w : World = world_of p in
    let lowerable = accepted_proof.lowerable p accepted few in
    let fit = bodies_fit p accepted number f there in
    let is = routine_at w w.functions number f (routines_are w p lowerable.items) there in
    turns_of w f fit.0 (eligible_flags w f (world_plain p lowerable) is fit.0 fit.1)
