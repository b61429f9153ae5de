-- What each function's frame may take is within the bound that its source gives by its name.
use Rattle.std.specs.Prelude.{slice_get, bytes_eq, if◌then◌else◌}
use Rattle.std.specs.List.{All}
use Rattle.std.proofs.Common.{◌≡◌, ℕ, zero, suc, ◌≤◌, true, false, List, [], ◌∷◌, Option, Some, ap, ◌∙◌, subst, arith}
use Rattle.std.proofs.lemmas.List.Elements.{All-head, All-tail}
use Rattle.std.proofs.lemmas.Option.{same_Some, none-some}
use Rattle.cyc_tree.specs.Tree.{Program}
use Rattle.source_meaning.specs.Steps.{World, Routine}
use Rattle.source_meaning.specs.Calls.{function_of}
use Rattle.source_meaning.specs.Programs.{world_of}
use Rattle.core_meaning.specs.Core.{Function}
use Rattle.core_meaning.specs.Bounds.{core_bound}
use Rattle.core_lines.specs.LocalPlaces.{frame_bytes}
use Rattle.core_lines.proofs.homes.Locals as homes
use Rattle.core_lines.specs.Running.{AreBounded}
use Rattle.source_lowering.specs.Programs.{program_code}
use Rattle.source_lowering.specs.Lowerable.{IsLowerable}
use Rattle.source_lowering.specs.Bounds.{frame_bound}
use Rattle.source_lowering.proofs.bounds.Bounded.{frame_bounded}
use Rattle.source_lowering.proofs.Programs.{routines_are}
use Rattle.compile_proof.specs.Promise.{name_in, names_of, AreNamedApart, bound_in, frame_bound_of, frame_size_in, frame_size_of}
use Rattle.selectable_proof.proofs.Selectable.{code_of}
use Rattle.type_proof.proofs.invariant.Layouts.{same_text}

-- ---- by names

apart_at : (name : List ℕ) (fs : List Routine) (number : ℕ) (f : Routine) → All (λ (g : Routine). bytes_eq name g.name ≡ false) fs
    → slice_get fs number ≡ Some f → bytes_eq name f.name ≡ false
apart_at name [] number f all is = absurd (none-some f is)
apart_at name (g ∷ gs) zero f all is =
    subst (λ (h : Routine). bytes_eq name h.name ≡ false) (same_Some g f is) (All-head (λ (h : Routine). bytes_eq name h.name ≡ false) g gs all)
apart_at name (g ∷ gs) (suc number) f all is = apart_at name gs number f (All-tail (λ (h : Routine). bytes_eq name h.name ≡ false) g gs all) is

-- the function of a name is the one of its number
named_one : (fs : List Routine) (number : ℕ) (f : Routine) → AreNamedApart fs → slice_get fs number ≡ Some f → function_of fs f.name ≡ Some f
named_one [] number f apart is = absurd (none-some f is)
named_one (g ∷ gs) zero f apart is =
    let same : bytes_eq g.name f.name ≡ true = ap (λ (h : Routine). bytes_eq h.name f.name) (same_Some g f is) ∙ same_text f.name in
    ap (λ z. if z then Some g else function_of gs f.name) same ∙ is
named_one (g ∷ gs) (suc number) f apart is =
    ap (λ z. if z then Some g else function_of gs f.name) (apart_at g.name gs number f apart.0 is) ∙ named_one gs number f apart.1 is

name_is : (fs : List Routine) (number : ℕ) (f : Routine) → slice_get fs number ≡ Some f → names_of fs number ≡ f.name
name_is fs number f is = ap (λ (z : Option Routine). name_in z) is

bound_is : (w : World) (number : ℕ) (f : Routine) → AreNamedApart w.functions → slice_get w.functions number ≡ Some f
    → frame_bound_of w (names_of w.functions number) ≡ frame_bound w f
bound_is w number f apart is =
    ap (λ name. frame_bound_of w name) (name_is w.functions number f is) ∙
    ap (λ (z : Option Routine). bound_in w z) (named_one w.functions number f apart is)

-- the functions that a program is lowered to, where no two have one name
pub frames_bounded : (p : Program) → IsLowerable p → AreNamedApart (world_of p).functions
    → AreBounded (names_of (world_of p).functions) (frame_bound_of (world_of p)) (program_code p).functions
frames_bounded p h apart number f is =
    let w : World = world_of p in
    let c = code_of w w.functions number f (routines_are (world_of p) p h.items) is in
    let within = subst (λ (g : Function). core_bound g ≤ frame_bound w c.routine) c.same (frame_bounded w c.routine c.is) in
    let bound = bound_is w number c.routine apart c.there in
    let frame = homes.frame_bounded f in
    omega (arith, within, bound, frame)

-- and the frames that their code has are bounds themselves
pub frames_closely_bounded : (p : Program) → IsLowerable p → AreNamedApart (world_of p).functions
    → AreBounded (names_of (world_of p).functions) (frame_size_of (world_of p)) (program_code p).functions
frames_closely_bounded p h apart number f is =
    let w : World = world_of p in
    let c = code_of w w.functions number f (routines_are (world_of p) p h.items) is in
    let size : frame_size_of w (names_of w.functions number) ≡ frame_bytes f =
    ap (λ name. frame_size_of w name) (name_is w.functions number c.routine c.there)
    ∙ ap (λ (z : Option Routine). frame_size_in w z) (named_one w.functions number c.routine apart c.there)
    ∙ ap (λ (g : Function). frame_bytes g) c.same in
    omega arith
