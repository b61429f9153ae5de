-- The lines of a program do what it does.
use Rattle.std.specs.Prelude.{slice_get, length}
use Rattle.rv32_machine.specs.Arrays.{longest_stack}
use Rattle.std.proofs.Common.{Bool, ◌+◌, ◌≡◌, ℕ, suc, ◌*◌, ◌≤◌, List, [], ◌∷◌, ◌++◌, Some, refl, sym, ap, subst, ◌∙◌, arith, append-nil}
use Rattle.core_meaning.specs.Core.{Datum, Program}
use Rattle.core_lines.specs.Selected.{frame_bytes, own_end, placed_body, slots_of, offsets_from, datum_locals, program_code}
use Rattle.core_meaning.specs.Selectable.{IsSelectable, HaveLinesIn}
use Rattle.core_lines.specs.Running.{DoesAsCore}
use Rattle.std.proofs.lemmas.Option.{none-some}
use Rattle.core_lines.specs.Homes.{homes_in}
use Rattle.core_meaning.specs.Meaning as core
use Rattle.core_lines.specs.declared.line.Line.TheVariants.{Label}
use Rattle.core_lines.specs.Held.{held_behind_all}
use Rattle.core_lines.specs.Completing.{can_complete_all, ends_in_return_all}
use Rattle.core_lines.specs.Saved.{taken_in, live_at_start, saves_at}
use Rattle.core_lines.specs.Selected.{around, statements_code, ended_code}
use Rattle.core_lines.proofs.Ways.{Does}
use Rattle.core_lines.proofs.homes.FineHomes.{fine_homes}
use Rattle.core_lines.proofs.memory.Relations.{World, IsInOrder}
use Rattle.core_lines.proofs.frames.Bodies.{activation}
use Rattle.core_lines.proofs.homes.Locals.{as_many_offsets, offset_below, frame_has_all, highest_of_above}
use Rattle.core_lines.proofs.operations.EachOperation.{DataSmall}
use Rattle.core_lines.proofs.Endings.{ended_do}
use Rattle.core_lines.proofs.Flags.{length_none}
use Rattle.core_lines.proofs.Programs.{IsOfProgram, FunctionsDo, program_does_as_core}
use Rattle.core_lines.proofs.EachFunction.{nothing_needed, function_does}

as_many_data : (ds : List Datum) → length (datum_locals ds) ≡ length ds
as_many_data [] = refl
as_many_data (d ∷ ds) = ap suc (as_many_data ds)

module _ (p : Program) (selectable : IsSelectable p) (w : World) (order : IsInOrder w) (of : IsOfProgram w p) where
  data_small : DataSmall w
  data_small o y e =
      let few = of.data_within in
      let h = offset_below 0 (datum_locals p.data_objects) o y (ap (λ os. slice_get os o) (sym of.data_offsets) ∙ e) in
      omega (arith, h, few)

  as_many : length p.data_objects ≡ length w.data_offsets
  as_many =
      sym (ap (λ (os : List ℕ). length os) of.data_offsets ∙ as_many_offsets 0 (datum_locals p.data_objects) ∙ as_many_data p.data_objects)

  functions_do : FunctionsDo w order
  functions_do number f is code =
      let is_there : slice_get p.functions number ≡ Some f = ap (λ fs. slice_get fs number) (sym of.functions) ∙ is in
      let good = selectable.functions number f is_there in
      let frame = of.frames number f is_there in
      function_does w order (length p.data_objects) number f good frame code
      (λ is most fits calls ends outer mem arguments.
      let x = activation w order number f is outer mem arguments (offsets_from (4 * slots_of f) f.own) (own_end f) in
      let bytes = frame_bytes f in
      let small : bytes ≤ longest_stack = omega (arith, frame, fits) in
      let top = frame_has_all f (omega (arith, small)) in
      let held = taken_in f in
      let flags = saves_at w.data_offsets f in
      let whole = length_none f.temporaries in
      subst (λ q. Does w x outer most (can_complete_all f.body) held (held_behind_all [] w.data_offsets held f.body) (live_at_start w.data_offsets f)
      (nothing_needed f)
      (ended_code (ends_in_return_all f.body) (statements_code flags (around w.wide w.data_offsets q f) (code.next + 1) number number f.body)
      ++ (Label q ∷ [])) number number (core.statements f.body)) code.exit
      (ended_do w order outer data_small bytes most calls x [] [] [] (homes_in f) (own_end f) held (nothing_needed f) flags [] (code.next + 1) number
      number f.body (record { after = whole; out = whole; again = whole }) (sym (append-nil flags))
      (record {
        blocks = tt;
        inside = refl;
        ends = ends;
        are_homes = λ out local r e. absurd (none-some r e);
        nest = omega arith;
        framed = frame;
        small = small;
        own_small = λ o y e.
            let h = offset_below (4 * slots_of f) f.own o y e in
            let above = highest_of_above (own_end f) (placed_body f) in
            omega (arith, h, above, top, small);
      })
      (subst (λ k. HaveLinesIn (record { temporaries = f.temporaries; passed = f.passed; blocks = []; unnamed = k; data_objects = length w.data_offsets })
      f.body)
      (sym (as_many_offsets (4 * slots_of f) f.own))
      (subst (λ n. HaveLinesIn (record { temporaries = f.temporaries; passed = f.passed; blocks = []; unnamed = length f.own; data_objects = n }) f.body)
      as_many
      good.body)) (fine_homes f) top))

-- A machine that begins with a program's lines does what the program does.
pub lines_do_as_core : (p : Program) (wide : ℕ → Bool) → IsSelectable p → DoesAsCore p (program_code wide p)
lines_do_as_core p wide selectable = program_does_as_core p wide selectable (λ w order of. functions_do p selectable w order of)
