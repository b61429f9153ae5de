-- What a program that lowering takes is lowered to has code.
use Rattle.std.proofs.Common.{◌≡◌, ℕ, zero, suc, List, [], ◌∷◌, length, map, Some, refl, subst, arith, length-append}
use Rattle.std.specs.Prelude.{slice_get}
use Rattle.std.proofs.lemmas.Option.{same_Some, none-some}
use Rattle.cyc_tree.specs.Tree.{Program}
use Rattle.source_meaning.specs.Steps.{World, Routine}
use Rattle.source_meaning.specs.Strings.{program_strings}
use Rattle.source_meaning.specs.Programs.{world_of}
use Rattle.core_meaning.specs.Core.{Function}
use Rattle.core_meaning.specs.Selectable.{IsSelectableIn, IsSelectable, scope_of}
use Rattle.source_lowering.specs.Programs.{body_code, function_code, data_of, string_datum, program_code}
use Rattle.source_lowering.specs.Lowerable.{IsLowerable}
use Rattle.source_lowering.proofs.expressions.Names.{IsPlainWorld, IsRoutine, AreRoutines}
use Rattle.source_lowering.proofs.Programs.{routines_are, world_plain}
use Rattle.selectable_proof.proofs.Naming.{have_lines}
use Rattle.source_lowering.proofs.regions.HeapValues.{heap_data}
use Rattle.selectable_proof.proofs.Texts.{TextsLie, program_texts}
use Rattle.selectable_proof.proofs.Parts.{GlobalsLie}
use Rattle.selectable_proof.proofs.Functions.{body_names, own_layouts, globals_lie, data_layouts}

-- a function of Core is the code of a function of the source
pub record IsCodeOf (w : World) (fs : List Routine) (number : ℕ) (f : Function) : Type 0 where
  pub routine : Routine
  pub there : slice_get fs number ≡ Some routine
  pub is : IsRoutine w routine
  pub same : function_code w routine ≡ f

pub code_of : (w : World) (fs : List Routine) (number : ℕ) (f : Function) → AreRoutines w fs → slice_get (map (function_code w) fs) number ≡ Some f
    → IsCodeOf w fs number f
code_of w [] number f all e = absurd (none-some f e)
code_of w (r ∷ rs) zero f all e = record { routine = r; there = refl; is = all.0; same = same_Some (function_code w r) f e }
code_of w (r ∷ rs) (suc number) f all e =
    let h = code_of w rs number f all.1 e in record { routine = h.routine; there = h.there; is = h.is; same = h.same }

function_selectable : (n : ℕ) (w : World) (f : Routine) → GlobalsLie n w.globals → TextsLie n w.strings → IsPlainWorld w → IsRoutine w f
    → IsSelectableIn n (function_code w f)
function_selectable n w f globals texts plain is = record {
  own_layouts = own_layouts w f plain is;
  few = omega arith;
  body = have_lines (scope_of n (function_code w f)) (body_code w f) (body_names n w f globals texts plain is) (omega arith) (omega arith);
}

-- A program that is lowered can be selected: each operation names temporaries, locals, arguments and data that its function and program have.
pub selectable : (p : Program) → IsLowerable p → IsSelectable (program_code p)
selectable p h =
    let w : World = world_of p in
    let ss = program_strings p in
    let n = length (heap_data w p ss) in
    let many = length-append (data_of w p) (map (string_datum w) ss) in
    record {
      data_layouts = data_layouts w p ss (world_plain p h) h.items;
      functions = λ number f is.
          let c = code_of w w.functions number f (routines_are (world_of p) p h.items) is in
          subst (λ (g : Function). IsSelectableIn n g) c.same
          (function_selectable n w c.routine (globals_lie w p 0 n h.items (omega (arith, many)))
          (program_texts p h) (world_plain p h) c.is);
    }
