-- The code of initializers and of expressions that are statements names temporary objects of its function, where these are numbered among them.
use Rattle.std.proofs.Common.{◌≡◌, ℕ, ◌+◌, ◌≤◌, List, length, Bool, true, false, refl, arith, length-append}
use Rattle.std.specs.Prelude.{if◌then◌else◌}
use Rattle.cyc_tree.specs.Tree.{Expression}
use Rattle.source_meaning.specs.Shapes.{Shape, StructShape, UnionShape}
use Rattle.source_meaning.specs.Steps.{World}
use Rattle.source_lowering.specs.Lowered.{Named, expression_code, expression_values, static_shape}
use Rattle.source_lowering.specs.Whole.{makes_struct, is_made, whole_values, whole_code, assigned_code, assigned_values, dropped_code, dropped_values}
use Rattle.source_lowering.specs.Whole.{run_code, run_values}
use Rattle.source_lowering.specs.Programs.{source_code}
use Rattle.source_lowering.specs.Lowerable.{Takes, TakesWhole, TakesAssigned, TakesDropped, TakesCalled, TakesRun}
use Rattle.source_lowering.proofs.bounds.WholeObjects.{unmade_place}
use Rattle.source_lowering.proofs.expressions.Names.{IsPlainWorld}
use Rattle.selectable_proof.specs.Naming.{CodeNames}
use Rattle.selectable_proof.proofs.Naming.{both_name}
use Rattle.selectable_proof.proofs.Layouts.{object_layout}
use Rattle.selectable_proof.proofs.Parts.{Around}
use Rattle.selectable_proof.proofs.Expressions.{place_names, expression_names, assign_names, whole_names}

module _ (blocks : List ℕ) (own n : ℕ) (w : World) (names : List Named) (plain : IsPlainWorld w) (around : Around blocks n w names) where
  -- ---- initializers

  pub source_names : (e : Expression) (d next : ℕ) → TakesWhole w names e
      → next + length (if is_made w e then whole_values w names e else expression_values w names e) ≤ own
      → CodeNames blocks own n (source_code w names (is_made w e) e d next)
  source_names e d next h f = by (is_made w e) refl f
    where
      by : (made : Bool) → is_made w e ≡ made → next + length (if made then whole_values w names e else expression_values w names e) ≤ own
          → CodeNames blocks own n (source_code w names made e d next)
      by true is f = whole_names own n w plain names around e d next h f
      by false is f = place_names own n w plain names around e d next (unmade_place w names e h is) f

  -- ---- expressions that are statements

  assigned_names : (s : Shape) (place value : Expression) (d next : ℕ) → TakesAssigned w names s place value
      → next + length (assigned_values w names s place value) ≤ own → CodeNames blocks own n (assigned_code w names s place value d next)
  assigned_names (StructShape tag) place value d next h f =
      let l = object_layout w (StructShape tag) plain h.1.1 in
      let many = length-append (whole_values w names value) (expression_values w names place) in
      both_name blocks own n _ _ (whole_names own n w plain names around value d next h.1.0 (omega (arith, f, many)))
      (both_name blocks own n _ _ (place_names own n w plain names around place (d + 1) (next + length (whole_values w names value)) h.0
      (omega (arith, f, many))) ((l.lies, l.full), tt))
  assigned_names (UnionShape tag) place value d next h f =
      let l = object_layout w (UnionShape tag) plain h.1.1 in
      let many = length-append (whole_values w names value) (expression_values w names place) in
      both_name blocks own n _ _ (whole_names own n w plain names around value d next h.1.0 (omega (arith, f, many)))
      (both_name blocks own n _ _ (place_names own n w plain names around place (d + 1) (next + length (whole_values w names value)) h.0
      (omega (arith, f, many))) ((l.lies, l.full), tt))
  assigned_names _ place value d next h f = assign_names own n w plain names around place value d next h.0 h.1.0 f

  dropped_names : (s : Shape) (e : Expression) (d next : ℕ) → TakesDropped w names s e → next + length (dropped_values w names s e) ≤ own
      → CodeNames blocks own n (dropped_code w names s e d next)
  dropped_names (StructShape tag) e d next h f = whole_names own n w plain names around e d next h f
  dropped_names (UnionShape tag) e d next h f = whole_names own n w plain names around e d next h f
  dropped_names _ e d next h f = expression_names own n w plain names around e d next h f

  pub run_names : (e : Expression) (d next : ℕ) → TakesRun w names e → next + length (run_values w names e) ≤ own
      → CodeNames blocks own n (run_code w names e d next)
  run_names (Expression.Assign place value) d next h f = assigned_names (static_shape w names place) place value d next h f
  run_names (Expression.Grouped at inner) d next h f = run_names inner d next h f
  run_names (Expression.Call name arguments) d next h f = by (makes_struct w name.text) h f
    where
      e : Expression
      e = Expression.Call name arguments

      by : (made : Bool) → TakesCalled made (TakesWhole w names e) (Takes w names e)
          → next + length (if made then whole_values w names e else expression_values w names e) ≤ own
          → CodeNames blocks own n (if made then whole_code w names e d next else expression_code w names e d next)
      by true h f = whole_names own n w plain names around e d next h f
      by false h f = expression_names own n w plain names around e d next h f
  run_names e d next h f = dropped_names (static_shape w names e) e d next h f
