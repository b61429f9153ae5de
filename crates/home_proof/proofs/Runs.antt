-- The code of initializers and of expressions that are statements.
use Rattle.std.proofs.Common.{◌≡◌, ℕ, ◌+◌, List, Bool, true, false, refl, ap, length}
use Rattle.std.specs.Prelude.{if◌then◌else◌}
use Rattle.cyc_tree.specs.Tree.{Expression}
use Rattle.source_meaning.specs.Shapes.{Shape, StructShape, UnionShape}
use Rattle.source_meaning.specs.Steps.{World}
use Rattle.source_lowering.specs.Lowered.{Named, expression_code, expression_values, place_code, static_shape}
use Rattle.source_lowering.specs.Whole.{makes_struct, is_made, whole_values, whole_code, assigned_code, dropped_code, run_code}
use Rattle.source_lowering.specs.Programs.{source_code}
use Rattle.source_lowering.specs.Lowerable.{Takes, TakesWhole, TakesAssigned, TakesDropped, TakesCalled, TakesRun}
use Rattle.source_lowering.proofs.bounds.WholeObjects.{unmade_place, unmade_struct}
use Rattle.home_proof.specs.Arguments.{HasArguments}
use Rattle.home_proof.specs.Names.{is_word, pointed}
use Rattle.home_proof.specs.Numbered.{expression_flags}
use Rattle.home_proof.proofs.Codes.{or_swap, plain}
use Rattle.home_proof.proofs.Leads.{Does, ahead, behind, both, said}
use Rattle.home_proof.proofs.Pieces.{conversion_plain}
use Rattle.home_proof.proofs.Variables.{placed, whole_word}
use Rattle.home_proof.proofs.Expressions.{expression_does, place_does, stored_does, whole_does}

module _ (w : World) (names : List Named) where
  -- ---- initializers

  pub source_does : (e : Expression) (d next : ℕ) → TakesWhole w names e → HasArguments w e
      → Does names (source_code w names (is_made w e) e d next) (λ n. pointed n e) (expression_flags e)
  source_does e d next h g = by (is_made w e) refl
    where
      by : (made : Bool) → is_made w e ≡ made → Does names (source_code w names made e d next) (λ n. pointed n e) (expression_flags e)
      by true is = whole_does w names e d next h g
      by false is =
          placed w names e (place_code w names e d next) (expression_flags e) (place_does w names e d next (unmade_place w names e h is) g)
          (whole_word w (static_shape w names e) (unmade_struct w names e h is))

  -- ---- expressions that are statements

  assigned_does : (s : Shape) (place value : Expression) (d next : ℕ) → static_shape w names place ≡ s → TakesAssigned w names s place value
      → HasArguments w (Expression.Assign place value)
      → Does names (assigned_code w names s place value d next) (λ n. pointed n (Expression.Assign place value))
      (expression_flags (Expression.Assign place value))
  assigned_does (StructShape tag) place value d next is h g =
      let behind_value = next + length (whole_values w names value) in
      said
      (both (whole_does w names value d next h.1.0 g.1)
      (behind
      (placed w names place (place_code w names place (d + 1) behind_value) (expression_flags place) (place_does w names place (d + 1) behind_value h.0 g.0)
      (ap is_word is))
      (plain refl (λ o i. refl))))
      (λ n. or_swap (pointed n value) (pointed n place)) refl
  assigned_does (UnionShape tag) place value d next is h g =
      let behind_value = next + length (whole_values w names value) in
      said
      (both (whole_does w names value d next h.1.0 g.1)
      (behind
      (placed w names place (place_code w names place (d + 1) behind_value) (expression_flags place) (place_does w names place (d + 1) behind_value h.0 g.0)
      (ap is_word is))
      (plain refl (λ o i. refl))))
      (λ n. or_swap (pointed n value) (pointed n place)) refl
  assigned_does _ place value d next is h g =
      said
      (both (expression_does w names value d next h.1.0 g.1)
      (ahead (conversion_plain w (static_shape w names place) (static_shape w names value) d)
      (stored_does w names place d (next + length (expression_values w names value)) h.0 g.0)))
      (λ n. or_swap (pointed n value) (pointed n place)) refl

  dropped_does : (s : Shape) (e : Expression) (d next : ℕ) → TakesDropped w names s e → HasArguments w e
      → Does names (dropped_code w names s e d next) (λ n. pointed n e) (expression_flags e)
  dropped_does (StructShape tag) e d next h g = whole_does w names e d next h g
  dropped_does (UnionShape tag) e d next h g = whole_does w names e d next h g
  dropped_does _ e d next h g = expression_does w names e d next h g

  pub run_does : (e : Expression) (d next : ℕ) → TakesRun w names e → HasArguments w e
      → Does names (run_code w names e d next) (λ n. pointed n e) (expression_flags e)
  run_does (Expression.Assign place value) d next h g = assigned_does (static_shape w names place) place value d next refl h g
  run_does (Expression.Grouped at inner) d next h g = run_does inner d next h g
  run_does (Expression.Call name arguments) d next h g = by (makes_struct w name.text) h
    where
      e : Expression
      e = Expression.Call name arguments

      by : (made : Bool) → TakesCalled made (TakesWhole w names e) (Takes w names e)
          → Does names (if made then whole_code w names e d next else expression_code w names e d next) (λ n. pointed n e) (expression_flags e)
      by true h = whole_does w names e d next h g
      by false h = expression_does w names e d next h g
  run_does e d next h g = dropped_does (static_shape w names e) e d next h g
