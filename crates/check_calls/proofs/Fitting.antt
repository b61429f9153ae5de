-- What the rules say of a call's arguments, by what its variables are fixed to in code.
use Rattle.std.specs.List.{list_all}
use Rattle.std.specs.Prelude.{is_some, replicate}
use Rattle.std.proofs.Common.{◌≡◌, ℕ, Option, Some, None, List, [], ◌∷◌, refl, sym, ◌∙◌, ap}
use Rattle.cyc_types.specs.declared.ctype.CType.{CType}
use Rattle.source_typing.specs.Calls.{all_known, if_all_known}
use Rattle.source_typing.specs.Fixing.{Fit, fixed_from, fixed_known}
use Rattle.source_typing.specs.Scope.{Enclosing}
use Rattle.source_typing.specs.Verdicts.{unless_faulty}
use Rattle.check_calls.specs.Fitted.{parameter_types}
use Rattle.check_calls.specs.Fixings.{all_stand_for, fixed_with, fixing_faults, fixings_of, last_fixing, regions_by, settled, which_are_known}
use Rattle.check_calls.specs.declared.fixing.Fixing as code
use Rattle.check_calls.proofs.Settling.{all_stand, are_settled, fixed_is, known_is}

module _ (h : Enclosing) (at n : ℕ) (fits : List Fit) (fs : List (Option code.Fixing))
    (are : fixings_of fs ≡ settled (last_fixing h at) (fixed_with fits 0 (replicate n None))) where
  pub variables_fixed : fixed_from h at fits 0 n
      ≡ unless_faulty (fixing_faults (fixings_of fs)) (if_all_known (are_settled fs) (regions_by (fixings_of fs)))
  variables_fixed = fixed_is h at fits 0 n ∙ ap all_stand_for (sym are) ∙ all_stand fs

  pub variables_known : fixed_known h at fits 0 n ≡ which_are_known (fixings_of fs)
  variables_known = known_is h at fits 0 n ∙ ap which_are_known (sym are)

-- whether all parameters are of known types
pub known_parameters : (ps : List (Option CType)) → list_all (λ o. is_some o) ps ≡ all_known (parameter_types ps)
known_parameters [] = refl
known_parameters (None ∷ ps) = refl
known_parameters (Some p ∷ ps) = known_parameters ps
