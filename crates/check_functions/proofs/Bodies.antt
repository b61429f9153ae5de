-- The fault of a function that is answered.
use Rattle.std.proofs.Common.{◌≡◌, Option, Some, None, List, [], ◌∷◌, refl, sym, ◌∙◌, ap}
use Rattle.std.specs.Prelude.{◌++◌}
use Rattle.source_typing.specs.Faults.{Fault, earliest, own_after, sooner_of}
use Rattle.check_faults.proofs.Earliest.{earliest_of_both, found_sooner}
use Rattle.check_faults.specs.Faults.{faults_of, first_of, sooner_found}
use Rattle.check_faults.specs.declared.fault.Fault as found
use Rattle.check_functions.specs.Bodies.{own_found}

own_earliest : (own parts : List Fault) → earliest (own_after own parts) ≡ own_found (earliest own) (earliest parts)
own_earliest own [] = refl
own_earliest own (f ∷ fs) = by (earliest fs)
  where
    by : (o : Option Fault) → sooner_of f o ≡ own_found (earliest own) (sooner_of f o)
    by None = refl
    by (Some g) = refl

-- a head's fault, and the body's or else the end's
pub function_found : (head body end both : Option found.Fault) (hs bs es : List Fault) → faults_of head ≡ earliest hs → faults_of body ≡ earliest bs
    → faults_of end ≡ earliest es → faults_of both ≡ own_found (faults_of end) (faults_of body)
    → faults_of (sooner_found head both) ≡ earliest (hs ++ own_after es bs)
function_found head body end both hs bs es a b c d =
    found_sooner head both
    ∙ ap (λ o. first_of o (faults_of both)) a
    ∙ ap (λ o. first_of (earliest hs) o)
    (d ∙ ap (λ o. own_found o (faults_of body)) c ∙ ap (λ o. own_found (earliest es) o) b ∙ sym (own_earliest es bs))
    ∙ sym (earliest_of_both hs (own_after es bs))
