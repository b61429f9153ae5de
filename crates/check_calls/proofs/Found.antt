-- Faults that are found one after another.
use Rattle.std.specs.Prelude.{◌++◌}
use Rattle.std.proofs.Common.{◌≡◌, Option, List, sym, ◌∙◌, ap}
use Rattle.source_typing.specs.Faults.{Fault, earliest}
use Rattle.check_faults.specs.Faults.{faults_of, first_of, sooner_found}
use Rattle.check_faults.specs.declared.fault.Fault as code
use Rattle.check_faults.proofs.Earliest.{earliest_of_both, first_joined, found_sooner}

-- what was found, then of one phrase, then of the rest
pub next_found : (found own both : Option code.Fault) (one rest : List Fault) (all : Option Fault) → both ≡ sooner_found found own
    → faults_of own ≡ earliest one → first_of (faults_of found) (earliest (one ++ rest)) ≡ all → first_of (faults_of both) (earliest rest) ≡ all
next_found found own both one rest all e h was =
    ap (λ o. first_of (faults_of o) (earliest rest)) e
    ∙ ap (λ o. first_of o (earliest rest)) (found_sooner found own)
    ∙ first_joined (faults_of found) (faults_of own) (earliest rest)
    ∙ ap (λ o. first_of (faults_of found) (first_of o (earliest rest))) h
    ∙ ap (first_of (faults_of found)) (sym (earliest_of_both one rest))
    ∙ was
