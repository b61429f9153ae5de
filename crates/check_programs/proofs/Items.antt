-- The faults of items, one by one.
use Rattle.std.proofs.Common.{◌≡◌, ℕ, ◌+◌, ◌<◌, List, ◌∷◌, ◌++◌, sym, ap, ◌∙◌, drop, get_or, length}
use Rattle.std.specs.Prelude.{Option}
use Rattle.source_typing.specs.Faults.{Fault, earliest}
use Rattle.check_faults.proofs.Earliest.{earliest_of_both, first_joined, found_sooner}
use Rattle.check_faults.specs.Faults.{faults_of, first_of, sooner_found}
use Rattle.check_faults.specs.declared.fault.Fault as code
use Rattle.check_tables.proofs.Items.{next_of}

-- two parts in code
pub both_found : (r a b : Option code.Fault) (fs gs : List Fault) → r ≡ sooner_found a b → faults_of a ≡ earliest fs → faults_of b ≡ earliest gs
    → faults_of r ≡ earliest (fs ++ gs)
both_found r a b fs gs e p q =
    ap faults_of e ∙ found_sooner a b ∙ ap (λ o. first_of o (faults_of b)) p ∙ ap (first_of (earliest fs)) q ∙ sym (earliest_of_both fs gs)

-- what was found before an item, at it and after it
pub next_found : {X : Type 0} (before after : List X → List Fault) (own : List Fault) (xs : List X) (i : ℕ) (x : X) (found fault : Option code.Fault)
    → i < length xs → x ≡ get_or xs i x → faults_of fault ≡ earliest own → before (x ∷ drop (i + 1) xs) ≡ own ++ after (drop (i + 1) xs)
    → first_of (faults_of (sooner_found found fault)) (earliest (after (drop (i + 1) xs))) ≡ first_of (faults_of found) (earliest (before (drop i xs)))
next_found before after own xs i x found fault h is_item is_own e =
    let rest : List Fault = after (drop (i + 1) xs) in
    ap (λ o. first_of o (earliest rest)) (found_sooner found fault)
    ∙ first_joined (faults_of found) (faults_of fault) (earliest rest)
    ∙ ap (first_of (faults_of found))
    (ap (λ o. first_of o (earliest rest)) is_own ∙ sym (earliest_of_both own rest) ∙ ap earliest (sym e)
    ∙ ap (λ l. earliest (before l)) (sym (next_of xs i x h is_item)))
