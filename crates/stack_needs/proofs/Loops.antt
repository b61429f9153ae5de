-- What fits some number of bytes leads to no recursion.
use Rattle.std.proofs.Common.{◌≡◌, ◌<◌, ◌∙◌, ℕ, zero, suc, List, [], ◌∷◌, ◌++◌, Some, inl, inr, length, refl, sym, subst, arith}
use Rattle.std.specs.Prelude.{codes}
use Rattle.std.proofs.lemmas.Option.{same_Some}
use Rattle.cyc_tree.specs.Tree.{Program}
use Rattle.source_meaning.specs.Programs.{functions_of}
use Rattle.std.specs.List.{Contains}
use Rattle.std.proofs.lemmas.List.Elements.{Contains-append_cases, Contains-append_left, Contains-append_right}
use Rattle.stack_needs.specs.Graph.{ArePath, FitsAt, LeavesAt, IsNeed, IsRecursion, Leads, Calls, Goes, called_by}
use Rattle.stack_needs.specs.Numbers.{IsRecursionOf, calls_among, number_from}
use Rattle.stack_needs.proofs.Needs.{cases_of, first_of, later_of}

module _ (calls : List (List ℕ)) where
  -- one call more at its end
  leads_on : {k g h : ℕ} → Leads calls k g → Contains (called_by calls g) h → Leads calls k h
  leads_on (Calls has) more = Goes has (Calls more)
  leads_on (Goes has rest) more = Goes has (leads_on rest more)

  -- a function of a path leads to its last one
  on_path : (xs : List ℕ) (z x : ℕ) → ArePath calls (xs ++ z ∷ []) → Contains xs x → Leads calls x z
  on_path [] z x path has = absurd (omega (arith, has.1))
  on_path (y ∷ []) z x path has = elim (cases_of y [] x has) [
    | inl same ↦ subst (λ (i : ℕ). Leads calls i z) same (Calls path.0)
    | inr none ↦ absurd (omega (arith, none.1))
  ]
  on_path (y ∷ w ∷ xs) z x path has = elim (cases_of y (w ∷ xs) x has) [
    | inl same ↦ subst (λ (i : ℕ). Leads calls i z) same (Goes path.0 (on_path (w ∷ xs) z w path.1 (first_of w xs)))
    | inr there ↦ on_path (w ∷ xs) z x path.1 there
  ]

  module _ (frames : List ℕ) where
    -- a function that fits some number of bytes doesn't lead to itself
    loopless : {k n : ℕ} → FitsAt frames calls k n → Leads calls k k → ⊥
    loopless (LeavesAt others le callees) (Calls has) = loopless (callees _ has) (Calls has)
    loopless (LeavesAt others le callees) (Goes has rest) = loopless (callees _ has) (leads_on rest has)

    -- nor to one that does
    leads_nowhere : {k n g : ℕ} → FitsAt frames calls k n → Leads calls k g → Leads calls g g → ⊥
    leads_nowhere (LeavesAt others le callees) (Calls has) again = loopless (callees _ has) again
    leads_nowhere (LeavesAt others le callees) (Goes has rest) again = leads_nowhere (callees _ has) rest again

    pub no_recursion : {k n : ℕ} → FitsAt frames calls k n → (path : List ℕ) (again : ℕ) → IsRecursion calls k path again → ⊥
    no_recursion {k = k} fits path again is =
        leads_nowhere fits (on_path path again k is.calls_next is.first) (on_path path again again is.calls_next is.closes)

-- so no recursion is reached from a `main` whose need is known
pub none_reached : (p : Program) (frames : List ℕ) (main need : ℕ) → number_from (functions_of p) 0 (codes "main") ≡ Some main
    → IsNeed frames (calls_among (functions_of p) (functions_of p)) main need → (path : List ℕ) (again : ℕ) → IsRecursionOf p path again → ⊥
none_reached p frames main need number is path again found =
    let calls = calls_among (functions_of p) (functions_of p) in
    let same : found.main ≡ main = same_Some found.main main (sym found.found ∙ number) in
    no_recursion calls frames is.some.1 path again (subst (λ (k : ℕ). IsRecursion calls k path again) same found.recursion)
