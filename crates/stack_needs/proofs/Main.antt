-- What the functions that are found by their names say of `main` and of calls, said of the program.
use Rattle.std.proofs.Common.{◌≡◌, ◌<◌, ◌∙◌, ℕ, List, Option, Some, sym, ap, subst, length, arith}
use Rattle.std.specs.Prelude.{Vec, codes}
use Rattle.std.proofs.lemmas.List.{length-map}
use Rattle.cyc_tree.specs.Tree.{Program}
use Rattle.source_meaning.specs.Programs.{functions_of}
use Rattle.stack_needs.specs.Graph.{AreNumbers, rows_of}
use Rattle.stack_needs.specs.Numbers.{calls_among, number_from}
use Rattle.stack_needs.proofs.Standing.{as_many, number_is_below, numbers_are_right}

pub main_found : (p q : Program) → q ≡ p → (found o : Option ℕ) → found ≡ number_from (functions_of q) 0 (codes "main") → found ≡ o
    → number_from (functions_of p) 0 (codes "main") ≡ o
main_found p q same found o number is = sym (ap (λ r. number_from (functions_of r) 0 (codes "main")) same) ∙ sym number ∙ is

pub main_is : (p q : Program) → q ≡ p → (found : Option ℕ) → found ≡ number_from (functions_of q) 0 (codes "main")
    → found ≡ number_from (functions_of p) 0 (codes "main")
main_is p q same found number = number ∙ ap (λ r. number_from (functions_of r) 0 (codes "main")) same

pub are_rows : {Z : Type 0} (p q : Program) → q ≡ p → (rows slice : List (Vec ℕ Z)) → slice ≡ rows
    → rows_of rows ≡ calls_among (functions_of q) (functions_of p) → rows_of slice ≡ calls_among (functions_of p) (functions_of p)
are_rows p q same rows slice is listed = ap (λ rs. rows_of rs) is ∙ listed ∙ ap (λ r. calls_among (functions_of r) (functions_of p)) same

module _ {Z : Type 0} (p : Program) (slice : List (Vec ℕ Z)) (rows : rows_of slice ≡ calls_among (functions_of p) (functions_of p)) where
  as_long : length slice ≡ length (calls_among (functions_of p) (functions_of p))
  as_long = sym (length-map slice (λ r. r.items)) ∙ ap (λ rs. length rs) rows

  pub are_numbered : AreNumbers (length slice) (rows_of slice)
  are_numbered =
      subst (λ (n : ℕ). AreNumbers n (rows_of slice)) (sym as_long)
      (subst (λ (rs : List (List ℕ)). AreNumbers (length (calls_among (functions_of p) (functions_of p))) rs) (sym rows) (numbers_are_right (functions_of p)))

  pub main_below : (main : ℕ) → number_from (functions_of p) 0 (codes "main") ≡ Some main → main < length slice
  main_below main number =
      let low = number_is_below (functions_of p) (codes "main") main number in
      let many = as_many (functions_of p) (functions_of p) in
      let long = as_long in
      omega arith
