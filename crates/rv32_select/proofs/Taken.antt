-- The register of a parameter, by the statement that puts it into a local.
use Rattle.std.specs.Prelude.{slice_index_or}
use Rattle.std.proofs.Common.{◌≡◌, ℕ, zero, suc, ◌+◌, ◌-◌, ◌<◌, ◌≤◌, false, List, [], ◌∷◌, length, refl, sym, ap, ◌∙◌, arith}
use Rattle.core_meaning.specs.Core.{Statements}
use Rattle.core_lines.specs.Held as lines
use Rattle.core_lines.specs.Held.{nth, nth_block, result_register, with_taken, with_put}
use Rattle.core_lines.specs.Parameters.{home_put_at, home_or_result, in_first_block, parameter_register}
use Rattle.core_lines.specs.Straight.{home_put_by}
use Rattle.cyc_core.specs.declared.statement.Statement as code
use Rattle.cyc_core.specs.Trees.{statement_tree, body_tree}

-- by whether a local is of the block
pub home_here : (homes : List ℕ) (out local home : ℕ) → out ≡ 0 → home ≡ nth homes local → home ≡ nth (nth_block (homes ∷ []) out) local
home_here homes zero local home here is = is
home_here homes (suc out) local home here is = absurd (omega (arith, here))

pub none_outside : (homes : List ℕ) (out local : ℕ) → 0 < out → 0 ≡ nth (nth_block (homes ∷ []) out) local
none_outside homes zero local outside = absurd (omega (arith, outside))
none_outside homes (suc out) local outside = refl

pub at_some : (homes : List ℕ) (t : ℕ) (ss : List code.Statement) (k : ℕ) (s : code.Statement) (home : ℕ) → k < length ss → s ≡ slice_index_or ss k s
    → home ≡ home_put_by (homes ∷ []) t (statement_tree s) → home ≡ home_put_at homes t k (body_tree ss)
at_some homes t [] k s home less is e = absurd (omega (arith, less))
at_some homes t (q ∷ ss) zero s home less is e = e ∙ ap (λ x. home_put_by (homes ∷ []) t (statement_tree x)) is
at_some homes t (q ∷ ss) (suc k) s home less is e = at_some homes t ss k s home (omega (arith, less)) is e

pub at_none : (homes : List ℕ) (t : ℕ) (ss : List code.Statement) (k : ℕ) → length ss ≤ k → 0 ≡ home_put_at homes t k (body_tree ss)
at_none homes t [] k le = refl
at_none homes t (q ∷ ss) zero le = absurd (omega (arith, le))
at_none homes t (q ∷ ss) (suc k) le = at_none homes t ss k (omega (arith, le))

-- where there is no home, and where there is one
pub register_without : (homes : List ℕ) (body : Statements) (t home register : ℕ) → home ≡ home_put_at homes t t (in_first_block body) → home ≡ 0
    → register ≡ result_register t → register ≡ parameter_register homes body t
register_without homes body t zero register is none e = e ∙ ap (λ h. suc (home_or_result t h)) is
register_without homes body t (suc home) register is none e = absurd (omega (arith, none))

pub register_with : (homes : List ℕ) (body : Statements) (t home : ℕ) → home ≡ home_put_at homes t t (in_first_block body) → 0 < home
    → home ≡ parameter_register homes body t
register_with homes body t zero is some = absurd (omega (arith, some))
register_with homes body t (suc home) is some = ap (λ h. suc (home_or_result t h)) is

-- one parameter more is known
pub taken_more : (registers : ℕ → ℕ) (hs : List lines.Holding) (k n : ℕ) → k < n
    → with_taken registers (k + 1) (n - (k + 1)) (with_put false k (registers k) hs) ≡ with_taken registers k (n - k) hs
taken_more registers hs k n less =
    let one : suc k ≡ k + 1 = omega arith in
    let e : n - k ≡ suc (n - (k + 1)) = omega (arith, less) in
    sym (ap (λ m. with_taken registers k m hs) e ∙ ap (λ j. with_taken registers j (n - (k + 1)) (with_put false k (registers k) hs)) one)
