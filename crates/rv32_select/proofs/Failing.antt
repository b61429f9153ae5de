-- What is so of a choice that is a check.
use Rattle.std.proofs.Common.{◌≡◌, ℕ, List, [], ◌∷◌, length, Option, Some, None, refl, sym, subst}
use Rattle.core_meaning.specs.Core.{Statements, NoStatements, If}
use Rattle.cyc_words.specs.declared.faults.Kind.{Kind}
use Rattle.cyc_core.specs.declared.statement.Statement as code
use Rattle.cyc_core.specs.Trees.{body_tree}
use Rattle.core_lines.specs.Checks.{kind_in, Failure, Always, ByTest, failure_in, check_of}
use Rattle.core_lines.specs.Held.{held_behind}
use Rattle.core_lines.specs.Saved.{results_in}
use Rattle.core_lines.specs.Selected.{Surroundings, labels_in, names_after, holding, naming}
use Rattle.core_lines.proofs.Checking.{failing, checks_with}
use Rattle.rv32_select.specs.Failures.{labels_kept}

pub several_kinds : (ss : List code.Statement) → (length ss ≡ 1 → ⊥) → ◌≡◌ {A = Option Kind} None (kind_in (body_tree ss))
several_kinds [] other = refl
several_kinds (s ∷ []) other = absurd (other refl)
several_kinds (s ∷ t ∷ ss) other = refl

-- a first way that does something makes no check
pub some_first : (these those : List code.Statement) → (length these ≡ 0 → ⊥) → ◌≡◌ {A = Option Failure} None (check_of (body_tree these) (body_tree those))
some_first [] those some = absurd (some refl)
some_first (s ∷ ss) those some = refl

pub several_failures : (ss : List code.Statement) → (length ss ≡ 1 → ⊥) → ◌≡◌ {A = Option Failure} None (failure_in (body_tree ss))
several_failures [] other = refl
several_failures (s ∷ []) other = absurd (other refl)
several_failures (s ∷ t ∷ ss) other = refl

-- it places no labels, nothing changes behind it, and it has no results
pub record IsCheck (u : Surroundings) (t : ℕ) (f : Failure) (these those : Statements) : Type 0 where
  pub free : labels_in (If t these those) ≡ labels_kept f
  pub same : holding (held_behind u.homes u.statics u.held (If t these those)) (naming (names_after (If t these those) u.names) u) ≡ u
  pub saves : results_in (If t these those) ≡ 0

one_is : (u : Surroundings) (t : ℕ) (f : Failure) → IsCheck u t f NoStatements (failing f)
one_is u t (Always kind) = record { free = refl; same = refl; saves = refl }
one_is u t (ByTest p first second) = record { free = refl; same = refl; saves = refl }

pub is_check : (u : Surroundings) (t : ℕ) (f : Failure) (these those : Statements) → check_of these those ≡ Some f → IsCheck u t f these those
is_check u t f these those e =
    let is = checks_with these those f e in
    subst (λ ss. IsCheck u t f ss those) (sym is.0) (subst (λ ss. IsCheck u t f NoStatements ss) (sym is.1) (one_is u t f))
