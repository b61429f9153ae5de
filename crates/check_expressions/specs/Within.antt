-- View of code: what is known where an expression within a larger one is judged.
use Rattle.std.specs.Borrow.{Bor}
use Rattle.std.specs.List.{list_any}
use Rattle.std.specs.Prelude.{Bool, List, Option, Some, bytes_eq, ℕ, ◌≡◌, if◌then◌else◌}
use Rattle.source_typing.specs.Scope.{Env, meant}
use Rattle.check_scopes.specs.Knows.{Sees, means_in}
use Rattle.check_scopes.specs.Means.{Means}
use Rattle.check_scopes.specs.declared.meaning.Meaning.{Meaning}
use Rattle.check_scopes.specs.declared.meaning.Meaning.TheVariants as code
use Rattle.check_scopes.specs.declared.scope.Scope.{Scope}
use Rattle.check_calls.specs.Enclosings.{enclosing_of}
use Rattle.check_expressions.specs.declared.around.Around.{Around}

-- whether a name is one of these
abbrev pub is_counter : List (Bor (List ℕ)) → List ℕ → Bool
is_counter counters x = list_any (λ c. bytes_eq c.now x) counters

-- the index of an array that is made around hides what is in scope
abbrev pub means_inside : Around → Scope → List ℕ → Option Meaning
means_inside a s x = (if is_counter a.counters.now x then Some code.Counter else means_in s x)

-- Structs, unions, regions and each name mean what they mean by the rules, and the same `rnew` is around.
pub record IsIn (s : Scope) (a : Around) (g : Env) : Type 0 where
  pub sees : Sees s g
  pub names : (x : List ℕ) → Means (meant g x) (means_inside a s x)
  pub enclosing : g.enclosing ≡ enclosing_of a.enclosing
