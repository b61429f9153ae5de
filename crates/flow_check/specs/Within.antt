-- View of code: what is known of locals within an expression.
use Rattle.std.specs.Prelude.{Bool, List, None, Option, Some, false, length, true, ℕ, ◌+◌, ◌≡◌}
use Rattle.source_typing.specs.Scope.{Env, Local, find_local}
use Rattle.source_typing.specs.Tables.{Counter}
use Rattle.flow_summaries.specs.Uses.{number_of}
use Rattle.check_scopes.specs.Linked.{position_of}
use Rattle.check_scopes.specs.Locals.{find_what}
use Rattle.check_scopes.specs.Means.{WhatIs}
use Rattle.check_scopes.specs.declared.locals.What.{What}
use Rattle.check_scopes.specs.declared.scope.Scope.{Scope}
use Rattle.check_expressions.specs.Within.{IsIn, is_counter}
use Rattle.check_expressions.specs.declared.around.Around.{Around}

-- The local that a name means in code is that of the rules, with the same number: the index of an array that is made around, or one that is declared, or none.
abbrev pub SameLocal : Bool → Option What → Option ℕ → Option Local → Option ℕ → Type 0
SameLocal true w p (Some l) n = (l.what ≡ Counter)
SameLocal false None p None n = Unit {0}
SameLocal false (Some w) p (Some l) n = WhatIs l.what w × (n ≡ p)
SameLocal counted w p l n = ⊥

-- All that an expression asks for of its scope is known.
pub record IsWithin (s : Scope) (a : Around) (g : Env) : Type 0 where
  pub scope : IsIn s a g
  pub locals : (x : List ℕ) → SameLocal (is_counter a.counters.now x) (find_what s.locals x) (position_of s.locals x) (find_local g.locals x)
      (number_of g.locals x)
  pub count : length g.locals ≡ length a.counters.now + length s.locals
