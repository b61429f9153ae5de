-- View of code: what is known where the flow of a statement is told.
use Rattle.std.specs.Prelude.{List, ℕ}
use Rattle.check_scopes.specs.Changes.{AllAround}
use Rattle.check_scopes.specs.Knows.{Knows}
use Rattle.check_scopes.specs.Matching.{AreLocals}
use Rattle.check_scopes.specs.declared.scope.Scope.{Scope}
use Rattle.source_typing.specs.Scope.{Env}
use Rattle.source_typing.specs.Written.{RegionNamed}
use Rattle.check_declarations.specs.Contexts.{StandsIn, Suits}
use Rattle.check_declarations.specs.declared.context.Context.{Context}

-- All that is in scope is known, with its locals one by one.
pub record Follows (c : Context) (names : List RegionNamed) (s : Scope) (g : Env) : Type 0 where
  pub known : Knows s g
  pub suits : Suits c names g
  pub around : AllAround g.block g.locals
  pub locals : AreLocals s.locals g.locals

-- The same within a block, whose own locals come after the first `outer` ones.
pub record Stands (c : Context) (names : List RegionNamed) (outer : ℕ) (s : Scope) (g : Env) : Type 0 where
  pub stands : StandsIn c names outer s g
  pub locals : AreLocals s.locals g.locals
