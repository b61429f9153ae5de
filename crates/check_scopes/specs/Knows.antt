-- View of code: when what is in scope in code is what is in scope by the rules.
use Rattle.std.specs.Prelude.{Bool, List, None, Option, Some, false, true, ℕ, ◌≡◌}
use Rattle.cyc_types.specs.Sameness.{HasTags}
use Rattle.source_typing.specs.Regions.{TheHeap}
use Rattle.source_typing.specs.Scope.{Env, InRegion, meant}
use Rattle.check_regions.specs.Scopes.{AreThose}
use Rattle.check_scopes.specs.Globals.{global_meaning}
use Rattle.check_scopes.specs.Locals.{find_what}
use Rattle.check_scopes.specs.Means.{Means}
use Rattle.check_scopes.specs.declared.locals.What.{What}
use Rattle.check_scopes.specs.declared.locals.What.TheVariants as local
use Rattle.check_scopes.specs.declared.meaning.Meaning.{Meaning}
use Rattle.check_scopes.specs.declared.meaning.Meaning.TheVariants as code
use Rattle.check_scopes.specs.declared.scope.Scope.{Scope}

-- ---- names

abbrev pub of_local : What → Meaning
of_local (local.Variable t r) = code.Variable t r
of_local (local.Array t r) = code.Array t r
of_local local.Counter = code.Counter
of_local local.Untyped = code.Untyped
of_local local.NotKnown = code.NotKnown

-- a local hides a function and a global of its name
abbrev pub local_or : Option What → Option Meaning → Option Meaning
local_or None m = m
local_or (Some w) m = Some (of_local w)

abbrev pub means_in : Scope → List ℕ → Option Meaning
means_in s x = local_or (find_what s.locals x) (global_meaning s.globals.now x)

-- Each name means in code what it means by the rules.
abbrev pub Names : Scope → Env → Type 0
Names s g = (x : List ℕ) → Means (meant g x) (means_in s x)

-- ---- all of it

-- Structs and unions mean what they mean by the rules, and the regions are the same, whatever names are in scope and whatever `rnew` is around.
pub record Sees (s : Scope) (g : Env) : Type 0 where
  pub tags : HasTags s.tables.now g.tables
  pub regions : AreThose s.regions g.regions
  pub lenient : s.lenient ≡ g.lenient

-- The same, and so does each name, and no `rnew` is around.
pub record Knows (s : Scope) (g : Env) : Type 0 where
  pub names : Names s g
  pub tags : HasTags s.tables.now g.tables
  pub regions : AreThose s.regions g.regions
  pub lenient : s.lenient ≡ g.lenient
  pub enclosing : g.enclosing ≡ InRegion TheHeap
