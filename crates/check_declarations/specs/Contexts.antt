-- View of code: when the context in code is that of the rules.
use Rattle.std.specs.Prelude.{List, drop, length, option_map, ℕ, ◌-◌, ◌≡◌}
use Rattle.cyc_types.specs.Regions.{region_of}
use Rattle.cyc_types.specs.Types.{static_type}
use Rattle.check_scopes.specs.Changes.{IsBlock}
use Rattle.check_scopes.specs.Knows.{Knows}
use Rattle.check_scopes.specs.declared.scope.Scope.{Scope}
use Rattle.source_typing.specs.Named.{NamesBelow}
use Rattle.source_typing.specs.Scope.{Env}
use Rattle.source_typing.specs.Written.{RegionNamed}
use Rattle.check_declarations.specs.declared.context.Context.{Context}

-- The region names, the result's type, the innermost block's stack region and how many items stand before are the same; so is whether a loop and
-- whether a `switch` is around. The names are of regions in scope.
pub record Suits (c : Context) (known : List RegionNamed) (g : Env) : Type 0 where
  pub names : known ≡ g.names
  pub below : NamesBelow g.regions.count g.names
  pub result : option_map (λ t. static_type t.now) c.result ≡ g.result
  pub frame : region_of c.frame ≡ g.frame
  pub item : c.item ≡ g.item
  pub in_loop : c.in_loop ≡ g.in_loop
  pub in_switch : c.in_switch ≡ g.in_switch

-- All that is in scope is known. The locals after the first `outer` ones are those of the innermost block.
pub record StandsIn (c : Context) (names : List RegionNamed) (outer : ℕ) (s : Scope) (g : Env) : Type 0 where
  pub known : Knows s g
  pub suits : Suits c names g
  pub block : IsBlock outer s g

-- the region names that stay when a block is left: the first `count`
abbrev pub kept_to : ℕ → List RegionNamed → List RegionNamed
kept_to count names = drop (length names - count) names
