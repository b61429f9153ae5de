use Rattle.std.proofs.Common.{◌≡◌, drop}
use Rattle.cyc_types.specs.Regions.{regions_of}
use Rattle.check_scopes.specs.Knows.{Sees}
use Rattle.source_typing.specs.Calls.{all_live}
use Rattle.source_typing.specs.Scope.{Env}
use Rattle.check_calls.proofs.call.are_live.Given as goal

-- whether the rest are live
abbrev pub invariant-each : goal.invariant-each
invariant-each l = (g : Env) → Sees l.scope g
    → all_live g (regions_of l.regions) (regions_of (drop l.region-index l.effect)) ≡ all_live g (regions_of l.regions) (regions_of l.effect)
