use Rattle.std.specs.Prelude.{map}
use Rattle.std.proofs.Common.{◌≡◌, drop, true}
use Rattle.cyc_types.specs.Regions.{region_of, regions_of}
use Rattle.check_scopes.specs.Knows.{Sees}
use Rattle.check_regions.specs.Fields.{pair_of}
use Rattle.source_typing.specs.Calls.{all_ordered}
use Rattle.source_typing.specs.Scope.{Env, outlives}
use Rattle.check_calls.proofs.call.are_ordered.Given as goal

-- whether the rest are in order, and that those are of which it is known
abbrev pub invariant-each : goal.invariant-each
invariant-each l = (g : Env) → Sees l.scope g → record {
  rest : all_ordered g (regions_of l.regions) (map pair_of (drop l.bound-index l.bounds)) ≡ all_ordered g (regions_of l.regions) (map pair_of l.bounds);
  known : outlives g (region_of l.known.0) (region_of l.known.1) ≡ true;
}
