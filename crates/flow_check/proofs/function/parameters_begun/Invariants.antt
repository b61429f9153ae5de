use Rattle.std.proofs.Common.{List, map, take, ◌++◌, ◌≡◌}
use Rattle.std.specs.Prelude.{reverse}
use Rattle.cyc_tree.specs.Tree.{Member}
use Rattle.source_typing.specs.Functions.{with_parameters}
use Rattle.source_typing.specs.Left.{states_at}
use Rattle.source_typing.specs.Scope.{Env}
use Rattle.source_typing.specs.Written.{RegionNamed}
use Rattle.check_heads.specs.Bodies.{code_names, names_of, types_of}
use Rattle.flow_effects.specs.Passed.{state_of}
use Rattle.flow_check.specs.Standing.{Stands}
use Rattle.flow_check.proofs.function.parameters_begun.Given as goal

-- those so far are declared, and begin in these states
abbrev pub invariant-each : goal.invariant-each
invariant-each l = record {
  stands : (ns : List RegionNamed) (g : Env) (ms : List Member) → code_names l.parameters ≡ names_of ms → Stands l.context ns 0 l.initial.scope g
      → Stands l.context ns 0 l.scope (with_parameters (take l.parameter-index ms) (types_of (take l.parameter-index l.parameters)) g);
  states : (ns : List RegionNamed) (g : Env) (ms : List Member) → code_names l.parameters ≡ names_of ms → Stands l.context ns 0 l.initial.scope g
      → reverse (map state_of l.states.items) ++ states_at g
      ≡ states_at (with_parameters (take l.parameter-index ms) (types_of (take l.parameter-index l.parameters)) g);
}
