use Rattle.std.proofs.Common.{◌≡◌, List, take}
use Rattle.cyc_tree.specs.Tree.{Member}
use Rattle.source_typing.specs.Functions.{with_parameters}
use Rattle.source_typing.specs.Scope.{Env}
use Rattle.source_typing.specs.Written.{RegionNamed}
use Rattle.check_declarations.specs.Contexts.{StandsIn}
use Rattle.check_heads.specs.Bodies.{code_names, names_of, types_of}
use Rattle.check_functions.proofs.body.declare_parameters.Given as goal

-- those so far are declared
abbrev pub invariant-each : goal.invariant-each
invariant-each l =
    (ns : List RegionNamed) (g : Env) (ms : List Member) → code_names l.parameters ≡ names_of ms → StandsIn l.context ns 0 l.initial.scope g
    → StandsIn l.context ns 0 l.scope (with_parameters (take l.parameter-index ms) (types_of (take l.parameter-index l.parameters)) g)
