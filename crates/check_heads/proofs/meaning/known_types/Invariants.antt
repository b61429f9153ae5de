use Rattle.std.proofs.Common.{◌≡◌, map, take}
use Rattle.std.specs.Prelude.{option_map}
use Rattle.cyc_types.specs.Types.{static_type}
use Rattle.check_heads.specs.Bodies.{types_of}
use Rattle.check_heads.proofs.meaning.known_types.Given as goal

-- those so far
abbrev pub invariant-each : goal.invariant-each
invariant-each l = map (option_map static_type) l.types.items ≡ types_of (take l.parameter-index l.parameters)
