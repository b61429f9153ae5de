use Rattle.std.proofs.Common.{◌≡◌, drop}
use Rattle.std.specs.Prelude.{Some, option_map}
use Rattle.source_typing.specs.Types.{PartialType}
use Rattle.source_typing.specs.Written.{all_found, pointers_to}
use Rattle.check_types.specs.Reading.{led_by, pointer_spots, pointer_trees}
use Rattle.check_types.proofs.layers.named_layers.Given as goal

-- with the rest the pointers are all of them
abbrev pub invariant-each : goal.invariant-each
invariant-each l = (b : PartialType)
    → pointers_to (pointer_trees (drop l.pointer-index l.pointers)) (all_found l.names (pointer_spots (drop l.pointer-index l.pointers))).0
    (led_by (option_map (λ ls. ls.items) l.layers) b)
    ≡ pointers_to (pointer_trees l.pointers) (all_found l.names (pointer_spots l.pointers)).0 (Some b)
