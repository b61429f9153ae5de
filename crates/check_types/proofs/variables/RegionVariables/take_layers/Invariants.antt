use Rattle.std.proofs.Common.{◌≡◌, drop}
use Rattle.std.specs.Prelude.{Some, option_map}
use Rattle.source_typing.specs.Functions.{take_spots}
use Rattle.source_typing.specs.Types.{PartialType}
use Rattle.source_typing.specs.Written.{pointers_to}
use Rattle.check_types.specs.Reading.{led_by, pointer_spots, pointer_trees}
use Rattle.check_types.proofs.variables.RegionVariables.take_layers.Given as goal

-- with the rest the pointers are all of them
abbrev pub invariant-each : goal.invariant-each
invariant-each l = record {
  built : (b : PartialType)
      → pointers_to (pointer_trees (drop l.pointer-index l.pointers)) (take_spots l.self (pointer_spots (drop l.pointer-index l.pointers))).found
      (led_by (option_map (λ ls. ls.items) l.layers) b)
      ≡ pointers_to (pointer_trees l.pointers) (take_spots l.fn.self (pointer_spots l.pointers)).found (Some b);
  after : (take_spots l.self (pointer_spots (drop l.pointer-index l.pointers))).after_all ≡ (take_spots l.fn.self (pointer_spots l.pointers)).after_all;
}
