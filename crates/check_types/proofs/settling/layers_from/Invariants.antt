use Rattle.std.proofs.Common.{◌≡◌, drop, length}
use Rattle.std.specs.Prelude.{Some, option_map}
use Rattle.source_typing.specs.Types.{StaticType}
use Rattle.cyc_types.specs.Layers.{pointed}
use Rattle.cyc_types.specs.Types.{static_type}
use Rattle.check_types.specs.Settling.{all_from}
use Rattle.check_types.proofs.settling.layers_from.Given as goal

-- with the rest the pointers are all of them
abbrev pub invariant-each : goal.invariant-each
invariant-each l = record {
  depth : l.depth ≡ length (drop l.layer-index l.written);
  filled : (t : StaticType) → all_from (drop l.layer-index l.written) (option_map (λ s. static_type s.now) l.source) (Some (pointed t l.layers.items))
      ≡ all_from l.written (option_map (λ s. static_type s.now) l.source) (Some t);
}
