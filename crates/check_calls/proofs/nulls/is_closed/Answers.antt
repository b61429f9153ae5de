use Rattle.std.proofs.Common.{ap, sym, ◌∙◌}
use Rattle.cyc_types.specs.Bases.{base_type}
use Rattle.cyc_types.specs.Layers.{pointed}
use Rattle.check_operators.proofs.Renamed.{closed_pointers}
use Rattle.check_calls.proofs.nulls.is_closed.Goals as goal

pub returns-then-is_closed : goal.returns-then-is_closed
returns-then-is_closed c h rs =
    let of = c.args.of.now in
    sym (closed_pointers rs of.layers.items (base_type of.base) (c.is_closed.ensures c.if-is_closed.true))
    ∙ ap (λ t. pointed t of.layers.items) (c.has_no_region.ensures h rs)
