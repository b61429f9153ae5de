use Rattle.cyc_types.specs.Bases.{base_type}
use Rattle.cyc_types.specs.Shared.{listed}
use Rattle.source_typing.specs.Fixing.{is_known}
use Rattle.check_calls.specs.Fixings.{fixings_of, which_are_known}
use Rattle.check_calls.proofs.Holding.{pointers_known, pointers_unknown}
use Rattle.check_calls.proofs.known.is_known_type.Goals as goal

pub returns-then-pointers : goal.returns-then-pointers
returns-then-pointers c =
    let of = c.args.of.now in
    pointers_known (is_known (which_are_known (fixings_of c.args.fixings.now))) of.layers.items (listed c.pointers.result) (base_type of.base)
    c.are_known_pointers-pointers.result c.is_known_base-base.result c.are_known_pointers-pointers.ensures c.pointers.ensures c.is_known_base-base.ensures
    c.if-pointers.true

pub returns-else-pointers : goal.returns-else-pointers
returns-else-pointers c =
    let of = c.args.of.now in
    pointers_unknown (is_known (which_are_known (fixings_of c.args.fixings.now))) of.layers.items (listed c.pointers.result) (base_type of.base)
    c.are_known_pointers-pointers.result c.is_known_base-base.result c.are_known_pointers-pointers.ensures c.pointers.ensures c.is_known_base-base.ensures
    c.if-pointers.false
