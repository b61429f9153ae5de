use Rattle.std.proofs.Common.{sym, ◌∙◌}
use Rattle.cyc_types.specs.Regions.{region_of}
use Rattle.check_calls.proofs.Entering.{same_asked}
use Rattle.check_calls.proofs.call.is_ordered.Goals as goal

pub returns-then-are_same : goal.returns-then-are_same
returns-then-are_same c = λ g h k.
    same_asked g (region_of c.args.known.0) (region_of c.args.known.1) (region_of c.args.asked.0) (region_of c.args.asked.1)
    (sym c.are_same.ensures ∙ c.if-are_same.true) k
