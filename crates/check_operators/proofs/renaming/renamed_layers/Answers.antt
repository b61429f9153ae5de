use Rattle.std.proofs.Common.{ap, ◌∙◌}
use Rattle.cyc_types.specs.Layers.{pointed}
use Rattle.cyc_types.specs.Regions.{regions_of}
use Rattle.source_typing.specs.Tables.{argument}
use Rattle.source_typing.specs.Types.{renamed}
use Rattle.check_operators.proofs.Renamed.{closed_pointers}
use Rattle.check_operators.proofs.renaming.renamed_layers.Goals as goal

pub returns-then-is_closed : goal.returns-then-is_closed
returns-then-is_closed c t =
    let f = argument (regions_of c.args.regions.now) in
    ap (pointed (renamed f t)) c.in_ok-same.ensures
    ∙ closed_pointers (regions_of c.args.regions.now) c.args.of.now.items t (c.is_closed.ensures c.if-is_closed.true)
