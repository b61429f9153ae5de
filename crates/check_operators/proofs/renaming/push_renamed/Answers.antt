use Rattle.std.proofs.Common.{take, ap, ◌∙◌}
use Rattle.cyc_types.specs.Layers.{pointed}
use Rattle.cyc_types.specs.Regions.{regions_of}
use Rattle.source_typing.specs.Tables.{argument}
use Rattle.source_typing.specs.Types.{renamed}
use Rattle.check_operators.proofs.Renamed.{more_pointers}
use Rattle.check_operators.proofs.renaming.push_renamed.Goals as goal

pub each-preserved : goal.each-preserved
each-preserved c t u e =
    let f = argument (regions_of c.args.regions.now) in
    let old = c.args.pointers.now in
    let i = c.each.pointer-index in
    ap (pointed u) c.in_ok-push.ensures.ok
    ∙ more_pointers f old i c.each.all.items c.renamed_pointer.result _ t u c.each-test.true (c.each.invariant t u e)
    (c.renamed_pointer.ensures (pointed t (take i old)))
