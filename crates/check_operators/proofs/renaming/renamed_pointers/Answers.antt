use Rattle.std.proofs.Common.{ap, sym, ◌∙◌}
use Rattle.cyc_types.specs.Layers.{pointed}
use Rattle.cyc_types.specs.Regions.{regions_of}
use Rattle.source_typing.specs.Tables.{argument}
use Rattle.source_typing.specs.Types.{renamed}
use Rattle.check_operators.proofs.Renamed.{pointed_both}
use Rattle.check_operators.proofs.renaming.renamed_pointers.Goals as goal

pub returns : goal.returns
returns c t =
    let f = argument (regions_of c.args.regions.now) in
    let inner = c.pointers-pointers.result.inner.now in
    let outer = c.pointers-pointers.result.outer.now in
    let first = c.in_ok-push_renamed.ensures t (renamed f t) (ap (pointed (renamed f t)) c.new-all.ensures) in
    c.in_ok-push_renamed-2.ensures (pointed t inner) (renamed f t) first
    ∙ ap (renamed f) (sym (pointed_both inner outer t))
    ∙ ap (λ ls. renamed f (pointed t ls)) c.pointers-pointers.ensures
