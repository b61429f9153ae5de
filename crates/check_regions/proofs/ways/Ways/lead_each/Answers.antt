use Rattle.check_regions.proofs.Leading.{one_among}
use Rattle.check_regions.proofs.ways.Ways.lead_each.Goals as goal

pub each-preserved : goal.each-preserved
each-preserved c = λ bs h w.
    c.in_ok-lead.ensures bs (c.each.invariant bs h w) (h _ (one_among c.args.row.now c.each.region-index _ c.each-test.true))
