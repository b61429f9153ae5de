use Rattle.cyc_types.specs.Regions.{regions_of}
use Rattle.check_regions.specs.Walked.{rows_of}
use Rattle.check_regions.proofs.Leading.{row_leads}
use Rattle.check_regions.proofs.ways.Ways.spread.Goals as goal

pub each-preserved : goal.each-preserved
each-preserved c = λ bs h w.
    c.in_ok-lead_each.ensures bs
    (row_leads bs (rows_of c.args.rows.now) h (regions_of c.row_of.result.now) _ c.row_of.ensures) (c.each.invariant bs h w)
