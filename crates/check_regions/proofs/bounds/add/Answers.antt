use Rattle.cyc_types.specs.Regions.{region_of}
use Rattle.check_regions.proofs.Rows.{bound_added}
use Rattle.check_regions.proofs.bounds.add.Goals as goal

pub returns-in_ok-add_region : goal.returns-in_ok-add_region
returns-in_ok-add_region c =
    bound_added c.args.rows.now c.past-place.result c.index-rows-place.result c.add_region.new.row (region_of c.args.bound.0) (region_of c.args.bound.1)
    c.if-place-rows.true c.past-place.ensures c.in_ok-add_region.ensures
