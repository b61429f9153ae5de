use Rattle.std.proofs.Common.{refl}
use Rattle.std.proofs.lemmas.Result.{on_ok_weaker}
use Rattle.core_eval.specs.Regions.{held_region, regions_of}
use Rattle.core_eval.specs.Whole.{fill_held}
use Rattle.core_eval.proofs.RegionsListed.{changed_some, changed_none, when_some}
use Rattle.core_eval.proofs.regions.Regions.fill.Goals as goal

pub returns-in-Some : goal.returns-in-Some
returns-in-Some c =
    let rs = regions_of c.args.self.now in
    let rs' = regions_of (c.region_mut.follows.lender c.fill.new.self) in
    let new = held_region c.fill.new.self in
    let is = when_some c.region_mut.result c.in-Some.region c.in-Some.is (c.region_mut.follows.holds c.fill.new.self) in
    on_ok_weaker c.fill.result
    (changed_some rs c.args.number (held_region c.in-Some.region.now) c.in-Some.ensures.held new rs' is (fill_held c.args.index c.args.cell c.args.values.now))
    c.fill.ensures

pub returns-in-None : goal.returns-in-None
returns-in-None c =
    changed_none (regions_of c.args.self.now) (regions_of c.region_mut.follows.lender-at-none) c.args.number
    (fill_held c.args.index c.args.cell c.args.values.now) c.in-None.ensures.held c.region_mut.follows.holds-at-none refl
