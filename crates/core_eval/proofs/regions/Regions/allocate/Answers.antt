use Rattle.std.proofs.Common.{false, refl}
use Rattle.std.proofs.lemmas.Result.{on_ok_weaker}
use Rattle.core_eval.specs.Regions.{held_region, regions_of, grown_held}
use Rattle.core_eval.specs.Elements.{block_cells}
use Rattle.core_eval.proofs.RegionsListed.{changed_some, changed_none, when_some}
use Rattle.core_eval.proofs.regions.Regions.allocate.Goals as goal

pub returns-in-Some-clause-regions : goal.returns-in-Some-clause-regions
returns-in-Some-clause-regions c =
    let rs = regions_of c.args.self.now in
    let rs' = regions_of (c.region_mut.follows.lender c.allocate.new.self) in
    let new = held_region c.allocate.new.self in
    let is = when_some c.region_mut.result c.in-Some.region c.in-Some.is (c.region_mut.follows.holds c.allocate.new.self) in
    let block = block_cells false c.args.layout.now.value c.args.count in
    on_ok_weaker c.allocate.result
    (changed_some rs c.args.number (held_region c.in-Some.region.now) c.in-Some.ensures.held new rs' is (grown_held block)) c.allocate.ensures.held

pub returns-in-None-clause-regions : goal.returns-in-None-clause-regions
returns-in-None-clause-regions c =
    changed_none (regions_of c.args.self.now) (regions_of c.region_mut.follows.lender-at-none) c.args.number
    (grown_held (block_cells false c.args.layout.now.value c.args.count)) c.in-None.ensures.held c.region_mut.follows.holds-at-none refl
