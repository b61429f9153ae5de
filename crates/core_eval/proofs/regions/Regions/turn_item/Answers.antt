use Rattle.core_eval.specs.Regions.{held_region, regions_of, turned_held}
use Rattle.core_eval.proofs.RegionsListed.{change_some, kept_region, when_some}
use Rattle.core_eval.proofs.regions.Regions.turn_item.Goals as goal

pub returns-in-Some-clause-turned : goal.returns-in-Some-clause-turned
returns-in-Some-clause-turned c =
    let rs = regions_of c.args.self.now in
    let rs' = regions_of (c.region_mut.follows.lender c.turn.new.self) in
    let new = held_region c.turn.new.self in
    let is = when_some c.region_mut.result c.in-Some.region c.in-Some.is (c.region_mut.follows.holds c.turn.new.self) in
    change_some rs c.args.number (held_region c.in-Some.region.now) c.in-Some.ensures.held new rs' is (turned_held c.args.from c.args.to) c.turn.result
    c.turn.ensures.turned

pub returns-in-Some-clause-kept : goal.returns-in-Some-clause-kept
returns-in-Some-clause-kept c =
    let rs = regions_of c.args.self.now in
    let rs' = regions_of (c.region_mut.follows.lender c.turn.new.self) in
    let new = held_region c.turn.new.self in
    let is = when_some c.region_mut.result c.in-Some.region c.in-Some.is (c.region_mut.follows.holds c.turn.new.self) in
    λ missing. kept_region rs c.args.number (held_region c.in-Some.region.now) c.in-Some.ensures.held new rs' is (c.turn.ensures.kept missing)
