use Rattle.std.proofs.lemmas.Result.{IfOk-weaker}
use Rattle.core_eval.specs.Regions.{held_region, regions_of, put_held}
use Rattle.core_eval.proofs.RegionsListed.{change_some, kept_region, when_some}
use Rattle.core_eval.proofs.regions.Regions.put.Goals as goal

pub returns-in-Some-clause-put : goal.returns-in-Some-clause-put
returns-in-Some-clause-put c =
    let rs = regions_of c.args.self.now in
    let rs' = regions_of (c.region_mut.follows.lender c.put.new.self) in
    let new = held_region c.put.new.self in
    let is = when_some c.region_mut.result c.in-Some.region c.in-Some.is (c.region_mut.follows.holds c.put.new.self) in
    let part = c.args.part in
    IfOk-weaker c.put.result _ _
    (change_some rs c.args.number (held_region c.in-Some.region.now) c.in-Some.ensures.held new rs' is
    (put_held c.args.index part.cell part.byte part.number part.width c.args.value))
    c.put.ensures.put

pub returns-in-Some-clause-kept : goal.returns-in-Some-clause-kept
returns-in-Some-clause-kept c =
    let rs = regions_of c.args.self.now in
    let rs' = regions_of (c.region_mut.follows.lender c.put.new.self) in
    let new = held_region c.put.new.self in
    let is = when_some c.region_mut.result c.in-Some.region c.in-Some.is (c.region_mut.follows.holds c.put.new.self) in
    IfOk-weaker c.put.result _ _
    (λ is_put kept missing. kept_region rs c.args.number (held_region c.in-Some.region.now) c.in-Some.ensures.held new rs' is (kept missing))
    c.put.ensures.kept
