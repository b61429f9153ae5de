use Rattle.std.proofs.Common.{◌≡◌, List, arith, length, map, subst, sym, true}
use Rattle.std.proofs.lemmas.List.{length-map}
use Rattle.cyc_types.specs.Regions.{region_of}
use Rattle.source_typing.specs.Regions.{Region, TheHeap, reaches}
use Rattle.check_regions.specs.Fields.{pair_of}
use Rattle.check_regions.specs.Reached.{outlives_by}
use Rattle.check_regions.specs.Ways.{AreWays}
use Rattle.check_regions.proofs.Leading.{over_all}
use Rattle.check_regions.proofs.bounds.Bounds.leads.Goals as goal

pub returns-then-leads : goal.returns-then-leads
returns-then-leads c = λ e.
    let given = c.self.inside.given in
    let bs : List (Region × Region) = map pair_of given.items in
    let one : Region = region_of c.args.one in
    let two : Region = region_of c.args.other in
    let ways : AreWays bs c.as_slice-ways.result.now = subst (λ w. AreWays bs w) (sym c.as_slice-ways.ensures.value) c.self.invariant.ways_are in
    let count : c.len-most.result ≡ length bs =
    let n = c.len-most.ensures in
    let o = given.ok.0 in
    let l = length-map given.items pair_of in
    omega (arith, n, o, l) in
    subst (λ b. outlives_by b one two ≡ true) c.self.view_is (subst (λ n. reaches n bs one two ≡ true) count (c.leads.ensures bs ways e))

pub returns-else-leads : goal.returns-else-leads
returns-else-leads c = λ e.
    let given = c.self.inside.given in
    let bs : List (Region × Region) = map pair_of given.items in
    let one : Region = region_of c.args.one in
    let two : Region = region_of c.args.other in
    let ways : AreWays bs c.as_slice-ways.result.now = subst (λ w. AreWays bs w) (sym c.as_slice-ways.ensures.value) c.self.invariant.ways_are in
    let count : c.len-most.result ≡ length bs =
    let n = c.len-most.ensures in
    let o = given.ok.0 in
    let l = length-map given.items pair_of in
    omega (arith, n, o, l) in
    let heap : reaches (length bs) bs one TheHeap ≡ true =
    subst (λ n. reaches n bs one TheHeap ≡ true) count (c.leads-else-leads.ensures bs ways e) in
    subst (λ b. outlives_by b one two ≡ true) c.self.view_is (over_all bs (length bs) one two heap)
