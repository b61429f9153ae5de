use Rattle.std.proofs.Common.{◌≡◌, ◌+◌, ◌/◌, ◌∙◌, ap, arith}
use Rattle.std.specs.Prelude.{slice_set}
use Rattle.core_eval.specs.Regions.{held_region}
use Rattle.core_eval.proofs.Lists.{get_within}
use Rattle.core_eval.proofs.RegionsListed.{listed, length_listed, more_listed, held_changed, held_others}
use Rattle.core_eval.proofs.regions.Regions.push.Goals as goal

pub returns-clause-born : goal.returns-clause-born
returns-clause-born c =
    let s = c.args.self.now in
    let many = length_listed s.chunks.items s.born in
    let next : c.in-Some.born ≡ s.born + 1 = c.in-Some.ensures.1 in omega (arith, many, next)

pub returns-clause-regions : goal.returns-clause-regions
returns-clause-regions c =
    let s = c.args.self.now in
    let cs = c.add_chunks.new.self.chunks.items in
    let chunk = c.index_mut.result.now in
    let there = get_within cs (s.born / 64) chunk c.in_ok-add_chunks.ensures.long c.index_mut.ensures.value in
    let new = c.put_at.new.chunk in
    let cs' = slice_set cs (s.born / 64) new in
    let x = held_region c.args.region in
    ap (listed cs') c.in-Some.ensures.1
    ∙ more_listed s.chunks.items cs' s.born x
    (λ m other. held_others cs s.born chunk there new x c.in_ok-put_at.ensures m other ∙ c.in_ok-add_chunks.ensures.held m)
    (held_changed cs s.born chunk there new x c.in_ok-put_at.ensures)
