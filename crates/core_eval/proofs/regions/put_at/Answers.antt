use Rattle.std.specs.Prelude.{nat_eq, slice_get, if◌then◌else◌}
use Rattle.std.proofs.Common.{Some, ap, ◌∙◌}
use Rattle.core_eval.specs.Regions.{held_region, item_held}
use Rattle.core_eval.proofs.Lists.{get_set, get_within}
use Rattle.core_eval.proofs.RegionsListed.{held_if}
use Rattle.core_eval.proofs.regions.put_at.Goals as goal

pub returns : goal.returns
returns c = λ k.
    let filled = c.fill_up.new.chunk.items in
    let p = c.args.position in
    let there = get_within filled p c.index_mut.result.now c.in_ok-fill_up.ensures.long c.index_mut.ensures.value in
    ap item_held (get_set filled p c.args.region c.index_mut.result.now k there)
    ∙ held_if (nat_eq k p) (Some c.args.region) (slice_get filled k)
    ∙ ap (λ o. if nat_eq k p then held_region c.args.region else o) (c.in_ok-fill_up.ensures.held k)
