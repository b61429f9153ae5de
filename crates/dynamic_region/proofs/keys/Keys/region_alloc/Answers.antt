use Rattle.std.proofs.Common.{◌∙◌, ap, sym, subst}
use Rattle.arena_laws.specs.Laws.{Does, answer_of, is_block_refused, region_alloc}
use Rattle.region_runtime.specs.Calls.{said_address}
use Rattle.dynamic_region.specs.Keyed.{is_closed_key}
use Rattle.dynamic_region.proofs.Placed.{placed_does, placed_full}
use Rattle.dynamic_region.proofs.keys.Keys.region_alloc.Goals as goal

pub returns-clause-does : goal.returns-clause-does
returns-clause-does g c =
    let old = c.args.self.now.regions in let new = c.region_alloc-placed.new.self in let r = said_address c.region_alloc-placed.result in
    placed_does c.args.handle.0 c.args.bytes (g.R.Regions.holdings old) (g.R.Regions.tag_of old) (g.R.Regions.holdings new) (g.R.Regions.tag_of new) r
    (g.met.R.Regions.tagged old) (ap is_closed_key (sym c.standing-standing.ensures.value) ∙ sym c.is_closed.ensures ∙ c.if-is_closed.false)
    (c.region_alloc-placed.ensures.tags ∙ c.standing-standing.ensures.tags)
    (subst (λ s. Does r (g.R.Regions.holdings new) (region_alloc c.args.handle.0 c.args.bytes (answer_of r) s)) c.standing-standing.ensures.holds
    c.region_alloc-placed.ensures.does)

pub returns-clause-full : goal.returns-clause-full
returns-clause-full g c =
    let old = c.args.self.now.regions in
    c.region_alloc-placed.ensures.full ∙ ap (is_block_refused c.args.handle.0 c.args.bytes) c.standing-standing.ensures.holds
    ∙ placed_full c.args.handle.0 c.args.bytes (g.R.Regions.holdings old) (g.R.Regions.tag_of old) (g.met.R.Regions.tagged old) (ap is_closed_key
    (sym c.standing-standing.ensures.value) ∙ sym c.is_closed.ensures ∙ c.if-is_closed.false)
