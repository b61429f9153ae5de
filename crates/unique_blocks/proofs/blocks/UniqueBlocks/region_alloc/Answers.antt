use Rattle.std.proofs.Common.{subst}
use Rattle.arena_laws.specs.Laws.{Does, answer_of, region_alloc}
use Rattle.region_runtime.specs.Calls.{said_address}
use Rattle.unique_blocks.specs.Blocks.{held}
use Rattle.unique_blocks.proofs.Beside.{alloc_along, alloc_sound}
use Rattle.unique_blocks.proofs.blocks.UniqueBlocks.region_alloc.Goals as goal

pub returns-clause-does : goal.returns-clause-does
returns-clause-does c =
    subst (λ u. Does (said_address c.region_alloc-placed.result)
    (held (record { pool = c.region_alloc-placed.new.self; heads = c.self.inside.heads; touched = 0 }))
    (region_alloc c.args.handle.0 c.args.bytes (answer_of (said_address c.region_alloc-placed.result)) (held u))) c.self.view_is
    (alloc_along c.self.inside.pool c.region_alloc-placed.new.self c.region_alloc-placed.ensures.words c.args.handle.0 c.args.bytes
    (said_address c.region_alloc-placed.result) c.region_alloc-placed.ensures.does)

pub invariant_of-self : goal.invariant_of-self
invariant_of-self c =
    alloc_sound c.self.inside.pool c.region_alloc-placed.new.self c.self.inside.heads c.args.handle.0 c.args.bytes
    (said_address c.region_alloc-placed.result) c.region_alloc-placed.ensures.words c.region_alloc-placed.ensures.does c.self.invariant
