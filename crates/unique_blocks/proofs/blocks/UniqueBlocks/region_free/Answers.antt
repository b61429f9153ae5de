use Rattle.std.proofs.Common.{subst}
use Rattle.arena_laws.specs.Lawful.{region_free}
use Rattle.arena_laws.specs.Laws.{Does}
use Rattle.region_runtime.specs.Calls.{said_done}
use Rattle.unique_blocks.specs.Blocks.{held}
use Rattle.unique_blocks.proofs.Beside.{free_along}
use Rattle.unique_blocks.proofs.blocks.UniqueBlocks.region_free.Goals as goal

pub returns-clause-does : goal.returns-clause-does
returns-clause-does c =
    subst (λ u. Does (said_done c.region_free-freed.result) (held (record { pool = c.region_free-freed.new.self; heads = c.self.inside.heads; touched = 0 }))
    (region_free c.args.handle.0 (held u))) c.self.view_is
    (free_along c.self.inside.pool c.region_free-freed.new.self c.region_free-freed.ensures.words c.args.handle.0
    (said_done c.region_free-freed.result) c.region_free-freed.ensures.does)
