use Rattle.std.proofs.Common.{sym}
use Rattle.region_runtime.proofs.Along.{apart}
use Rattle.region_runtime.proofs.Fresh.{new_pool, fresh_sound, fresh_holds, fresh_tags, fresh_taken, fresh_zeros}
use Rattle.region_runtime.proofs.pool.Pool.new.Goals as goal

pub invariant_of-result : goal.invariant_of-result
invariant_of-result c = fresh_sound c.in_ok-raw.raw c.args.pages c.in_ok-raw.ensures.zeros (sym c.in_ok-raw.ensures.pages)

pub returns-clause-made : goal.returns-clause-made
returns-clause-made c = fresh_holds c.in_ok-raw.raw c.args.pages c.in_ok-raw.ensures.zeros

pub returns-clause-tags : goal.returns-clause-tags
returns-clause-tags c = fresh_tags c.in_ok-raw.raw c.args.pages c.in_ok-raw.ensures.zeros

pub returns-clause-taken : goal.returns-clause-taken
returns-clause-taken c = fresh_taken c.in_ok-raw.raw c.args.pages c.in_ok-raw.ensures.zeros

pub returns-clause-zeros : goal.returns-clause-zeros
returns-clause-zeros c = fresh_zeros c.in_ok-raw.raw c.args.pages c.in_ok-raw.ensures.zeros

pub returns-clause-apart : goal.returns-clause-apart
returns-clause-apart c = apart (new_pool c.in_ok-raw.raw)
