use Rattle.region_runtime.specs.Steps.{pool_of}
use Rattle.region_runtime.proofs.Bytes.{load_by}
use Rattle.region_runtime.proofs.pool.Pool.load8.Goals as goal

pub returns : goal.returns
returns c = load_by (pool_of c.self.inside.book) _ c.self.view_is c.self.invariant c.args.at c.if-at-lt-BASE.false _ c.byte.ensures
