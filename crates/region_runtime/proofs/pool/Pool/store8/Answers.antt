use Rattle.std.proofs.Common.{refl, ◌∙◌}
use Rattle.region_runtime.specs.Steps.{pool_of}
use Rattle.region_runtime.proofs.Along.{apart, bytes_along}
use Rattle.region_runtime.proofs.Bytes.{said_by, store_by, store_out, below_out}
use Rattle.region_runtime.proofs.pool.Pool.store8.Goals as goal

pub returns-then-at-lt-BASE-clause-bytes : goal.returns-then-at-lt-BASE-clause-bytes
returns-then-at-lt-BASE-clause-bytes c =
    store_out (pool_of c.self.inside.book) _ (record (pool_of c.self.inside.book) { touched = 0 }) c.self.view_is c.args.at c.args.byte (below_out
    (pool_of c.self.inside.book) c.args.at c.if-at-lt-BASE.true) (bytes_along (pool_of c.self.inside.book) (pool_of c.self.inside.book) (record
    (pool_of c.self.inside.book) { touched = 0 }) refl refl)

pub returns-then-at-lt-BASE-clause-apart : goal.returns-then-at-lt-BASE-clause-apart
returns-then-at-lt-BASE-clause-apart c = apart _

pub returns-clause-says : goal.returns-clause-says
returns-clause-says c = c.set_byte.ensures.says ∙ said_by (pool_of c.self.inside.book) _ c.self.view_is c.self.invariant c.args.at c.if-at-lt-BASE.false

pub returns-clause-bytes : goal.returns-clause-bytes
returns-clause-bytes c =
    store_by (pool_of c.self.inside.book) _ _ c.self.view_is c.self.invariant c.args.at c.args.byte c.if-at-lt-BASE.false c.set_byte.ensures.bytes

pub returns-clause-apart : goal.returns-clause-apart
returns-clause-apart c = apart _
