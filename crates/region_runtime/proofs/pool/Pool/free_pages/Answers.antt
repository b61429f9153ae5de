use Rattle.std.proofs.Common.{arith, ap, length}
use Rattle.region_runtime.specs.Steps.{seen}
use Rattle.region_runtime.proofs.Ordered.{freed_least}
use Rattle.region_runtime.proofs.pool.Pool.free_pages.Goals as goal

pub overflow_add-result : goal.overflow_add-result
overflow_add-result c =
    let t = seen c.self.inside.book in
    let f = freed_least t c.self.invariant.ordered in let b = c.self.invariant.ordered.begun in let m = c.self.invariant.ordered.few in
    let e = c.fresh_pages.ensures.fresh in let v = ap (λ p. length p.words) c.self.view_is in
    omega (arith, f, b, m, e, v)
