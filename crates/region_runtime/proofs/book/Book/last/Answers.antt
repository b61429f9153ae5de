use Rattle.std.proofs.Common.{arith, sym, ◌∙◌, ap, ◌+◌}
use Rattle.region_runtime.proofs.Words.{last_of_heap, last_of_region}
use Rattle.region_runtime.specs.Steps.{seen}
use Rattle.region_runtime.proofs.book.Book.last.Goals as goal

pub returns-then-number-eq0-clause-value : goal.returns-then-number-eq0-clause-value
returns-then-number-eq0-clause-value c = sym (last_of_heap (seen c.args.self.now) c.args.number c.if-number-eq0.true)

pub returns-else-number-eq0-clause-value : goal.returns-else-number-eq0-clause-value
returns-else-number-eq0-clause-value c =
    ap (λ n. n + 1) c.read.ensures.value ∙ sym (last_of_region (seen c.args.self.now) c.args.number (c.requires.live (omega arith)))

pub overflow_add-result : goal.overflow_add-result
overflow_add-result c =
    let e = last_of_region (seen c.args.self.now) c.args.number (c.requires.live (omega arith)) in let v = c.read.ensures.value in omega (arith, e, v)
