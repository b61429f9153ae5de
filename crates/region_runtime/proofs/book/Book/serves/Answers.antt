use Rattle.region_runtime.proofs.Serves.{heap_serves, region_serves}
use Rattle.std.proofs.Common.{arith}
use Rattle.raw_pages.specs.Raw.{count}
use Rattle.region_runtime.proofs.Blank.{number_none}
use Rattle.region_runtime.proofs.book.Book.serves.Goals as goal

pub returns-then-number-eq0-clause-value : goal.returns-then-number-eq0-clause-value
returns-then-number-eq0-clause-value c = heap_serves _ c.args.number c.if-number-eq0.true

pub returns-clause-value : goal.returns-clause-value
returns-clause-value c = region_serves _ c.args.number _ c.if-number-eq0.false c.knows.ensures.value

pub returns-then-number-eq0-clause-touched : goal.returns-then-number-eq0-clause-touched
returns-then-number-eq0-clause-touched c =
    let e = number_none (count c.args.self.now.raw) c.args.number c.if-number-eq0.true in omega (arith, e)
