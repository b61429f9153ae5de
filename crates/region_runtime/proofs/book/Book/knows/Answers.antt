use Rattle.std.proofs.Common.{arith}
use Rattle.raw_pages.specs.Raw.{count}
use Rattle.region_runtime.proofs.Words.{known_none, known_beyond, known_here}
use Rattle.region_runtime.proofs.Blank.{number_none, number_read, number_beyond}
use Rattle.region_runtime.proofs.book.Book.knows.Goals as goal

pub returns-then-number-eq0-clause-value : goal.returns-then-number-eq0-clause-value
returns-then-number-eq0-clause-value c = known_none _ c.args.number c.if-number-eq0.true

pub returns-then-number-pages-clause-value : goal.returns-then-number-pages-clause-value
returns-then-number-pages-clause-value c = known_beyond _ c.args.number (omega arith)

pub returns-clause-value : goal.returns-clause-value
returns-clause-value c = known_here _ c.args.number _ c.if-number-eq0.false c.read.ensures.value

pub returns-then-number-eq0-clause-touched : goal.returns-then-number-eq0-clause-touched
returns-then-number-eq0-clause-touched c =
    let e = number_none (count c.args.self.now.raw) c.args.number c.if-number-eq0.true in omega (arith, e)

pub returns-then-number-pages-clause-touched : goal.returns-then-number-pages-clause-touched
returns-then-number-pages-clause-touched c =
    let e = number_beyond (count c.args.self.now.raw) c.args.number (omega arith) in omega (arith, e)

pub returns-clause-touched : goal.returns-clause-touched
returns-clause-touched c =
    let e = number_read (count c.args.self.now.raw) c.args.number c.if-number-eq0.false (omega arith) in omega (arith, e)
