use Rattle.std.proofs.Common.{arith}
use Rattle.region_runtime.proofs.Words.{taken_here, taken_beyond}
use Rattle.raw_pages.specs.Raw.{count}
use Rattle.region_runtime.proofs.Blank.{page_read, page_beyond}
use Rattle.region_runtime.proofs.book.Book.is_taken.Goals as goal

pub returns-clause-value : goal.returns-clause-value
returns-clause-value c = taken_here _ c.args.page _ c.read.ensures.value

pub returns-then-page-pages-clause-value : goal.returns-then-page-pages-clause-value
returns-then-page-pages-clause-value c = taken_beyond _ c.args.page (omega arith)

pub returns-clause-touched : goal.returns-clause-touched
returns-clause-touched c = let e = page_read (count c.args.self.now.raw) c.args.page (omega arith) in omega (arith, e)

pub returns-then-page-pages-clause-touched : goal.returns-then-page-pages-clause-touched
returns-then-page-pages-clause-touched c = let e = page_beyond (count c.args.self.now.raw) c.args.page (omega arith) in omega (arith, e)
