use Rattle.std.proofs.Common.{arith}
use Rattle.region_runtime.proofs.Blank.{one_where, none_where}
use Rattle.region_runtime.proofs.book.Book.take.Goals as goal

pub returns-then-self-gt0-clause-touched : goal.returns-then-self-gt0-clause-touched
returns-then-self-gt0-clause-touched c = let e = one_where c.args.self.now.freed c.if-self-gt0.true in omega (arith, e)

pub returns-else-self-gt0-clause-touched : goal.returns-else-self-gt0-clause-touched
returns-else-self-gt0-clause-touched c = let e = none_where c.args.self.now.freed c.if-self-gt0.false in omega (arith, e)
