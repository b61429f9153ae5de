use Rattle.std.proofs.Common.{refl}
use Rattle.region_runtime.proofs.Words.{shape_written}
use Rattle.region_runtime.specs.Steps.{pool_of}
use Rattle.region_runtime.proofs.book.Book.write.Goals as goal

pub returns-clause-shape : goal.returns-clause-shape
returns-clause-shape c = shape_written (pool_of c.args.self.now) (pool_of
    (record c.args.self.now { raw = c.set_word.new.self; touched = c.args.self.now.touched }))
    c.args.page c.args.field c.args.value c.requires.page c.requires.field
    c.set_word.ensures.words refl refl refl refl
