use Rattle.region_runtime.proofs.Words.{word_read}
use Rattle.region_runtime.proofs.book.Book.read.Goals as goal
use Rattle.std.proofs.Common.{◌∙◌}

pub returns-clause-value : goal.returns-clause-value
returns-clause-value c = c.word.ensures ∙ word_read _ c.args.page c.args.field c.requires.page c.requires.field
