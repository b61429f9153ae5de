use Rattle.region_runtime.proofs.Words.{known_none, known_beyond, known_here, word_read}
use Rattle.region_runtime.proofs.walk.is_region.Goals as goal
use Rattle.std.proofs.Common.{◌∙◌, arith}

pub returns-then-number-eq0 : goal.returns-then-number-eq0
returns-then-number-eq0 c = known_none _ c.args.number c.if-number-eq0.true

pub returns-then-number-pages : goal.returns-then-number-pages
returns-then-number-pages c = known_beyond _ c.args.number (omega arith)

pub returns : goal.returns
returns c = known_here _ c.args.number _ c.if-number-eq0.false (c.word.ensures ∙ word_read _ _ 1 (omega arith) (omega arith))
