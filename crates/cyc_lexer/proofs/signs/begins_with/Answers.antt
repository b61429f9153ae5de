use Rattle.std.proofs.Common.{◌∙◌}
use Rattle.cyc_lexer.proofs.Steps.{pointwise-is}
use Rattle.cyc_lexer.proofs.signs.begins_with.Goals as goal

pub returns : goal.returns
returns c = c.starts_with.ensures.value ∙ pointwise-is c.args.front.now c.args.bytes.now
