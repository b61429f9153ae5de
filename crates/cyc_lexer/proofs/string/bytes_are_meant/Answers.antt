use Rattle.cyc_lexer.proofs.StringSteps.{text_meant}
use Rattle.cyc_lexer.proofs.string.bytes_are_meant.Goals as goal

pub returns : goal.returns
returns c = text_meant
