use Rattle.std.proofs.Common.{Some, None, sym, ◌∙◌}
use Rattle.core_eval.proofs.LeaveMoves.{main_ends}
use Rattle.core_eval.proofs.take.status.Goals as goal

pub returns-in-Some : goal.returns-in-Some
returns-in-Some c = λ known. main_ends known c.args.returned (Some c.in-Some.word) (sym c.word_returned.ensures ∙ c.in-Some.is)

pub returns-in-None : goal.returns-in-None
returns-in-None c = λ known. main_ends known c.args.returned None (sym c.word_returned.ensures ∙ c.in-None.is)
