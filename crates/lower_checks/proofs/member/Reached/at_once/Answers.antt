use Rattle.std.proofs.Common.{refl}
use Rattle.lower_checks.proofs.Within.{at_once_within}
use Rattle.lower_checks.proofs.member.Reached.at_once.Goals as goal

pub returns-clause-within : goal.returns-clause-within
returns-clause-within c = λ w. at_once_within w (record { shape = c.args.shape; cells = 0; bytes = 0 }) refl
