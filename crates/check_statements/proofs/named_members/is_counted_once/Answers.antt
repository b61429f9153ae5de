use Rattle.check_statements.proofs.Repeated.{one_is_few}
use Rattle.check_statements.proofs.named_members.is_counted_once.Goals as goal

pub returns : goal.returns
returns c = one_is_few c.args.times
