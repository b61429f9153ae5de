use Rattle.std.proofs.Common.{rules}
use Rattle.lower_checks.proofs.Linking.{last_updated}
use Rattle.lower_checks.proofs.last.Lasts.set.Goals as goal

pub returns-in-Some : goal.returns-in-Some
returns-in-Some g c =
    last_updated c.args.name.now c.args.self.now.by_name (c.get_mut.follows.lender c.args.value) c.args.value
    ((c.get_mut.follows.holds c.args.value).3 (search rules))
