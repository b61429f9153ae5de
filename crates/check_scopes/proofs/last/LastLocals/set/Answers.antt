use Rattle.std.proofs.Common.{rules}
use Rattle.check_scopes.proofs.Linking.{last_updated}
use Rattle.check_scopes.proofs.last.LastLocals.set.Goals as goal

pub returns-in-Some : goal.returns-in-Some
returns-in-Some c =
    last_updated c.args.name.now c.args.self.now.by_name (c.get_mut.follows.lender c.args.position) c.args.position
    ((c.get_mut.follows.holds c.args.position).3 (search rules))
