use Rattle.check_scopes.proofs.Linking.{last_updated}
use Rattle.std.specs.Prelude.{Some}
use Rattle.check_scopes.proofs.last.LastLocals.add.Goals as goal

pub returns-clause-added : goal.returns-clause-added
returns-clause-added c = last_updated c.args.name.now c.args.self.now.by_name c.insert.new.self (Some c.args.position) c.in_ok-insert.ensures.updates
