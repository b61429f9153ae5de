use Rattle.lower_checks.proofs.Linking.{last_updated}
use Rattle.std.specs.Prelude.{Some}
use Rattle.lower_checks.proofs.last.Lasts.add.Goals as goal

pub returns-clause-added : goal.returns-clause-added
returns-clause-added g c = last_updated c.args.name.now c.args.self.now.by_name c.insert.new.self (Some c.args.value) c.in_ok-insert.ensures.updates
