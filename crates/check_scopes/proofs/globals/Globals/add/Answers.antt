use Rattle.std.specs.Prelude.{Some}
use Rattle.std.proofs.lemmas.Map.Text.{hash_map_updates_str}
use Rattle.check_scopes.proofs.globals.Globals.add.Goals as goal

pub returns-clause-names : goal.returns-clause-names
returns-clause-names c =
    hash_map_updates_str c.args.name.now c.args.self.now.entries c.insert.new.self (Some c.args.meaning) c.in_ok-insert.ensures.updates
