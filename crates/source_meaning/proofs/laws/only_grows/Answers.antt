use Rattle.source_meaning.proofs.Fuel.{only_grows}
use Rattle.source_meaning.proofs.laws.only_grows.Goals as goal

pub returns : goal.returns
returns c = only_grows
