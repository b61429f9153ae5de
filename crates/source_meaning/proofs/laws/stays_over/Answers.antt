use Rattle.source_meaning.proofs.Fuel.{stays_over}
use Rattle.source_meaning.proofs.laws.stays_over.Goals as goal

pub returns : goal.returns
returns c = stays_over
