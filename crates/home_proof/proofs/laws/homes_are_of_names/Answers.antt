use Rattle.home_proof.proofs.HomesOfNames.{homes_of_names}
use Rattle.home_proof.proofs.laws.homes_are_of_names.Goals as goal

pub returns : goal.returns
returns c = homes_of_names
