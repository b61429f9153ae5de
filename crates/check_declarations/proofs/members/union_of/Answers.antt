use Rattle.check_declarations.proofs.Switched.{nowhere, parts_there}
use Rattle.check_declarations.proofs.members.union_of.Goals as goal

pub returns-in-Some-clause-parts : goal.returns-in-Some-clause-parts
returns-in-Some-clause-parts c = λ g has. parts_there g _ has

pub returns-in-None-clause-parts : goal.returns-in-None-clause-parts
returns-in-None-clause-parts c = λ g has. nowhere g
