use Rattle.cyc_parser.proofs.OnePlace.{one_place, one_depth}
use Rattle.cyc_parser.proofs.OneFault.{one_fault}
use Rattle.cyc_parser.proofs.item.one_place.Goals as goal

pub returns-clause-unexpected : goal.returns-clause-unexpected
returns-clause-unexpected c = one_place

pub returns-clause-too_deep : goal.returns-clause-too_deep
returns-clause-too_deep c = one_depth

pub returns-clause-not_both : goal.returns-clause-not_both
returns-clause-not_both c = one_fault
