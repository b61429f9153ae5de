use Rattle.cyc_tree.proofs.DeepestPhrases.{none_too_deep, deep_has_place}
use Rattle.cyc_tree.proofs.laws.deepest.Goals as goal

pub returns-clause-within : goal.returns-clause-within
returns-clause-within c = none_too_deep

pub returns-clause-deeper : goal.returns-clause-deeper
returns-clause-deeper c = deep_has_place
