use Rattle.std.proofs.Common.{◌≡◌, [], false, refl, subst}
use Rattle.std.specs.Prelude.{IfOk}
use Rattle.source_typing.specs.Faults.{earliest}
use Rattle.source_typing.specs.Scope.{at_item}
use Rattle.check_faults.specs.Faults.{faults_of}
use Rattle.check_tables.proofs.Scopes.{knows_nothing, same_conversion}
use Rattle.check_tables.proofs.constant.given_fault.Goals as goal

pub returns : goal.returns
returns c lenient g i v t e h =
    subst (λ fs. IfOk c.set_fault.result (λ f. faults_of f ≡ earliest fs)) (same_conversion lenient g i v t)
    (c.set_fault.ensures (at_item false [] 0) v t (knows_nothing _ c.new-globals.ensures c.new-tables.ensures c.new.ensures c.of_item.ensures refl) e h)
