use Rattle.std.proofs.Common.{ap, sym, ◌∙◌}
use Rattle.cyc_types.specs.Types.{static_type}
use Rattle.source_typing.specs.Declarations.{fitting_local}
use Rattle.check_faults.proofs.Shortened.{after_of}
use Rattle.check_faults.specs.Verdicts.{shortened}
use Rattle.check_declarations.proofs.LocalTypes.{fitting_is}
use Rattle.check_declarations.proofs.local_types.fitting.Goals as goal

pub returns-in-Of : goal.returns-in-Of
returns-in-Of c g t known item e =
    let at = c.args.at in
    let count = c.args.count in
    let set = c.args.set in
    c.fitted.ensures ∙ ap (λ v. shortened v) (fitting_is c.args.scope.now g known c.args.item item at count set (static_type c.in-Of.of))
    ∙ sym (after_of static_type c.args.of t (fitting_local g at count set) e c.in-Of.of c.in-Of.is)
