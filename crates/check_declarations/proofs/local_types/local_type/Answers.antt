use Rattle.std.proofs.Common.{sym, ◌∙◌}
use Rattle.std.specs.Prelude.{option_map}
use Rattle.cyc_types.specs.Types.{static_type}
use Rattle.source_typing.specs.Declarations.{local_type}
use Rattle.source_typing.specs.Missing.{settled}
use Rattle.check_faults.proofs.Shortened.{after_of}
use Rattle.check_types.specs.Written.{partial_type}
use Rattle.check_declarations.proofs.local_types.local_type.Goals as goal

pub returns-in_ok-settled-in-Of : goal.returns-in_ok-settled-in-Of
returns-in_ok-settled-in-Of c g w known item e =
    let at = c.args.at in
    let s = option_map (λ s. static_type s.now) c.args.source in
    c.fitting.ensures g (settled at (partial_type c.in-Of.of) s) known item c.in_ok-settled-in-Of.ensures
    ∙ sym (after_of partial_type c.args.of w (local_type g at c.args.count c.args.set s) e c.in-Of.of c.in-Of.is)
