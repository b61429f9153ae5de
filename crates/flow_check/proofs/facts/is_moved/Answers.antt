use Rattle.std.proofs.Common.{ap, not, sym, ◌∙◌}
use Rattle.cyc_types.proofs.Sameness.{copyable_same}
use Rattle.cyc_types.specs.Types.{static_type}
use Rattle.check_faults.specs.Verdicts.{short_of}
use Rattle.check_operators.specs.Values.{value_of}
use Rattle.flow_check.specs.Short.{is_moved_short}
use Rattle.flow_check.proofs.facts.is_moved.Goals as goal

pub returns-in-Of : goal.returns-in-Of
returns-in-Of c = λ g has.
    ap not (c.is_copyable.ensures ∙ sym (copyable_same c.args.tables.now g.tables has (static_type c.in-Of.value.of)))
    ∙ ap (λ j. is_moved_short g (short_of value_of j)) (sym c.in-Of.is)
