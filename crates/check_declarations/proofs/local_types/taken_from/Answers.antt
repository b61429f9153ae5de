use Rattle.std.proofs.Common.{◌≡◌, ap, subst, sym, ◌∙◌}
use Rattle.std.specs.Prelude.{IfOk}
use Rattle.cyc_types.specs.Types.{static_type}
use Rattle.check_operators.specs.Values.{value_of}
use Rattle.check_faults.specs.Verdicts.{short_of, shortened}
use Rattle.check_declarations.proofs.LocalTypes.{from_faulty, from_value}
use Rattle.check_declarations.proofs.local_types.taken_from.Goals as goal

pub returns-in-Of : goal.returns-in-Of
returns-in-Of c g w v known item e k =
    let same = from_value g c.args.at w v _ (ap (short_of value_of) (sym c.in-Of.is) ∙ k) in
    subst (λ u. IfOk c.local_type.result (λ found. short_of static_type found ≡ shortened u)) (sym same) (c.local_type.ensures g w known item e)

pub returns-in-Wrong : goal.returns-in-Wrong
returns-in-Wrong c g w v known item e k =
    let same = from_faulty g c.args.at w v _ (ap (short_of value_of) (sym c.in-Wrong.is) ∙ k) in
    c.unsettled.ensures w e ∙ ap (λ u. shortened u) (sym same)
