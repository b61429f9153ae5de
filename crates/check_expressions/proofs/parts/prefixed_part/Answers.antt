use Rattle.source_typing.specs.Operators.{prefixed}
use Rattle.check_faults.specs.Verdicts.{shortened}
use Rattle.check_operators.specs.Values.{value_of}
use Rattle.check_expressions.proofs.Joining.{one_answers}
use Rattle.check_expressions.proofs.parts.prefixed_part.Goals as goal

pub returns-in-Of : goal.returns-in-Of
returns-in-Of c =
    λ g k. one_answers value_of value_of c.prefixed.result c.args.operand (λ a. shortened (prefixed g c.args.at c.args.operator a)) c.in-Of.value
    c.in-Of.is (c.prefixed.ensures g k)
