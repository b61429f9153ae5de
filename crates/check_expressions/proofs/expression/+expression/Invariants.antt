use Rattle.std.proofs.Common.{◌≡◌, [], drop}
use Rattle.source_typing.specs.Scope.{Env}
use Rattle.check_faults.specs.Verdicts.{Is, short_of}
use Rattle.check_operators.specs.Values.{value_of}
use Rattle.check_expressions.specs.Joined.{values_of}
use Rattle.check_expressions.specs.Within.{IsIn}
use Rattle.check_expressions.proofs.Forms.{given_from, links_from, tests_from}
use Rattle.check_expressions.proofs.SuffixForms.{suffixes_from}
use Rattle.check_expressions.proofs.expression.+expression.Given as goal

-- the operands so far and the rest are all operands
abbrev pub invariant-judge_links-each : goal.invariant-judge_links-each
invariant-judge_links-each l =
    (g : Env) → IsIn l.scope l.around g
    → links_from g (short_of value_of l.judged) (drop l.link-index l.links) ≡ links_from g (short_of value_of l.fn.first) l.links

abbrev pub invariant-judge_tests-each : goal.invariant-judge_tests-each
invariant-judge_tests-each l =
    (g : Env) → IsIn l.scope l.around g
    → tests_from g (short_of value_of l.judged) (drop l.expression-index l.others)
    ≡ tests_from g (short_of value_of l.fn.first) l.others

-- the arguments so far and the rest are all arguments
abbrev pub invariant-judge_call-each : goal.invariant-judge_call-each
invariant-judge_call-each l =
    (g : Env) → IsIn l.scope l.around g
    → given_from g (short_of (λ vs. values_of vs.items) l.given) (drop l.argument-index l.arguments)
    ≡ given_from g (Is []) l.arguments

-- the suffixes so far and the rest are all suffixes
abbrev pub invariant-judge_suffixes-each : goal.invariant-judge_suffixes-each
invariant-judge_suffixes-each l =
    (g : Env) → IsIn l.scope l.around g
    → suffixes_from g (short_of value_of l.judged) (drop l.suffix-index l.suffixes)
    ≡ suffixes_from g (short_of value_of l.fn.first) l.suffixes
