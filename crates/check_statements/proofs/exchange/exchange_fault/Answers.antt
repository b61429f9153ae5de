use Rattle.std.proofs.Common.{sym, ◌∙◌}
use Rattle.cyc_tree.specs.View.{expression_tree}
use Rattle.check_statements.proofs.Exchanging.{exchange_is, exchange_wrong}
use Rattle.check_statements.proofs.exchange.exchange_fault.Goals as goal

pub returns-in-Of : goal.returns-in-Of
returns-in-Of c = λ g known.
    exchange_is g (expression_tree c.args.left.now) (expression_tree c.args.right.now) c.in_ok-first.first
    c.in_ok-second.second
    (c.in_ok-first.ensures g known) (c.in_ok-second.ensures g known) c.in-Of.first c.in-Of.second c.act_in.result c.act_in-in-Of.result c.sooner-inside.result
    c.exchanged_fault.result (sym c.paired.ensures ∙ c.in-Of.is) c.sooner-inside.ensures c.act_in.ensures c.act_in-in-Of.ensures c.exchanged_fault.ensures

pub returns-in-Wrong : goal.returns-in-Wrong
returns-in-Wrong c = λ g known.
    exchange_wrong g (expression_tree c.args.left.now) (expression_tree c.args.right.now) c.in_ok-first.first
    c.in_ok-second.second (c.in_ok-first.ensures g known) (c.in_ok-second.ensures g known) c.in-Wrong.fault (sym c.paired.ensures ∙ c.in-Wrong.is)
