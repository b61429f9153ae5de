use Rattle.cyc_parser.proofs.Chains.{is_chained}
use Rattle.cyc_parser.proofs.level.linked.Goals as goal

pub returns-in_ok-new-clause-tree : goal.returns-in_ok-new-clause-tree
returns-in_ok-new-clause-tree c =
    is_chained c.in_ok-new.field-0 c.args.links c.without_spare.result c.args.first c.in_ok-new.ensures.ok c.without_spare.ensures c.if-is_empty.ensures
