use Rattle.cyc_tree.specs.View.{function_tree}
use Rattle.source_typing.specs.Functions.{head_of}
use Rattle.check_tables.proofs.names.function_meaning.Goals as goal

pub returns : goal.returns
returns c g known =
    let f = function_tree c.args.function.now in
    c.head_meaning.ensures f (head_of c.args.lenient g f) (c.in_ok-head.ensures g known.names)
