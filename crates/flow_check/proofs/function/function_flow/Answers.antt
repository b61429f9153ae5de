use Rattle.std.proofs.Common.{false}
use Rattle.cyc_tree.specs.View.{function_tree}
use Rattle.source_typing.specs.Functions.{head_of}
use Rattle.flow_check.proofs.function.function_flow.Goals as goal

pub returns : goal.returns
returns c g known =
    c.headed_flow.ensures g (head_of false g (function_tree c.args.function.now)) known (c.in_ok-head.ensures g known.tag_names)
