use Rattle.cyc_tree.specs.View.{type_tree}
use Rattle.source_typing.specs.Tags.{settled_alone}
use Rattle.source_typing.specs.Verdicts.{after}
use Rattle.source_typing.specs.Written.{written}
use Rattle.check_types.proofs.tagged.result_type_in.Goals as goal

pub returns : goal.returns
returns c g h =
    let t = type_tree c.args.of.now in
    let w = written g c.args.names.now t in
    c.fitting.ensures (after w (settled_alone t.at)) (c.in_ok-settled.ensures w (c.in_ok-found.ensures g h))
