use Rattle.source_typing.specs.Functions.{with_parameters}
use Rattle.check_heads.specs.Bodies.{types_of}
use Rattle.check_functions.proofs.body.inside_fault.Goals as goal

pub returns : goal.returns
returns c g ms named stands =
    c.items_fault.ensures.fault (with_parameters ms (types_of c.args.parameters.now) g)
    (c.in_ok-declare_parameters.ensures c.args.known.now g ms named stands)
