use Rattle.std.proofs.Common.{take, subst, sym}
use Rattle.source_typing.specs.Functions.{with_parameters}
use Rattle.check_declarations.specs.Contexts.{StandsIn}
use Rattle.check_heads.specs.Bodies.{types_of}
use Rattle.check_declarations.proofs.Parameters.{all_parameters, next_parameter}
use Rattle.check_functions.proofs.body.declare_parameters.Goals as goal

pub each-preserved : goal.each-preserved
each-preserved c ns g ms e h =
    let ps = c.args.parameters.now in
    let i = c.each.parameter-index in
    let r = next_parameter i ps ms g c.parameter-item.result c.each-test.true c.parameter-item.is e in
    subst (λ k. StandsIn c.args.context ns 0 c.declare_parameter.new.scope k) (sym r.2)
    (c.in_ok-declare_parameter.ensures.stands ns (with_parameters (take i ms) (types_of (take i ps)) g) r.0.name r.1 (c.each.invariant ns g ms e h))

pub returns : goal.returns
returns c ns g ms e h =
    subst (λ k. StandsIn c.args.context ns 0 c.each.scope k) (all_parameters c.each.parameter-index c.args.parameters.now ms g c.each-test.false e)
    (c.each.invariant ns g ms e h)
