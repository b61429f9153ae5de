use Rattle.std.specs.Prelude.{map, option_map}
use Rattle.std.proofs.Common.{take, ap, sym, ◌∙◌}
use Rattle.cyc_types.specs.Types.{static_type}
use Rattle.check_heads.specs.Bodies.{types_of}
use Rattle.check_heads.specs.Heads.{known_static}
use Rattle.check_heads.proofs.ParameterTypes.{more_types, types_more}
use Rattle.check_heads.proofs.meaning.known_types.Goals as goal

pub each-preserved : goal.each-preserved
each-preserved c =
    let ps = c.args.parameters.now in
    let i = c.each.parameter-index in
    let p = c.parameter-item.result in
    ap (λ ts. map (option_map static_type) ts) c.in_ok-push.ensures.items
    ∙ more_types c.each.types.items c.in_ok-known_clone.field-0 (types_of (take i ps)) (known_static p.of) c.each.invariant
    c.in_ok-known_clone.ensures
    ∙ sym (types_more ps i p c.each-test.true c.parameter-item.is)
