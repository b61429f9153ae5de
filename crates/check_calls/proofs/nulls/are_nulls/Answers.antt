use Rattle.std.proofs.Common.{◌≡◌, ◌<◌, ◌≤◌, ap, sym, ◌∙◌, arith, get_or, length, true}
use Rattle.check_calls.specs.Nulls.{is_null_to}
use Rattle.check_calls.proofs.NullCalls.{nulls_before, nulls_behind}
use Rattle.check_calls.proofs.nulls.are_nulls.Goals as goal

pub returns : goal.returns
returns c h =
    let ps = c.args.parameters.now in
    let vs = c.args.arguments.now in
    let past : length vs ≤ c.each.index = omega (arith, c.each-test.false, c.if-parameters-arguments.false) in
    c.each.invariant (nulls_behind c.each.index ps vs c.each-test.false past)

pub each-preserved : goal.each-preserved
each-preserved c rest =
    let ps = c.args.parameters.now in
    let vs = c.args.arguments.now in
    let i = c.each.index in
    let p = c.index-parameters-index.result in
    let v = c.index-arguments-index.result in
    let short : i < length vs = omega (arith, c.each-test.true, c.if-parameters-arguments.false) in
    let is : is_null_to (get_or ps i p, get_or vs i v) ≡ true =
    ap (λ x. is_null_to (x, get_or vs i v)) (sym c.index-parameters-index.is) ∙ ap (λ x. is_null_to (p, x)) (sym c.index-arguments-index.is)
    ∙ sym c.is_null_to.ensures ∙ c.if-not-is_null_to.false in
    c.each.invariant (nulls_before i ps vs p v c.each-test.true short is rest)
