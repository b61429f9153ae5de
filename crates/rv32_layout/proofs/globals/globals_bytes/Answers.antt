use Rattle.std.proofs.Common.{◌+◌, ◌<◌, ◌∷◌, length, drop, sym, ap, ◌∙◌, arith, vec_len}
use Rattle.std.proofs.lemmas.List.{drop_more}
use Rattle.rv32_layout.proofs.Statics.{rest_joined, size_within}
use Rattle.rv32_layout.proofs.globals.globals_bytes.Goals as goal

pub put_global-requires-clause-small : goal.put_global-requires-clause-small
put_global-requires-clause-small c =
    let globals = c.args.globals.now in
    let d = c.global-item.result in
    let others = drop (c.each.global-index + 1) globals in
    let inside : c.each.global-index < length globals = omega arith in
    let here = drop_more globals c.each.global-index d inside ∙ ap (λ x. x ∷ others) (sym c.global-item.is) in
    let within = size_within c.args.offsets.now (drop c.each.global-index globals) d others c.each.bytes.items (vec_len c.each.bytes) _ here (omega arith)
    c.each.invariant.whole in
    omega (arith, within, c.requires.within)

pub each-preserved : goal.each-preserved
each-preserved c =
    let globals = c.args.globals.now in
    let d = c.global-item.result in
    let others = drop (c.each.global-index + 1) globals in
    let inside : c.each.global-index < length globals = omega arith in
    let here = drop_more globals c.each.global-index d inside ∙ ap (λ x. x ∷ others) (sym c.global-item.is) in
    record {
      whole = rest_joined c.args.offsets.now (drop c.each.global-index globals) d others c.each.bytes.items c.put_global.new.bytes.items (vec_len c.each.bytes)
          (vec_len c.put_global.new.bytes) _ here (omega arith) (omega arith) c.in_ok-put_global.ensures c.each.invariant.whole;
    }
