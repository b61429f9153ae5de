use Rattle.std.proofs.Common.{◌≡◌, ◌∙◌, suc, ◌+◌, ◌-◌, ap, arith, replicate}
use Rattle.rv32_select.proofs.Pushing.{pushed}
use Rattle.rv32_select.proofs.runs.put_alike.Goals as goal

pub each-preserved : goal.each-preserved
each-preserved c =
    let i = c.each.counter in
    let n = c.args.count in
    let v = c.args.value in
    let less = c.each-test.true in
    let one : n - i ≡ suc (n - (i + 1)) = omega (arith, less) in
    record {
      whole = pushed c.each.flags.items _ (replicate (n - (i + 1)) v) (replicate (n - i) v) v c.in_ok-push.ensures.items (ap (λ k. replicate k v) one)
          ∙ c.each.invariant.whole;
    }
