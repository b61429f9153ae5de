use Rattle.std.proofs.Common.{◌∙◌, arith}
use Rattle.rv32_layout.proofs.Statics.{zero_joined}
use Rattle.rv32_layout.proofs.globals.put_zeros.Goals as goal

pub each-preserved : goal.each-preserved
each-preserved c = record {
  whole = zero_joined c.each.bytes.items c.push.new.self.items c.each.counter c.args.count (omega arith) c.in_ok-push.ensures.items ∙ c.each.invariant.whole;
}
