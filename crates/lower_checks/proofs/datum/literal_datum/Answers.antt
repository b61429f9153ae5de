use Rattle.std.proofs.Common.{◌≡◌, arith}
use Rattle.std.proofs.lemmas.Grind.{common_steps}
use Rattle.lower_checks.proofs.Bytes.{text_same}
use Rattle.lower_checks.proofs.datum.literal_datum.Goals as goal

pub each-preserved : goal.each-preserved
each-preserved c = record {
  all = grind (arith, common_steps, c.each.invariant.all, c.in_ok-add_byte.ensures.added);
  low = c.in_ok-add_byte.ensures.low c.each.invariant.low;
}

pub returns : goal.returns
returns c = record {
  datum =
      λ w.
      let all : c.each.bytes.items ≡ c.args.literal.bytes.now = grind (arith, common_steps, c.each.invariant.all, c.each-test.false) in
      text_same w c.args.literal.at c.args.literal.bytes.now c.each.bytes.items all c.each.invariant.low;
}
