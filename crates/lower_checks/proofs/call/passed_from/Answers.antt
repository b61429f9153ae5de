use Rattle.std.proofs.Common.{rules, arith, ◌<◌}
use Rattle.source_lowering.specs.Lowered.{from_on}
use Rattle.lower_checks.proofs.Arguments.{one_passed}
use Rattle.lower_checks.proofs.call.passed_from.Goals as goal

pub each-preserved : goal.each-preserved
each-preserved c =
    let within : c.each.counter < c.args.count = search rules in
    record {
      passed = one_passed c.each.passed.items c.push.new.self.items c.each.next c.behind-next.result.0 c.args.count c.each.counter
          (from_on c.args.first.0 c.args.count) within c.in_default.ensures.items c.behind-next.ensures c.each.invariant.passed;
      next = omega (arith, c.behind-next.ensures, c.each.invariant.next);
    }
