use Rattle.std.proofs.Common.{arith}
use Rattle.check_scopes.proofs.Linking.{all_left, last_is_there, leaves_one}
use Rattle.check_scopes.proofs.locals.Locals.leave.Goals as goal

pub set-requires : goal.set-requires
set-requires c = last_is_there c.each.self-inside.all.items c.pop.new.self.items c.in-Some.local c.in-Some.ensures.items c.each.invariant

pub each-preserved-in-Some : goal.each-preserved-in-Some
each-preserved-in-Some c =
    leaves_one c.each.self-inside.all.items c.pop.new.self.items c.in-Some.local c.in-Some.ensures.items c.each.invariant c.set.new.self
    (omega (arith, c.each-test.true, c.len.ensures)) c.set.ensures

pub returns : goal.returns
returns c =
    all_left c.args.count c.args.self.now c.each.self-inside.all.items c.each.self-inside.last c.each.invariant
    (omega (arith, c.each-test.false, c.len.ensures))
