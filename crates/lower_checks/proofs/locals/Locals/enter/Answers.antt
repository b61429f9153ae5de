use Rattle.std.proofs.Common.{arith}
use Rattle.lower_checks.proofs.Linking.{depth_few}
use Rattle.lower_checks.proofs.locals.Locals.enter.Goals as goal

pub overflow_add-self : goal.overflow_add-self
overflow_add-self c =
    let marks = c.self.inside.marks in
    omega (arith, depth_few marks.items c.self.inside.last c.self.inside.depth c.self.invariant, marks.ok.0, marks.ok.1, marks.small)
