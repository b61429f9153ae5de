use Rattle.std.proofs.Common.{◌∙◌, sym}
use Rattle.lower_checks.specs.Visible.{names_of}
use Rattle.lower_checks.proofs.Naming.{found_more}
use Rattle.lower_checks.proofs.scope.Scope.named.Goals as goal

-- an element's number of another name is passed
pub each-preserved : goal.each-preserved
each-preserved c =
    found_more c.args.self.now.numbers.now c.each.out _ c.args.name.now (names_of c.args.self.now.locals.now) c.each-test.true
    (sym c.eq.ensures ∙ c.if-eq.false)
    ∙ c.each.invariant
